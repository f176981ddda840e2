use Rattle.std.proofs.Common.{refl}
use Rattle.command_line.proofs.Stops.{crash_kept}
use Rattle.command_line.proofs.crash.crash.Goals as goal

pub returns-in-Ok : goal.returns-in-Ok
returns-in-Ok g c =
    let asked = c.in_ok-asked.asked in (
      refl,
      record {
        profile = asked.profile;
        script = asked.script.items;
        of_profile = c.in_ok-asked.ensures.profile;
        of_script = c.in_ok-asked.ensures.script;
        told = (
          c.get_one-number.result,
          c.get_flag.result,
          crash_kept asked.profile asked.script.items c.get_one-number.result c.get_flag.result (g.W.Write.contents c.args.writer.now)
              (g.W.Write.contents c.write_asked.new.writer) (g.W.Write.contents c.flush.new.writer) c.in-Ok.ensures c.in_ok-flush-in-Ok.ensures.kept,
        );
      },
    )
