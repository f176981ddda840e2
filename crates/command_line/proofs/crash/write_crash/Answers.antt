use Rattle.std.proofs.Common.{List, ℕ, subst}
use Rattle.std.proofs.lemmas.Result.{on_ok_weaker}
use Rattle.crash_table.specs.Tables.{TellsEach}
use Rattle.ddr4_timing.specs.Limits.{lines_of}
use Rattle.nv_profile.specs.declared.profile.Profile.{Profile}
use Rattle.command_line.specs.Crash.{IsReadFrom}
use Rattle.command_line.proofs.crash.write_crash.Goals as goal

pub returns : goal.returns
returns g c =
    let asked = c.args.asked.now in
    let script = c.in_ok-script.script in
    on_ok_weaker c.write_table.result (λ told. record {
      script = script;
      read = subst (λ (text : List ℕ). IsReadFrom asked.profile.checked.geometry text script) c.deref.ensures.value
          (c.in_ok-script.ensures.lines, c.in_ok-script.ensures.numbers);
      table = c.in_ok-table.table;
      tells = subst (λ (profile : Profile). TellsEach (lines_of profile.checked.geometry) script c.in_ok-table.table) c.new.ensures
          c.in_ok-table.ensures.tells;
      told = told;
    }) c.write_table.ensures
