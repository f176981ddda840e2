use Rattle.std.proofs.Common.{ℕ, List, refl, subst}
use Rattle.command_faults.specs.Named.{NamesNumbers}
use Rattle.command_line.proofs.Told.{numbers_kept}
use Rattle.command_line.proofs.profile.explain.Goals as goal

pub returns : goal.returns
returns g c =
    let numbers = c.in_ok-numbers.numbers in (
      refl,
      (
        numbers,
        subst (λ (word : List ℕ). NamesNumbers (g.R.FileHost.gives c.args.rt.now) word numbers) c.word_or.ensures c.in_ok-numbers.ensures.named,
        c.get_flag.result,
        numbers_kept numbers c.get_flag.result (g.W.Write.contents c.args.writer.now) (g.W.Write.contents c.write_numbers.new.writer)
            (g.W.Write.contents c.flush.new.writer) c.in_ok-write_numbers.ensures c.in_ok-flush.ensures.kept,
      ),
    )
