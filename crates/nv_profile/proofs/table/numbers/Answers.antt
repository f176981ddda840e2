use Rattle.std.proofs.Common.{arith}
use Rattle.std.proofs.lemmas.List.{length-set, take_all}
use Rattle.nv_profile.proofs.TableLemmas.{one_number_more, no_numbers}
use Rattle.nv_profile.proofs.table.numbers.Goals as goal

pub returns-in_err-numbers-clause-none : goal.returns-in_err-numbers-clause-none
returns-in_err-numbers-clause-none c _ = no_numbers _ _ c.loop-place.place _ (omega arith) c.in_err-numbers.ensures

pub loop-place-preserved : goal.loop-place-preserved
loop-place-preserved c =
    let (long, before) = c.loop-place.invariant in
    (simp length-set long, one_number_more _ _ _ _ _ _ (omega arith) (omega arith) before c.in_ok-numbers.ensures)

pub returns-clause-some : goal.returns-clause-some
returns-clause-some c =
    let (long, all) = c.loop-place.invariant in
    rw (← take_all c.loop-place.place c.args.keys (omega arith), ← take_all c.loop-place.place c.loop-place.numbers (omega arith)) all
