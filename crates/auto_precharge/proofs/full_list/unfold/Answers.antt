use Rattle.std.proofs.Common.{List, take, subst, sym}
use Rattle.std.proofs.lemmas.List.{take_more}
use Rattle.auto_precharge.specs.FullLists.{ListsAll}
use Rattle.auto_precharge.specs.Unfolding.{Unfolded, unfolded}
use Rattle.auto_precharge.specs.declared.issued.Issued.{Issued}
use Rattle.auto_precharge.proofs.Settling.{may_at, unfolded_push}
use Rattle.auto_precharge.proofs.full_list.unfold.Goals as goal

pub loop-i-preserved : goal.loop-i-preserved
loop-i-preserved c lawful =
    let front = take c.loop-i.i c.args.found.now in
    let timing = c.args.rules.now.timing in
    subst (λ (l : List Issued). ListsAll c.args.rules.now c.take.new.self (unfolded timing l)) (sym (take_more c.args.found.now c.loop-i.i _ c.loop-i-test.true))
    (subst (λ (u : Unfolded). ListsAll c.args.rules.now c.take.new.self u) (sym (unfolded_push timing front _))
    (c.in_ok-take.ensures (unfolded timing front) (c.loop-i.invariant lawful) (may_at c.args.rules.now c.args.found.now c.loop-i.i _ c.loop-i-test.true lawful)))
