use Rattle.std.proofs.Common.{List, Option, arith, refl, subst, sym}
use Rattle.auto_precharge.specs.Unfolding.{ArePlaced}
use Rattle.auto_precharge.specs.declared.waiting.Closing.{Closing}
use Rattle.auto_precharge.proofs.Settling.{settled_behind, settled_by_now}
use Rattle.auto_precharge.proofs.unfolding.Unfolding.settle.Goals as goal

pub returns-then-clock-self : goal.returns-then-clock-self
returns-then-clock-self c u s = settled_by_now c.args.rules.now c.args.self.now u c.args.clock (omega arith) s

pub returns : goal.returns
returns c u s =
    let placed = subst (λ (w : List (Option Closing)). ArePlaced c.args.rules.now.geometry w) (sym s.closings) s.placed in
    settled_behind c.args.rules.now c.args.self.now _ u c.args.clock (c.go_due.ensures u.list s.keeps placed) c.drop_due.ensures.length c.drop_due.ensures.rest
    c.soonest_of-self.ensures refl s
