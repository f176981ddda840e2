use Rattle.std.proofs.Common.{List, ◌++◌, append-nil, append_assoc, arith, subst, sym, take, ap, ◌∙◌}
use Rattle.std.proofs.lemmas.List.{take_all}
use Rattle.ddr4_timing.specs.TimingState.{Keeps}
use Rattle.ddr4_timing.specs.declared.command.Stamped.{Stamped}
use Rattle.auto_precharge.specs.Unfolding.{due}
use Rattle.auto_precharge.proofs.Settling.{due_more}
use Rattle.auto_precharge.proofs.waiting.go_due.Goals as goal

pub loop-i-init : goal.loop-i-init
loop-i-init c list s placed = rw (append-nil list) s

pub loop-i-preserved : goal.loop-i-preserved
loop-i-preserved c list s placed =
    rw (due_more c.args.clock c.loop-i.i c.args.closings.now c.loop-i-test.true, ← append_assoc list _ _)
    (c.go_one.ensures (list ++ due c.args.clock (take c.loop-i.i c.args.closings.now)) (c.loop-i.invariant list s placed) (λ p e. placed c.loop-i.i p e))

pub returns : goal.returns
returns c list s placed = rw (← take_all c.loop-i.i c.args.closings.now (omega arith)) (c.loop-i.invariant list s placed)
