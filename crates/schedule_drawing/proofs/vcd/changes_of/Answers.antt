use Rattle.std.proofs.Common.{◌∙◌, ◌++◌, ◌∷◌, [], List, ap, subst, sym, take, ◌+◌}
use Rattle.schedule_drawing.specs.Changes.{AreInTurn}
use Rattle.schedule_drawing.specs.declared.vcd.Change.{Change}
use Rattle.schedule_drawing.proofs.Turns.{next_in_turn, none_in_turn}
use Rattle.schedule_drawing.proofs.vcd.changes_of.Goals as goal

pub loop-shape-init : goal.loop-shape-init
loop-shape-init c = none_in_turn c.args.layout.now.lanes.items c.new-changes.result.items c.new-changes.ensures.items

pub loop-shape-preserved : goal.loop-shape-preserved
loop-shape-preserved c =
    subst (λ (cs : List Change). AreInTurn c.args.layout.now.lanes.items (take (c.loop-shape.shape-index + 1) c.args.shapes.now) cs)
    (sym (c.in_ok-push-2.ensures.items ∙ ap (λ (cs : List Change). cs ++ c.change_ended.result ∷ []) c.in_ok-push.ensures.items))
    (next_in_turn c.args.layout.now.lanes.items c.args.shapes.now c.loop-shape.shape-index _ c.loop-shape.changes.items
    c.change_begun.result c.change_ended.result c.loop-shape-test.true c.loop-shape.invariant c.change_begun.ensures c.change_ended.ensures)
