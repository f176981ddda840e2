use Rattle.std.proofs.Common.{◌≡◌, take, arith}
use Rattle.std.proofs.lemmas.List.{take_all}
use Rattle.std.proofs.lemmas.List.Sorted.{IsPermutation-sym}
use Rattle.schedule_drawing.specs.Drawing.{AreShown}
use Rattle.schedule_drawing.specs.Layouts.{AreNeeded}
use Rattle.schedule_drawing.proofs.Shown.{needed-more, needed-permuted, shown-kept, shown-more, shown-permuted}
use Rattle.schedule_drawing.proofs.layout.Layout.of.Goals as goal

pub loop-shape-preserved : goal.loop-shape-preserved
loop-shape-preserved c =
    record {
      shown =
          shown-more c.add_all.new.lanes.items c.args.shapes.now c.loop-shape.shape-index _ c.loop-shape-test.true
          (shown-kept c.loop-shape.lanes.items c.add_all.new.lanes.items (take c.loop-shape.shape-index c.args.shapes.now)
          c.add_all.ensures.kept c.loop-shape.invariant.shown)
          c.in_ok-add_all.ensures.there;
      needed =
          needed-more c.loop-shape.lanes.items c.add_all.new.lanes.items c.args.shapes.now c.loop-shape.shape-index _ c.loop-shape-test.true
          c.add_all.ensures.only c.loop-shape.invariant.needed;
    }

pub returns-clause-shown : goal.returns-clause-shown
returns-clause-shown c =
    let all : take c.loop-shape.shape-index c.args.shapes.now ≡ c.args.shapes.now =
    take_all c.loop-shape.shape-index c.args.shapes.now (omega arith) in
    let shown : AreShown c.loop-shape.lanes.items c.args.shapes.now = rw all at c.loop-shape.invariant.shown in
    shown-permuted c.loop-shape.lanes.items c.sort_by_key.new.self.items c.args.shapes.now c.sort_by_key.ensures.permutation shown

pub returns-clause-needed : goal.returns-clause-needed
returns-clause-needed c =
    let all : take c.loop-shape.shape-index c.args.shapes.now ≡ c.args.shapes.now =
    take_all c.loop-shape.shape-index c.args.shapes.now (omega arith) in
    let needed : AreNeeded c.loop-shape.lanes.items c.args.shapes.now = rw all at c.loop-shape.invariant.needed in
    needed-permuted c.loop-shape.lanes.items c.sort_by_key.new.self.items c.args.shapes.now (IsPermutation-sym _ _ c.sort_by_key.ensures.permutation) needed
