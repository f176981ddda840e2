use Rattle.std.proofs.Common.{Contains, subst}
use Rattle.schedule_drawing.specs.Drawing.{shape_lane}
use Rattle.schedule_drawing.specs.declared.lanes.Lane.{Lane}
use Rattle.schedule_drawing.proofs.Shown.{bus-shown, own-shown, rank-shown}
use Rattle.schedule_drawing.proofs.layout.add_all.Goals as goal

pub returns-in_err-add-clause-only : goal.returns-in_err-add-clause-only
returns-in_err-add-clause-only c =
    own-shown c.args.lanes.now.items c.add.new.lanes.items (shape_lane c.args.shape.now) c.lane-lane.result
    c.lane-lane.ensures c.add.ensures.only

pub returns-in_err-add-2-clause-only : goal.returns-in_err-add-2-clause-only
returns-in_err-add-2-clause-only c =
    bus-shown c.args.lanes.now.items c.add.new.lanes.items c.add-2.new.lanes.items (shape_lane c.args.shape.now) c.lane-lane.result c.of_bus.result
    c.lane-lane.ensures c.of_bus.ensures
    (own-shown c.args.lanes.now.items c.add.new.lanes.items (shape_lane c.args.shape.now) c.lane-lane.result
    c.lane-lane.ensures c.add.ensures.only)
    c.add-2.ensures.only

pub returns-in_err-add-in-Bank-clause-only : goal.returns-in_err-add-in-Bank-clause-only
returns-in_err-add-in-Bank-clause-only c =
    rank-shown c.args.lanes.now.items c.add-2.new.lanes.items c.add-in-Bank.new.lanes.items (shape_lane c.args.shape.now) c.lane-lane.result c.of_rank.result c.in-Bank.at
    c.lane-lane.ensures c.in-Bank.is c.of_rank.ensures
    (bus-shown c.args.lanes.now.items c.add.new.lanes.items c.add-2.new.lanes.items (shape_lane c.args.shape.now) c.lane-lane.result c.of_bus.result
    c.lane-lane.ensures c.of_bus.ensures
    (own-shown c.args.lanes.now.items c.add.new.lanes.items (shape_lane c.args.shape.now) c.lane-lane.result
    c.lane-lane.ensures c.add.ensures.only)
    c.add-2.ensures.only)
    c.add-in-Bank.ensures.only

pub returns-in_ok-add-in-Bank-clause-only : goal.returns-in_ok-add-in-Bank-clause-only
returns-in_ok-add-in-Bank-clause-only c =
    rank-shown c.args.lanes.now.items c.add-2.new.lanes.items c.add-in-Bank.new.lanes.items (shape_lane c.args.shape.now) c.lane-lane.result c.of_rank.result c.in-Bank.at
    c.lane-lane.ensures c.in-Bank.is c.of_rank.ensures
    (bus-shown c.args.lanes.now.items c.add.new.lanes.items c.add-2.new.lanes.items (shape_lane c.args.shape.now) c.lane-lane.result c.of_bus.result
    c.lane-lane.ensures c.of_bus.ensures
    (own-shown c.args.lanes.now.items c.add.new.lanes.items (shape_lane c.args.shape.now) c.lane-lane.result
    c.lane-lane.ensures c.add.ensures.only)
    c.add-2.ensures.only)
    c.add-in-Bank.ensures.only

pub returns-in_err-add-in-Bank-clause-kept : goal.returns-in_err-add-in-Bank-clause-kept
returns-in_err-add-in-Bank-clause-kept c =
    λ other held. c.add-in-Bank.ensures.kept other (c.add-2.ensures.kept other (c.add.ensures.kept other held))

pub returns-in_ok-add-in-Bank-clause-kept : goal.returns-in_ok-add-in-Bank-clause-kept
returns-in_ok-add-in-Bank-clause-kept c =
    λ other held. c.add-in-Bank.ensures.kept other (c.add-2.ensures.kept other (c.add.ensures.kept other held))

pub returns-in_default : goal.returns-in_default
returns-in_default c =
    record {
      there =
          c.add-2.ensures.kept (shape_lane c.args.shape.now)
          (subst (λ (lane : Lane). Contains c.add.new.lanes.items lane) c.lane-lane.ensures c.in_ok-add.ensures.there);
      kept = λ other held. c.add-2.ensures.kept other (c.add.ensures.kept other held);
      only =
          bus-shown c.args.lanes.now.items c.add.new.lanes.items c.add-2.new.lanes.items (shape_lane c.args.shape.now) c.lane-lane.result c.of_bus.result
          c.lane-lane.ensures c.of_bus.ensures
          (own-shown c.args.lanes.now.items c.add.new.lanes.items (shape_lane c.args.shape.now) c.lane-lane.result
          c.lane-lane.ensures c.add.ensures.only)
          c.add-2.ensures.only;
    }
