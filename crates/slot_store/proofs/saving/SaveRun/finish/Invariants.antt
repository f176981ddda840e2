use Rattle.slot_store.proofs.Common.{◌≡◌, steps_to_come}
use Rattle.slot_store.proofs.StepsMade.{HasMade}
use Rattle.slot_store.proofs.saving.SaveRun.finish.Given as goal

abbrev pub invariant-loop-made : goal.invariant-loop-made
invariant-loop-made g l =
    let S = g.D.SaveDevice in
    record {
      end : l._made-end ≡ steps_to_come l.fn.self;
      made : HasMade g.S.SaveSource l.fn.source l.fn.self (S.state l.fn.device) l._made l.source l.self (S.state l.device);
    }
