use Rattle.slot_store.proofs.Repeated.{HasFailed}
use Rattle.slot_store.proofs.saving.SaveRun.finish_repeating.Given as goal

abbrev pub invariant-loop-again : goal.invariant-loop-again
invariant-loop-again g l =
    let S = g.D.SaveDevice in HasFailed g.S.SaveSource l.fn.source l.fn.self (S.state l.fn.device) l._again l.source l.self (S.state l.device)
