use Rattle.slot_store.proofs.plan.Newest.next.Goals as goal

pub returns-clause-slot : goal.returns-clause-slot
returns-clause-slot c = c.other.ensures
