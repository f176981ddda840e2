use Rattle.slot_store.proofs.Common.{ap, other, sym}
use Rattle.slot_store.proofs.slots.Slot.other.Goals as goal

pub returns-in-First : goal.returns-in-First
returns-in-First c = ap other (sym c.in-First.is)
