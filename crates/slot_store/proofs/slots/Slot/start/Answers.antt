use Rattle.slot_store.proofs.Common.{ap, start_of, sym}
use Rattle.slot_store.proofs.slots.Slot.start.Goals as goal

pub returns-in-First : goal.returns-in-First
returns-in-First c = ap (start_of c.args.lines) (sym c.in-First.is)
