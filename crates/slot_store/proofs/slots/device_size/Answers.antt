use Rattle.slot_store.proofs.Common.{ℕ, ◌*◌, ap}
use Rattle.slot_store.proofs.slots.device_size.Goals as goal

pub returns : goal.returns
returns c = ap (λ (n : ℕ). 2 * n) c.slot_size.ensures
