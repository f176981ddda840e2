use Rattle.std.proofs.Common.{◌≡◌, ℕ, subst}
use Rattle.slot_store.specs.declared.slots.Slot.TheVariants.{First}
use Rattle.slot_store.specs.Outcomes.{Found, first_image, restored}
use Rattle.slot_store.proofs.Resting.{found_only, rest_finds}
use Rattle.save_device.specs.Memory.{state_of}
use Rattle.ddr4_boards.proofs.opening.formatted.Goals as goal

pub returns-clause-finds : goal.returns-clause-finds
returns-clause-finds c =
    let device = state_of c.format.new.device in let lines : ℕ = c.capacity_of-lines.result in
    subst (λ (n : ℕ). restored n device.bytes ≡ Found First (first_image n)) c.capacity_of-lines.ensures.is
    (found_only First (first_image lines) (restored lines device.bytes) (rest_finds device c.in_ok-format.ensures.at_rest))
