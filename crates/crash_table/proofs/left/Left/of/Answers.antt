use Rattle.std.proofs.Common.{◌≢◌, ◌<◌, ℕ, List, length, slice_index, subst, sym}
use Rattle.save_device.specs.Memory.{IsPicked}
use Rattle.save_device.specs.declared.memory.MemoryDevice.{MemoryDevice}
use Rattle.save_device.specs.declared.memory.Pick.TheVariants.{Torn}
use Rattle.crash_table.proofs.Lefts.{same_picked, tells_places}
use Rattle.crash_table.proofs.left.Left.of.Goals as goal

pub returns : goal.returns
returns c =
    let read : MemoryDevice = c.bytes_of.new.device in
    let none = subst (λ (row : List ℕ). (place : ℕ) → place < length row → slice_index row place ≢ c.in-Some.other) c.deref.ensures.value c.in-Some.ensures in
    let picked = subst (λ (image : List ℕ). IsPicked (Torn c.in-Some.other) read image) (sym c.in_ok-torn.ensures.bytes) c.stop.ensures.picked in
    tells_places c.args.device _ c.in-Some.other c.in_ok-bytes.ensures.bytes none
    (same_picked (Torn c.in-Some.other) c.args.device read c.in_ok-torn.torn.items c.bytes_of.ensures.same c.bytes_of.ensures.settled_row picked)
