use Rattle.std.proofs.Common.{◌≡◌, ◌∙◌, ℕ, List, Some, ap, length, subst, sym}
use Rattle.save_device.specs.Device.{DeviceState}
use Rattle.save_device.specs.Memory.{state_of}
use Rattle.slot_store.specs.Slots.{device_size}
use Rattle.open_life.specs.Either.{first_in}
use Rattle.panguhero_c.specs.Calls.{LeavesBytes, memory_in}
use Rattle.panguhero_c.proofs.Memory.{first_state}
use Rattle.panguhero_c.proofs.Whole.{whole_row}
use Rattle.panguhero_c.proofs.opened.OpenModule.stopped.Goals as goal

pub returns : goal.returns
returns c =
    let life = c.args.self.life in let memory = c.in-Some.memory in let bytes : List ℕ = (state_of c.stop.new.self).bytes in
    let is : memory_in life ≡ Some memory = ap (λ (d : _). first_in d.device) (sym c.into_device.ensures) ∙ sym c.into_first.ensures ∙ c.in-Some.is in
    let size : length (state_of memory).bytes ≡ length c.args.into.now =
    ap (λ (s : DeviceState). length s.bytes) (sym (first_state _ _ life.device.device memory is)) ∙ life.alive.size ∙ ap device_size life.alive.fits.lines ∙ sym c.requires.size in
    let all : length c.args.into.now ≡ length bytes = sym size ∙ sym c.stop.ensures.left.size in
    subst (λ (row : List ℕ). LeavesBytes c.args.pick row life) (sym (c.in-Ok.ensures.bytes ∙ whole_row bytes (length c.args.into.now) all))
    (record { memory = memory; is = is; left = c.stop.ensures.left; picked = c.stop.ensures.picked })
