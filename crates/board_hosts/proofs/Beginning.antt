-- A module whose life has just begun.
use Rattle.std.proofs.Common.{◌≡◌, ◌∙◌, ℕ, zero, suc, ◌+◌, ◌-◌, ◌≤◌, List, [], length, take, drop, refl, sym, ap, arith}
use Rattle.std.proofs.lemmas.Grind.{merely}
use Rattle.board_hosts.proofs.Common.{Ghosts as GaugeGhosts, IsRecordKept, LivedUntil, ModuleStands, RecordedModule, StandsWith, setup_of, world_for}
use Rattle.line_memory.specs.declared.Write as line_write
use Rattle.line_memory.specs.Memory.{after, memory_at}
use Rattle.line_memory.specs.History.{Recorded, recorded}
use Rattle.save_device.specs.Device.{DeviceState, StopsWithin, present}
use Rattle.save_device.specs.declared.device.SaveDevice.{Ghosts as DeviceGhosts}
use Rattle.save_image.specs.Image.{Image}
use Rattle.slot_store.specs.declared.head.Head.{Head}
use Rattle.slot_store.specs.Outcomes.{Found, restored}
use Rattle.slot_store.proofs.Resting.{found_only}
use Rattle.channel_port.specs.declared.port.ChannelPort.{Ghosts}
use Rattle.module_core.specs.declared.module.Module.{Module}
use Rattle.module_core.specs.Opening.{opened_with}
use Rattle.module_core.specs.Stands.{lines_of_module}
use Rattle.module_saves.proofs.StoreSteps.{stop_now}
use Rattle.board_hosts.specs.Kept.{HasJustBegun}
use Rattle.board_hosts.proofs.Living.{lived_first}

-- a life without a write
abbrev no_write : List line_write.Write
no_write = []

none_taken : (k : ℕ) → take k no_write ≡ no_write
none_taken zero = refl
none_taken (suc k) = refl

none_left : (k : ℕ) → drop k no_write ≡ no_write
none_left zero = refl
none_left (suc k) = refl

-- is recorded as it begins
recorded_new : (image : Image) (room : ℕ) → recorded image.memory image.count no_write room
    ≡ recorded (memory_at image.memory image.count no_write image.count) image.count (drop (image.count - image.count) no_write) room
recorded_new image room =
    sym (ap (λ (ws : List line_write.Write). recorded (after image.memory ws) image.count (drop (image.count - image.count) no_write) room) (none_taken (image.count - image.count))
    ∙ ap (λ (ws : List line_write.Write). recorded image.memory image.count ws room) (none_left (image.count - image.count)))

-- the device of a module that stands for a new life holds the image that the life was opened with
opened_on : {K : Type 0} (L : Ghosts K) (found : Head) (image : Image) (it : Module K L) (device : DeviceState) → ModuleStands L it device (opened_with found image)
    → StopsWithin (λ bytes. restored (lines_of_module L it) bytes ≡ Found found.newest.slot image) (present device)
opened_on L found image it device stands bytes left =
    found_only found.newest.slot image (restored (lines_of_module L it) bytes) (stop_now (lines_of_module L it) (opened_with found image).store it.front.saves.saving device stands.holds bytes left)

module _ {K D E : Type 0} (L : Ghosts K) (M : DeviceGhosts D) (it : RecordedModule K D E L) (found : Head) (image : Image) (begun : HasJustBegun L M it found image) where
  -- the new machine is the one whose life is recorded
  pub begun_stands : StandsWith L M it (opened_with found image)
  begun_stands = record { stands = begun.stands; stored = begun.recorded_is ∙ recorded_new image it.history.room }

  -- it has accepted no write
  pub begun_is_whole : it.running.front.accepted ≡ it.running.front.terms.start + length it.history.writes
  begun_is_whole =
      let none : length it.history.writes ≡ 0 = ap (λ (h : Recorded). length h.writes) begun.recorded_is in
      omega (arith, none, begun.stands.matches.front.accepted, begun.stands.matches.front.start)

  module _ (N : GaugeGhosts E) where
    -- a life leads to it
    pub begun_lives : LivedUntil (setup_of L it.running) (world_for L M N it (opened_with found image))
    begun_lives =
        lived_first (setup_of L it.running) found.newest.slot found.closed image (world_for L M N it (opened_with found image)) refl
        (opened_on L found image it.running (M.state it.device) begun.stands)

    -- so record and life are kept
    pub begun_is_kept : it.running.front.terms.trail ≤ it.history.room → IsRecordKept L M N it
    begun_is_kept room = record { stands = merely (opened_with found image, begun_stands, begun_lives); room = room }
