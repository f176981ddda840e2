-- What is known of a module between two events.
use Rattle.std.proofs.Common.{◌≤◌, ℕ, arith, subst}
use Rattle.std.proofs.Math.Nat.{ℕ_set}
use Rattle.std.proofs.Math.Bridge.{le_prop}
use Rattle.board_hosts.proofs.Common.{Ghosts as GaugeGhosts, HasDevice, IsRecordKept, Machine, ModuleStands, ShowsNoMore}
use Rattle.board_hosts.proofs.Common.{None, Option, RecordedModule, RunningSave, Some}
use Rattle.board_hosts.proofs.Common.{Store, seen_marks, ∥∥₁_elim}
use Rattle.atomic_table.specs.Seated.{TableId}
use Rattle.save_device.specs.Device.{DeviceState}
use Rattle.save_device.specs.declared.device.SaveDevice.{Ghosts as DeviceGhosts}
use Rattle.slot_store.specs.Slots.{HasSize}
use Rattle.slot_store.specs.declared.saving.SaveRun.{SaveRun}
use Rattle.channel_port.specs.declared.port.ChannelPort.{Ghosts}
use Rattle.nv_machine.proofs.Guarded.{persisted_accepted}
use Rattle.module_core.specs.declared.module.Module.{Module}
use Rattle.module_saves.specs.Device.{HoldsWhile}

-- a device that holds a store is of the size that its images need
right_size : (lines : ℕ) (s : Store) (save : Option RunningSave) (run : Option SaveRun) (device : DeviceState) → HoldsWhile save run lines s device → HasSize lines device
right_size lines s None None device resting = resting.rest.size
right_size lines s (Some save) (Some run) device saving = subst (λ (lines : ℕ). HasSize lines device) saving.plan.lines_are saving.saving.0.size
right_size lines s None (Some run) device none = absurd none
right_size lines s (Some save) None device none = absurd none

module _ {K : Type 0} (L : Ghosts K) where
  -- the persistent writes are accepted ones
  in_order : (it : Module K L) (device : DeviceState) (m : Machine) → ModuleStands L it device m → it.front.persisted ≤ it.front.accepted
  in_order it device m stands = omega (arith, stands.matches.front.accepted, stands.matches.front.persisted, persisted_accepted m stands.guarded)

module _ {K D E : Type 0} (L : Ghosts K) (M : DeviceGhosts D) (N : GaugeGhosts E) (it : RecordedModule K D E L) (kept : IsRecordKept L M N it) where
  -- the device has the module's size
  pub has_device : HasDevice L it.running (M.state it.device)
  has_device = ∥∥₁_elim kept.stands (ℕ_set _ _) (λ s. right_size _ s.0.store _ _ (M.state it.device) s.1.stands.holds)

  -- words that show no more than is persistent aren't above the module's two numbers
  pub opening_shows_no_more : (board : TableId) (mark : ℕ) → mark ≤ it.running.front.persisted → ShowsNoMore it.running.front.accepted it.running.front.persisted (seen_marks board mark mark)
  opening_shows_no_more board mark least =
      let ordered : it.running.front.persisted ≤ it.running.front.accepted = ∥∥₁_elim kept.stands le_prop (λ s. in_order L it.running (M.state it.device) s.0 s.1.stands) in
      record { accepted_shown = omega (arith, least, ordered); persisted_shown = least; ordered = ordered }
