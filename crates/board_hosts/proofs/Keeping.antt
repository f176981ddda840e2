-- Where the record of a life begins, and how many writes it has.
use Rattle.std.proofs.Common.{◌≡◌, ◌+◌, ◌-◌, ◌≤◌, length, ap, sym, ◌∙◌, arith}
use Rattle.std.proofs.Math.Nat.{ℕ_set}
use Rattle.std.proofs.lemmas.List.{length-drop}
use Rattle.board_hosts.proofs.Common.{Ghosts as GaugeGhosts, IsRecordKept, Machine, ModuleStands, RecordedModule}
use Rattle.board_hosts.proofs.Common.{∥∥₁_elim}
use Rattle.save_device.specs.declared.device.SaveDevice.{Ghosts as DeviceGhosts}
use Rattle.line_memory.specs.History.{Recorded}
use Rattle.channel_port.specs.declared.port.ChannelPort.{Ghosts}
use Rattle.nv_machine.proofs.Guarded.{cut_below}
use Rattle.nv_machine.specs.State.{start_of_life}

module _ {K D E : Type 0} (L : Ghosts K) (M : DeviceGhosts D) where
  -- what is stored begins within the life
  pub begins_within : (it : RecordedModule K D E L) (m : Machine) → ModuleStands L it.running (M.state it.device) m → (start_of_life m.life ≤ m.cut) × (m.cut ≤ start_of_life m.life + length m.life.writes)
  begins_within it m stands =
      let opened = (cut_below m stands.guarded).opened in
      let stored : it.running.front.terms.cut ≤ it.running.front.saved = it.running.front.stored in
      let settled : it.running.front.saved ≤ it.running.front.accepted = it.running.front.settled in
      (opened, omega (arith, stored, settled, stands.matches.front.cut, stands.matches.front.accepted))

module _ {K D E : Type 0} (L : Ghosts K) (M : DeviceGhosts D) (N : GaugeGhosts E) where
  -- the record begins where the module's stored writes do
  pub starts_with : (it : RecordedModule K D E L) → IsRecordKept L M N it → it.history.start ≡ it.running.front.terms.cut
  starts_with it kept = ∥∥₁_elim kept.stands (ℕ_set _ _) (λ s. ap (λ (h : Recorded). h.start) s.1.stored ∙ sym s.1.stands.matches.front.cut)

  -- how many writes the module has accepted
  pub counted_with : (it : RecordedModule K D E L) → IsRecordKept L M N it → it.running.front.accepted ≡ it.history.start + length it.history.writes
  counted_with it kept =
      ∥∥₁_elim kept.stands (ℕ_set _ _)
      (λ s.
      let m : Machine = s.0 in let within = begins_within L M it m s.1.stands in
      let size : length it.history.writes ≡ length m.life.writes - (m.cut - start_of_life m.life) =
      ap (λ (h : Recorded). length h.writes) s.1.stored ∙ length-drop (m.cut - start_of_life m.life) m.life.writes in
      let start : it.history.start ≡ m.cut = ap (λ (h : Recorded). h.start) s.1.stored in
      omega (arith, s.1.stands.matches.front.accepted, start, size, within.0, within.1))
