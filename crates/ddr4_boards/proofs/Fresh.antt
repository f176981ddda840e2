-- A life that has just begun has no write.
use Rattle.std.proofs.Common.{◌≡◌, ◌∙◌, ap, arith, sym}
use Rattle.std.proofs.Math.Logic.{∥∥₁_elim}
use Rattle.std.proofs.Math.Nat.{ℕ_set}
use Rattle.line_memory.specs.History.{Recorded}
use Rattle.channel_port.specs.declared.port.ChannelPort.{Ghosts}
use Rattle.save_device.specs.declared.device.SaveDevice.{Ghosts as DeviceGhosts}
use Rattle.board_hosts.specs.Kept.{IsOfNewLife}
use Rattle.board_hosts.specs.declared.recorded_module.RecordedModule.{RecordedModule}

module _ {K D E : Type 0} (L : Ghosts K) (M : DeviceGhosts D) (it : RecordedModule K D E L) (fresh : IsOfNewLife L M it) where
  pub none_accepted : it.running.front.accepted ≡ it.running.front.terms.start
  none_accepted = ∥∥₁_elim fresh (ℕ_set _ _) (λ s. let front = s.2.stands.matches.front in omega (arith, front.accepted, front.start))

  -- the record has all of it
  pub all_recorded : it.history.start ≡ it.running.front.terms.start
  all_recorded = ∥∥₁_elim fresh (ℕ_set _ _) (λ s. ap (λ (h : Recorded). h.start) s.2.recorded_is ∙ sym s.2.stands.matches.front.start)
