-- A read that waited has its own line, or is lost.
use Rattle.std.proofs.Common.{Err, IfErr, IfOk, Ok, Result, ap, inr, subst, sym, ℕ, ◌≡◌}
use Rattle.std.specs.Prelude.{IsErrAnd}
use Rattle.arm_state.specs.declared.refusal.ReadRefusal.{ReadRefusal}
use Rattle.channel_locks.specs.declared.parts_name.PartsName.{Ghosts as PartsGhosts}
use Rattle.channel_port.specs.declared.answers.Collected.TheVariants.{Data, Unknown}
use Rattle.channel_port.specs.declared.answers.Got.TheVariants.{Later}
use Rattle.channel_port.specs.declared.answers.Ticket.{Ticket}
use Rattle.channel_port.specs.declared.port.ChannelPort.{Ghosts}
use Rattle.energy_budget.specs.declared.energy.Energy.{Ghosts as GaugeGhosts}
use Rattle.board_hosts.specs.declared.board_name.BoardName.{Ghosts as BoardGhosts}
use Rattle.save_device.specs.declared.device.SaveDevice.{Ghosts as DeviceGhosts}
use Rattle.worker_turns.specs.Lookouts.{EndsWaiting}
use Rattle.worker_turns.specs.declared.awaiting.Seen.{Seen}
use Rattle.split_board.specs.Hosts.{HasLostLine, HasReadLine, ReadsAtBoard}
use Rattle.split_board.specs.Turns.{AwaitsOwn, LooksFor}

-- a refusal that is handed on
pub told_err : (result : Result Seen ReadRefusal) (refusal : ReadRefusal) → IsErrAnd result (λ e. e ≡ refusal) → result ≡ Err refusal
told_err (Ok seen) refusal is = absurd is
told_err (Err e) refusal is = ap (λ (x : ReadRefusal). Err x) is

-- There is nothing for a ticket any more.
pub lost_own : {K B : Type 0} (L : Ghosts K) (P : PartsGhosts B) (ticket : Ticket) (line at : ℕ) (result : Result Seen ReadRefusal) (refusal : ReadRefusal) → result ≡ Err refusal → EndsWaiting (LooksFor L P ticket) (Err refusal)
    → AwaitsOwn L P ticket line at result
lost_own L P ticket line at result refusal is ends =
    subst (AwaitsOwn L P ticket line at) (sym is) (ends.0, Unknown, ends.1, (λ e. absurd (let bad : ⊥ = cc in bad)), tt)

module _ {K D E B : Type 0} (L : Ghosts K) (M : DeviceGhosts D) (N : GaugeGhosts E) (O : BoardGhosts B) (P : PartsGhosts B) (ticket : Ticket) (line at : ℕ) (reads : ReadsAtBoard L M N O P line (Later ticket) at) where
  pub own_read : (result : Result Seen ReadRefusal) → AwaitsOwn L P ticket line at result → IfOk result (λ s. HasReadLine L M N O P line s.data s.at)
  own_read (Ok seen) awaits =
      let (line_is, at_is, looks) = awaits in
      inr (ticket, subst (λ k. ReadsAtBoard L M N O P line (Later ticket) k) (sym at_is) reads, subst (λ k. LooksFor L P ticket (Data line seen.data k)) (sym at_is) looks)
  own_read (Err refusal) awaits = tt

  pub own_lost : (result : Result Seen ReadRefusal) → AwaitsOwn L P ticket line at result → IfErr result (HasLostLine L M N O P line)
  own_lost (Ok seen) awaits = tt
  own_lost (Err refusal) awaits = inr (ticket, at, reads, awaits)
