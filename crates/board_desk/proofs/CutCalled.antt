-- A cut of a module with its record is a pause of its life.
use Rattle.std.proofs.Common.{ap, arith, refl, sym, ℕ, ◌∙◌, ◌≡◌, ◌≤◌}
use Rattle.channel_port.specs.declared.port.ChannelPort.{Ghosts}
use Rattle.energy_budget.specs.declared.energy.Energy.{Ghosts as GaugeGhosts}
use Rattle.line_memory.specs.History.{Recorded, cut_at, recorded}
use Rattle.line_memory.proofs.Moving.{cut_again}
use Rattle.module_core.specs.Stands.{IsCut}
use Rattle.module_core.proofs.RunsOn.{cut_rests, cut_stands}
use Rattle.module_core.specs.declared.module.Module.{Module}
use Rattle.nv_machine.proofs.Guarded.{cut_below}
use Rattle.nv_machine.specs.State.{Machine, stored_base, stored_writes}
use Rattle.board_hosts.specs.Kept.{whole_record}
use Rattle.board_hosts.specs.declared.recorded_module.RecordedModule.{RecordedModule}
use Rattle.save_device.specs.declared.device.SaveDevice.{Ghosts as DeviceGhosts}
use Rattle.board_desk.specs.Calling.{GoesBy, Paused}

module _ {K D E : Type 0} (L : Ghosts K) (M : DeviceGhosts D) (N : GaugeGhosts E) (old : RecordedModule K D E L) (running : Module K L) (history : Recorded) (only : IsCut L old.running running)
    (newest : running.front.terms.cut ≡ old.running.front.saved) (records : history ≡ cut_at old.running.front.saved old.history) where
  abbrev new : RecordedModule K D E L
  new = record old { running = running; history = history }

  pub goes_by_cut : GoesBy L M N Paused old new
  goes_by_cut m with =
      let to : ℕ = running.front.terms.cut in
      let room : ℕ = old.history.room in
      let n : Machine = record m { cut = to } in
      let opened = (cut_below m with.stands.guarded).opened in
      let rises : m.cut ≤ to = (let cut = with.stands.matches.front.cut in let least = only.rises in omega (arith, cut, least)) in
      let whole : history ≡ recorded (stored_base n) n.cut (stored_writes n) room =
      records ∙ ap (λ (k : ℕ). cut_at k old.history) (sym newest) ∙ ap (cut_at to) with.stored ∙ cut_again (whole_record m room) m.cut to opened rises in (
        n,
        record {
          stands = cut_stands L old.running running (M.state old.device) m only with.stands;
          stored = whole ∙ ap (λ (r : ℕ). recorded (stored_base n) n.cut (stored_writes n) r) (sym (ap (λ (h : Recorded). h.room) whole));
        },
        record { may = (cut_rests L old.running running (M.state old.device) (N.gauge old.energy) m only with.stands).may; is = refl },
      )
