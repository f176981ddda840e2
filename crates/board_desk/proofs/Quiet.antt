-- What lay behind a channel's lock, behind a write, a read and a call: the commands that it issued.
use Rattle.std.proofs.Common.{Err, IfErr, IfOk, List, None, Ok, Option, Result, Some, ap, refl, subst, sym, ℕ, ◌∙◌, ◌≡◌}
use Rattle.std.proofs.Math.Logic.{∥∥₁_elim, ∥∥₁_map}
use Rattle.std.proofs.Props.{props}
use Rattle.std.proofs.lemmas.Option.{same_Some}
use Rattle.arm_state.specs.declared.loss.Loss.{Loss}
use Rattle.arm_state.specs.declared.refusal.WriteRefusal.{WriteRefusal}
use Rattle.channel_log.specs.Log.{LogNote, log_tells}
use Rattle.channel_locks.specs.Stands.{PartStands}
use Rattle.channel_locks.specs.declared.part.Part.{Part}
use Rattle.channel_port.specs.Answers.{IsGot}
use Rattle.channel_port.specs.View.{with_write}
use Rattle.channel_port.specs.Waits.{Waits}
use Rattle.channel_port.specs.declared.answers.Got.{Got}
use Rattle.channel_port.specs.declared.port.ChannelPort.{Ghosts}
use Rattle.channel_set.specs.Issuing.{IssuesNone}
use Rattle.energy_budget.specs.declared.energy.Energy.{Ghosts as GaugeGhosts}
use Rattle.line_memory.specs.Memory.{after, line_of}
use Rattle.line_memory.specs.Parts.{writes_of}
use Rattle.module_core.specs.Issuing.{Issues}
use Rattle.nv_machine.specs.declared.events.Accepted.{Accepted}
use Rattle.nv_machine.specs.declared.events.Event.{Event}
use Rattle.nv_machine.specs.declared.events.Reply.{Reply}
use Rattle.board_hosts.specs.Kept.{IsRecordKept}
use Rattle.board_hosts.specs.Steps.{StepsTo}
use Rattle.board_hosts.specs.declared.host.GotAt.{GotAt}
use Rattle.board_hosts.specs.declared.recorded_module.RecordedModule.{RecordedModule}
use Rattle.save_device.specs.declared.device.SaveDevice.{Ghosts as DeviceGhosts}
use Rattle.board_desk.specs.Answering.{DoneWithLent, KeepsPort, PutsWrite, ReadsLine, SettlesPart}
use Rattle.board_desk.specs.Losing.{WhereUndrained}

module _ {K : Type 0} (L : Ghosts K) (lent settled : Option (Part K L)) (part later : Part K L) (settles : SettlesPart L lent settled) (is : settled ≡ Some part) where
  -- the part that was settled has the port of the one that was lent
  done_with_lent : (Does : Part K L → Part K L → Type 0) → (lent settled : Option (Part K L)) → SettlesPart L lent settled → settled ≡ Some part → ((before : Part K L) → part.port ≡ before.port → Does before later)
      → DoneWithLent L Does lent (Some later)
  done_with_lent Does None settled none is does = absurd (let bad : ⊥ = cc in bad)
  done_with_lent Does (Some before) settled (mid, mid_is, same) is does =
      (later, refl, does before (ap (λ (p : Part K L). p.port) (same_Some part mid (sym is ∙ mid_is)) ∙ same.port))

  pub puts_write : L.issued later.port ≡ L.issued part.port → (result : Result Accepted WriteRefusal) → IfOk result (λ a. L.view later.port ≡ with_write a.number (L.view part.port))
      → IfOk result (λ a. DoneWithLent L (PutsWrite L a.number) lent (Some later))
  puts_write issued (Ok a) puts =
      done_with_lent (PutsWrite L a.number) lent settled settles is
      (λ before same. record { view = puts ∙ ap (λ (p : K). with_write a.number (L.view p)) same; issued = issued ∙ ap L.issued same })
  puts_write issued (Err refusal) puts = tt

  pub keeps_port : later ≡ part → DoneWithLent L (KeepsPort L) lent (Some later)
  keeps_port unchanged =
      done_with_lent (KeepsPort L) lent settled settles is
      (λ before same. let port = ap (λ (p : Part K L). p.port) unchanged ∙ same in record { view = ap L.view port; issued = ap L.issued port })

  pub refused_write : (result : Result Accepted WriteRefusal) → IfErr result (λ _. later ≡ part) → IfErr result (λ _. DoneWithLent L (KeepsPort L) lent (Some later))
  refused_write (Ok a) unchanged = tt
  refused_write (Err refusal) unchanged = keeps_port unchanged

  -- a read of a line behind so many writes, by whatever log the part stands for
  abbrev GotByLog : ℕ → ℕ → Got → Type 0
  GotByLog line at got =
      (base : List (List ℕ)) (log : List LogNote) → PartStands L part part.channel base log
      → IsGot (line_of (after base (writes_of (log_tells log).written)) line) line at part.channel got (L.view part.port).waits (L.view later.port).waits

  pub reads_line : (line channel : ℕ) (told : GotAt) (base : List (List ℕ)) (log : List LogNote) → L.view later.port ≡ record (L.view part.port) { waits = (L.view later.port).waits } → L.issued later.port ≡ L.issued part.port
      → part.channel ≡ channel → GotByLog line told.at told.got → ∥ PartStands L part channel base log ∥₁ → DoneWithLent L (ReadsLine L line channel told) lent (Some later)
  reads_line line channel told base log rest issued here got stands =
      done_with_lent (ReadsLine L line channel told) lent settled settles is
      (λ before same.
      let bytes = line_of (after base (writes_of (log_tells log).written)) line in
      let now : Waits = (L.view later.port).waits in
      record {
        view = rest ∙ ap (λ (p : K). record (L.view p) { waits = now }) same;
        got = ∥∥₁_map stands (λ s. (
          bytes,
          subst (λ (p : K). IsGot bytes line told.at channel told.got (L.view p).waits now) same
              (subst (λ k. IsGot bytes line told.at k told.got (L.view part.port).waits now) here (got base log (subst (λ k. PartStands L part k base log) (sym here) s))),
        ));
        issued = issued ∙ ap L.issued same;
      })

module _ {K D E : Type 0} (L : Ghosts K) (M : DeviceGhosts D) (N : GaugeGhosts E) (old new : RecordedModule K D E L) (kept : IsRecordKept L M N old) where
  -- an event that issues no command at a module issued none here
  pub issues_none : (event : Event) (reply : Reply) → StepsTo L M N event reply old new → (Issues L event reply old.running.channels new.running.channels → IssuesNone L old.running.channels new.running.channels)
      → IssuesNone L old.running.channels new.running.channels
  issues_none event reply steps none = ∥∥₁_elim kept.stands (hlevel props) (λ s. none (steps s.0 s.1.stands).2.issues)

  pub loss_issues : (lost : Loss) → StepsTo L M N Event.Lose (Reply.Lose lost) old new → WhereUndrained lost (IssuesNone L old.running.channels new.running.channels)
  loss_issues Loss.Closed steps = issues_none Event.Lose (Reply.Lose Loss.Closed) steps (λ i. i)
  loss_issues Loss.Unsaved steps = issues_none Event.Lose (Reply.Lose Loss.Unsaved) steps (λ i. i)
  loss_issues (Loss.Saved generation count) steps = tt
  loss_issues Loss.Dark steps = tt
  loss_issues Loss.Fault steps = tt

-- what follows where no drain was begun
undrained_map : {P Q : Type 0} (lost : Loss) → (P → Q) → WhereUndrained lost P → WhereUndrained lost Q
undrained_map Loss.Closed gives p = gives p
undrained_map Loss.Unsaved gives p = gives p
undrained_map (Loss.Saved generation count) gives p = tt
undrained_map Loss.Dark gives p = tt
undrained_map Loss.Fault gives p = tt

-- the same by another name of the loss
pub undrained_by : {P Q : Type 0} (told lost : Loss) → told ≡ lost → (P → Q) → WhereUndrained lost P → WhereUndrained told Q
undrained_by {P} {Q} told lost is gives none = subst (λ (x : Loss). WhereUndrained x Q) (sym is) (undrained_map lost gives none)
