-- A write and a read of a channel that was settled: each is one event of the machine for which the desk stands.
use Rattle.std.proofs.Common.{Err, List, Ok, [], ap, append-nil, false, refl, subst, sym, length, ℕ, ◌++◌, ◌∙◌, ◌∷◌, ◌≡◌, ◌<◌, ◌≤◌}
use Rattle.arm_state.specs.declared.refusal.ReadRefusal.{ReadRefusal}
use Rattle.arm_state.specs.declared.refusal.WriteRefusal.{WriteRefusal}
use Rattle.channel_locks.specs.declared.parts_name.PartsName.{Ghosts as PartsGhosts}
use Rattle.channel_log.specs.Log.{LogNote, note_of}
use Rattle.channel_log.specs.declared.entry.LogEntry.TheVariants.{Looked, Wrote}
use Rattle.channel_locks.specs.declared.part.Part.{Part}
use Rattle.channel_port.specs.Shape.{IsShape}
use Rattle.channel_port.specs.declared.answers.Got.{Got}
use Rattle.channel_port.specs.declared.port.ChannelPort.{Ghosts}
use Rattle.energy_budget.specs.declared.costs.Costs.{Costs}
use Rattle.energy_budget.specs.Gauge.{Gauge}
use Rattle.line_memory.specs.Parts.{numbered}
use Rattle.line_memory.specs.declared.Write as line_write
use Rattle.module_core.specs.Fronts.{setup_in}
use Rattle.module_core.specs.declared.opening.LifeTerms.{LifeTerms}
use Rattle.nv_machine.specs.declared.events.Accepted.{Accepted}
use Rattle.nv_machine.specs.declared.events.Event.{Event}
use Rattle.nv_machine.specs.declared.events.Reply.{Reply}
use Rattle.nv_machine.specs.Headline.{Happens, marks}
use Rattle.nv_machine.specs.Machine.{MachineStep}
use Rattle.nv_machine.specs.Rising.{added}
use Rattle.nv_machine.specs.State.{Machine, Setup, World}
use Rattle.save_device.specs.Device.{DeviceState}
use Rattle.split_module.specs.OwnEvents.{looked}
use Rattle.split_module.specs.Telling.{with_note}
use Rattle.split_module.specs.Lending.{HasReadOn, SplitStands, WroteOn}
use Rattle.split_module.specs.declared.front.SplitFront.{SplitFront}
use Rattle.board_desk.proofs.Happening.{happens_new, stands_after}
use Rattle.board_desk.proofs.Settled.{logs_with, same_setup}
use Rattle.board_desk.specs.Answering.{SeesOwn, GoesOnWith}
use Rattle.board_desk.specs.Desk.{AreBoardLogs, DeskStands, DeskView, setup_at, shape_at, shape_named, world_at}

module _ {B : Type 0} (P : PartsGhosts B) where
  -- an event led from this machine to another, for which the desk stands
  pub record Follows (event : Event) (reply : Reply) (old new : DeskView) (m : Machine) : Type 0 where
    pub later : Machine
    pub happens : Happens (setup_at P old) event reply (world_at old m) (world_at new later)
    pub stands : DeskStands P new later

  -- behind a channel that was settled
  pub behind : (channel : ℕ) (event : Event) (reply : Reply) (old mid new : DeskView) (m : Machine) → mid.split.front ≡ old.split.front → mid.split.costs ≡ old.split.costs → mid.device ≡ old.device → mid.gauge ≡ old.gauge
      → (on : SeesOwn P channel old mid m) → Follows event reply mid new on.seen → GoesOnWith P channel event reply old new m
  behind channel event reply old mid new m front costs device gauge on follows =
      let setup : setup_at P mid ≡ setup_at P old = same_setup P old mid front costs in
      let here : world_at mid on.seen ≡ world_at old on.seen =
      ap (λ (d : DeviceState). record (world_at mid on.seen) { device = d }) device ∙ ap (λ (g : Gauge). record (world_at old on.seen) { gauge = g }) gauge in
      record {
        seen = on.seen;
        comes = on.comes;
        later = follows.later;
        happens = subst (λ (w : World). Happens (setup_at P old) event reply w (world_at new follows.later)) here
            (subst (λ (x : Setup). Happens x event reply (world_at mid on.seen) (world_at new follows.later)) setup follows.happens);
        stands = follows.stands;
      }

  module _ (old : DeskView) (m : Machine) (s : DeskStands P old m) (shape : IsShape (shape_at P old)) (new : DeskView) (costs : new.split.costs ≡ old.split.costs) (ports : new.terms ≡ old.terms) (device : new.device ≡ old.device) (gauge : new.gauge ≡ old.gauge)
      (terms : new.split.front.terms ≡ old.split.front.terms) (saves : new.split.front.saves ≡ old.split.front.saves) (saved : new.split.front.saved ≡ old.split.front.saved) where
    same_terms : setup_at P new ≡ setup_at P old
    same_terms =
        ap (λ (c : Costs). setup_in (shape_named P c) new.split.front) costs
        ∙ ap (λ (t : LifeTerms). record { shape = shape_at P old; trail = t.trail }) terms

    follows : (event : Event) (reply : Reply) → marks reply ≡ false → new.history ≡ record old.history { writes = old.history.writes ++ added event reply }
        → (n : Machine) → MachineStep (setup_at P old) event reply (world_at old m) (world_at old n) → n.store ≡ m.store → n.cut ≡ m.cut → SplitStands (shape_at P old) new.logs new.split n → AreBoardLogs P.ports new.logs → Follows event reply old new m
    follows event reply unmarked history n step store cut stands few =
        let here : SplitStands (shape_at P new) new.logs new.split n = subst (λ (c : Costs). SplitStands (shape_named P c) new.logs new.split n) (sym costs) stands in
        record {
          later = n;
          happens = happens_new P old m s shape event reply unmarked n step store cut new same_terms saves saved ports device gauge history;
          stands = stands_after P old m s shape event reply unmarked n step store cut new same_terms saves saved ports device gauge history here few;
        }

    -- where nothing was accepted the record stays
    none_added : new.history ≡ old.history → new.history ≡ record old.history { writes = old.history.writes ++ [] }
    none_added same = same ∙ ap (λ (ws : List line_write.Write). record old.history { writes = ws }) (sym (append-nil old.history.writes))

    module _ {K : Type 0} (L : Ghosts K) (part later : Part K L) (log : List LogNote) (has : part.channel < P.ports) where
      pub write_accepted : (write : line_write.Write) (accepted : Accepted) → WroteOn L (shape_at P old) old.split part write (Ok accepted) new.split later m old.logs log
          → new.logs ≡ with_note part.channel log (note_of (Wrote (numbered accepted.number write)) (L.view later.port).waits) old.logs → length (L.view later.port).waits.writes ≤ 64
          → new.history ≡ record old.history { writes = old.history.writes ++ write ∷ [] } → Follows (Event.Write write) (Reply.Write (Ok accepted)) old new m
      write_accepted write accepted (n, step, stands) logs most history =
          let note = note_of (Wrote (numbered accepted.number write)) (L.view later.port).waits in
          follows (Event.Write write) (Reply.Write (Ok accepted)) refl history n (refl, step) (ap (λ (x : Machine). x.store) step.1.is) (ap (λ (x : Machine). x.cut) step.1.is)
          (subst (λ ls. SplitStands (shape_at P old) ls new.split n) (sym logs) stands) (subst (AreBoardLogs P.ports) (sym logs) (logs_with P.ports old.logs part.channel log note has most s.logs_are))

      pub write_refused : (write : line_write.Write) (refusal : WriteRefusal) → WroteOn L (shape_at P old) old.split part write (Err refusal) new.split later m old.logs log → new.split ≡ old.split → new.logs ≡ old.logs → new.history ≡ old.history
          → Follows (Event.Write write) (Reply.Write (Err refusal)) old new m
      write_refused write refusal step split logs history =
          follows (Event.Write write) (Reply.Write (Err refusal)) refl (none_added history) m (refl, step) refl refl
          (subst (λ ls. SplitStands (shape_at P old) ls new.split m) (sym logs) (subst (λ (f : SplitFront). SplitStands (shape_at P old) old.logs f m) (sym split) s.stands)) (subst (AreBoardLogs P.ports) (sym logs) s.logs_are)

      pub read_answered : (line : ℕ) (got : Got) → HasReadOn L (shape_at P old) new.split part line (Ok got) later m old.logs log → new.split ≡ old.split
          → new.logs ≡ looked part.channel log (L.view later.port).waits old.logs → length (L.view later.port).waits.writes ≤ 64 → new.history ≡ old.history → Follows (Event.Read line) (Reply.Read (Ok got)) old new m
      read_answered line got (n, step, stands) split logs most history =
          let note = note_of Looked (L.view later.port).waits in
          let here = subst (λ (f : SplitFront). MachineStep (setup_in (shape_at P old) f.front) (Event.Read line) (Reply.Read (Ok got)) (world_at old m) (world_at old n)) split (refl, step) in
          follows (Event.Read line) (Reply.Read (Ok got)) refl (none_added history) n here (ap (λ (x : Machine). x.store) step.2) (ap (λ (x : Machine). x.cut) step.2)
          (subst (λ ls. SplitStands (shape_at P old) ls new.split n) (sym logs) stands) (subst (AreBoardLogs P.ports) (sym logs) (logs_with P.ports old.logs part.channel log note has most s.logs_are))

      pub read_refused : (line : ℕ) (refusal : ReadRefusal) → HasReadOn L (shape_at P old) new.split part line (Err refusal) later m old.logs log → new.split ≡ old.split → new.logs ≡ old.logs → new.history ≡ old.history
          → Follows (Event.Read line) (Reply.Read (Err refusal)) old new m
      read_refused line refusal step split logs history =
          let here = subst (λ (f : SplitFront). MachineStep (setup_in (shape_at P old) f.front) (Event.Read line) (Reply.Read (Err refusal)) (world_at old m) (world_at old m)) split (refl, step) in
          follows (Event.Read line) (Reply.Read (Err refusal)) refl (none_added history) m here refl refl
          (subst (λ ls. SplitStands (shape_at P old) ls new.split m) (sym logs) (subst (λ (f : SplitFront). SplitStands (shape_at P old) old.logs f m) (sym split) s.stands)) (subst (AreBoardLogs P.ports) (sym logs) s.logs_are)
