-- A write at a part of which both locks are held, whether it was accepted or not.
use Rattle.std.proofs.Common.{Err, IfErr, IfOk, IsOk, List, Ok, Result, Some, [], ap, append-nil, arith, false, refl, subst, sym, length, true, ℕ, ◌++◌, ◌+◌, ◌<◌, ◌∙◌, ◌∷◌, ◌≡◌, ◌≤◌}
use Rattle.std.specs.Prelude.{Bool, slice_index_or, if◌then◌else◌}
use Rattle.std.proofs.Math.Logic.{∥∥₁_map}
use Rattle.std.proofs.lemmas.List.{get_or-set_other, get_or-set_same, length-set}
use Rattle.arm_state.specs.Modes.{is_armed}
use Rattle.arm_state.specs.declared.refusal.WriteRefusal.{WriteRefusal}
use Rattle.channel_locks.specs.declared.parts_name.PartsName.{Ghosts as PartsGhosts}
use Rattle.channel_locks.specs.PortMakes.{make_of}
use Rattle.channel_locks.specs.Slots.{IsSlotKept}
use Rattle.channel_log.specs.Log.{IsLog, IsLogOf, LogNote, note_of, log_tells}
use Rattle.channel_log.specs.ReadLines.{ReadsHaveLines}
use Rattle.channel_log.specs.Seats.{AllLogs, IsNoted, OneLog}
use Rattle.channel_log.specs.declared.entry.LogEntry.TheVariants.{Wrote}
use Rattle.channel_locks.specs.declared.part.Part.{Part}
use Rattle.channel_locks.specs.Stands.{StandsNoted}
use Rattle.channel_port.specs.Shape.{IsShape}
use Rattle.channel_port.specs.declared.port.ChannelPort.{Ghosts}
use Rattle.channel_port.specs.View.{PortView, with_write}
use Rattle.line_memory.specs.History.{Recorded}
use Rattle.line_memory.specs.Parts.{AreBefore, numbered}
use Rattle.line_memory.specs.declared.Write as line_write
use Rattle.board_hosts.specs.SeenMarks.{SeenMarks, seen_marks}
use Rattle.atomic_table.specs.Seated.{TableId}
use Rattle.module_core.specs.Fronts.{AcceptsOne, setup_in}
use Rattle.module_core.specs.declared.opening.LifeTerms.{LifeTerms}
use Rattle.nv_machine.specs.declared.events.Accepted.{Accepted}
use Rattle.nv_machine.specs.declared.events.Event.{Event}
use Rattle.nv_machine.specs.declared.events.Reply.{Reply}
use Rattle.nv_machine.specs.Rising.{added}
use Rattle.nv_machine.specs.State.{Machine, base_of_life}
use Rattle.board_hosts.specs.Marks.{ShowsNoMore}
use Rattle.split_module.proofs.ReadLines.{event_has, lived_has, logs_have}
use Rattle.split_module.specs.Telling.{with_note}
use Rattle.split_module.specs.Lending.{WroteOn}
use Rattle.split_module.specs.declared.front.SplitFront.{SplitFront}
use Rattle.board_desk.proofs.Followed.{Follows, write_accepted, write_refused}
use Rattle.board_desk.proofs.Lending.{IsDue, due_noted}
use Rattle.board_desk.proofs.Noted.{front_noted, logs_noted, seat_noted}
use Rattle.board_desk.specs.Answering.{SameElsewhere}
use Rattle.board_desk.specs.Desk.{DeskStands, DeskView, setup_at, shape_at, world_at}

-- the front after a write, whether it was accepted
abbrev pub Written : Result Accepted WriteRefusal → SplitFront → SplitFront → Type 0
Written result old new = IfOk result (λ accepted. AcceptsOne old.front accepted new.front) × IfErr result (λ refusal. new ≡ old)

abbrev pub writes_in : line_write.Write → Result Accepted WriteRefusal → List line_write.Write
writes_in write result = added (Event.Write write) (Reply.Write result)

module _ (write : line_write.Write) (old new : SplitFront) where
  pub same_terms : (result : Result Accepted WriteRefusal) → Written result old new → new.front.terms ≡ old.front.terms
  same_terms (Ok accepted) (accepts, none) = accepts.terms
  same_terms (Err refusal) (none, same) = ap (λ (f : SplitFront). f.front.terms) same

  pub same_saves : (result : Result Accepted WriteRefusal) → Written result old new → new.front.saves ≡ old.front.saves
  same_saves (Ok accepted) (accepts, none) = accepts.saves
  same_saves (Err refusal) (none, same) = ap (λ (f : SplitFront). f.front.saves) same

  pub same_saved : (result : Result Accepted WriteRefusal) → Written result old new → new.front.saved ≡ old.front.saved
  same_saved (Ok accepted) (accepts, none) = accepts.saved
  same_saved (Err refusal) (none, same) = ap (λ (f : SplitFront). f.front.saved) same

  pub more_accepted : (result : Result Accepted WriteRefusal) → Written result old new → new.front.accepted ≡ old.front.accepted + length (writes_in write result)
  more_accepted (Ok accepted) (accepts, none) = accepts.one_more
  more_accepted (Err refusal) (none, same) = let is = ap (λ (f : SplitFront). f.front.accepted) same in omega (arith, is)

  -- the marks of before aren't above the front's numbers
  pub shows_no_more : (result : Result Accepted WriteRefusal) → Written result old new → (board : TableId) (marks : SeenMarks) → marks ≡ seen_marks board old.front.accepted old.front.persisted → old.front.persisted ≤ old.front.accepted
      → ShowsNoMore new.front.accepted new.front.persisted marks
  shows_no_more (Ok accepted) (accepts, none) board marks shown ordered =
      let one = accepts.one_more in
      let is : (marks.accepted ≡ old.front.accepted) × (marks.persisted ≡ old.front.persisted) = (ap (λ (m : SeenMarks). m.accepted) shown, ap (λ (m : SeenMarks). m.persisted) shown) in
      let persisted = raised (is_armed old.front.mode) in
      record { accepted_shown = omega (arith, one, is.0); persisted_shown = omega (arith, is.1, persisted.0, accepts.persisted); ordered = omega (arith, one, persisted.1, accepts.persisted) }
    where
      raised : (b : Bool) → (old.front.persisted ≤ (if b then old.front.accepted + 1 else old.front.persisted)) × ((if b then old.front.accepted + 1 else old.front.persisted) ≤ old.front.accepted + 1)
      raised true = (omega (arith, ordered), omega arith)
      raised false = (omega arith, omega (arith, ordered))
  shows_no_more (Err refusal) (none, same) board marks shown ordered =
      let is : (marks.accepted ≡ old.front.accepted) × (marks.persisted ≡ old.front.persisted) = (ap (λ (m : SeenMarks). m.accepted) shown, ap (λ (m : SeenMarks). m.persisted) shown) in
      let a = ap (λ (f : SplitFront). f.front.accepted) same in
      let p = ap (λ (f : SplitFront). f.front.persisted) same in
      record { accepted_shown = omega (arith, is.0, a); persisted_shown = omega (arith, is.1, p); ordered = omega (arith, ordered, a, p) }

  -- a write that was accepted has room in the record
  pub has_room : (result : Result Accepted WriteRefusal) → Written result old new → (history : Recorded) → old.front.terms.trail ≤ history.room → length history.writes + old.front.terms.cut ≡ old.front.accepted → IsOk result
      → length history.writes < history.room
  has_room (Ok accepted) (accepts, none) history room many ok =
      let front = new.front in
      let kept = front.kept in
      let terms = accepts.terms in
      let one = accepts.one_more in
      let cut = ap (λ (t : LifeTerms). t.cut) terms in
      let trail = ap (λ (t : LifeTerms). t.trail) terms in
      omega (arith, kept, one, cut, trail, room, many)
  has_room (Err refusal) written history room many ok = absurd (let bad : ⊥ = cc in bad)

module _ {K B : Type 0} (L : Ghosts K) (P : PartsGhosts B) (channel : ℕ) (part later : Part K L) (write : line_write.Write) (front new_front : AllLogs) (seat new_seat : OneLog) (own : seat.channel ≡ channel) where
  -- the note of an accepted write
  abbrev note : Accepted → LogNote
  note accepted = note_of (Wrote (numbered accepted.number write)) (L.view later.port).waits

  -- both seats have it, where it was accepted
  pub record IsNotedWrite (result : Result Accepted WriteRefusal) : Type 0 where
    pub noted : IfOk result (λ accepted. IsNoted (note accepted) front seat new_front new_seat)
    pub front_is : IfErr result (λ refusal. new_front ≡ front)
    pub seat_is : IfErr result (λ refusal. new_seat ≡ seat)

  pub table_noted : (result : Result Accepted WriteRefusal) → IsNotedWrite result → new_front.table ≡ front.table
  table_noted (Ok accepted) is = ap (λ (f : AllLogs). f.table) (front_noted (note accepted) front front new_front seat seat new_seat is.noted refl refl)
  table_noted (Err refusal) is = ap (λ (f : AllLogs). f.table) is.front_is

  pub elsewhere_noted : (result : Result Accepted WriteRefusal) → IsNotedWrite result → SameElsewhere channel front.logs new_front.logs
  elsewhere_noted (Ok accepted) is other apart =
      ap (λ (ls : List (List LogNote)). slice_index_or ls other []) (logs_noted (note accepted) front front new_front seat seat new_seat is.noted refl refl channel own)
      ∙ get_or-set_other front.logs channel other (seat.log ++ note accepted ∷ []) [] apart
  elsewhere_noted (Err refusal) is other apart = ap (λ (f : AllLogs). slice_index_or f.logs other []) is.front_is

  -- each read that the log tells to wait has its line, with the note of an accepted write too
  pub reads_written : (old : DeskView) (new : SplitFront) (m : Machine) → DeskStands P old m → part.channel ≡ channel → IsLogOf old.logs channel seat.log → (accepted : Accepted)
      → WroteOn L (shape_at P old) old.split part write (Ok accepted) new later m old.logs seat.log → ReadsHaveLines P.base (log_tells (seat.log ++ note accepted ∷ []))
  reads_written old new m s here of accepted (n, step, stands) =
      let logs : List (List LogNote) = with_note part.channel seat.log (note accepted) old.logs in
      let size = length-set old.logs part.channel (seat.log ++ note accepted ∷ []) in
      let there = of.there in
      let within : part.channel < length logs = omega (arith, size, there, here) in
      let have = event_has (setup_at P old) (Event.Write write) (Reply.Write (Ok accepted)) (world_at old m) (record (world_at old m) { machine = n }) (refl, step) s.guarded (lived_has (setup_at P old) (world_at old m) s.lived) in
      subst (λ base. ReadsHaveLines base (log_tells (seat.log ++ note accepted ∷ []))) (ap (λ (x : Machine). base_of_life x.life) step.1.is ∙ s.base)
      (subst (λ (l : List LogNote). ReadsHaveLines (base_of_life n.life) (log_tells l)) (get_or-set_same old.logs part.channel (seat.log ++ note accepted ∷ []) [] (omega (arith, there, here)))
      (logs_have (setup_in (shape_at P old) new.front) n logs part.channel stands.told have within))

  -- the slot has the part of its log still
  pub slot_noted : (result : Result Accepted WriteRefusal) → IsNotedWrite result → IfOk result (λ accepted. StandsNoted L (Wrote (numbered accepted.number write)) part later) → IfErr result (λ refusal. later ≡ part)
      → IfOk result (λ accepted. L.view later.port ≡ with_write accepted.number (L.view part.port)) → IfOk result (λ accepted. AreBefore accepted.number (log_tells seat.log).written) → IsLog seat.log → IsDue P L part channel seat.log → seat.table ≡ P.logs
      → (old : DeskView) (new : SplitFront) → ∥ ((m : Machine) × DeskStands P old m × WroteOn L (shape_at P old) old.split part write result new later m old.logs seat.log) ∥₁ → part.channel ≡ channel → IsLogOf old.logs channel seat.log
      → IsSlotKept L P (Some later) new_seat channel
  slot_noted (Ok accepted) is stands none puts before log_is due table old new wrote here of =
      subst (λ (s : OneLog). IsSlotKept L P (Some later) s channel) (sym (seat_noted (note accepted) front front new_front seat seat new_seat is.noted refl refl))
      (record {
        table = table;
        channel_is = own;
        part_is = due_noted P L (Wrote (numbered accepted.number write)) part later channel seat.log stands log_is before (ap (λ (v : PortView). make_of v) puts)
            (∥∥₁_map wrote (λ (m, s, w). reads_written old new m s here of accepted w)) due;
      })
  slot_noted (Err refusal) is none same puts before log_is due table old new wrote here of =
      subst (λ (s : OneLog). IsSlotKept L P (Some later) s channel) (sym is.seat_is)
      (record { table = table; channel_is = own; part_is = subst (λ (p : Part K L). IsDue P L p channel seat.log) (sym same) due })

  -- the write is one event
  module _ (old : DeskView) (m : Machine) (s : DeskStands P old m) (shape : IsShape (shape_at P old)) (new : DeskView) (costs : new.split.costs ≡ old.split.costs) (ports : new.terms ≡ old.terms) (device : new.device ≡ old.device)
      (gauge : new.gauge ≡ old.gauge) (has : part.channel < P.ports) (here : channel ≡ part.channel) (logs_are : front.logs ≡ old.logs) (told : new.logs ≡ new_front.logs) where
    pub follows : (result : Result Accepted WriteRefusal) → Written result old.split new.split → IsNotedWrite result → WroteOn L (shape_at P old) old.split part write result new.split later m old.logs seat.log
        → length (L.view later.port).waits.writes ≤ 64 → new.history ≡ record old.history { writes = old.history.writes ++ writes_in write result } → Follows P (Event.Write write) (Reply.Write result) old new m
    follows (Ok accepted) written is wrote most history =
        let logs : new.logs ≡ with_note part.channel seat.log (note accepted) old.logs =
        told ∙ logs_noted (note accepted) front front new_front seat seat new_seat is.noted refl refl channel own
        ∙ ap (λ (ls : List (List LogNote)). with_note channel seat.log (note accepted) ls) logs_are ∙ ap (λ c. with_note c seat.log (note accepted) old.logs) here in
        write_accepted P old m s shape new costs ports device gauge (same_terms write old.split new.split (Ok accepted) written) (same_saves write old.split new.split (Ok accepted) written) (same_saved write old.split new.split (Ok accepted) written) L part later seat.log has write accepted wrote logs most history
    follows (Err refusal) written is wrote most history =
        write_refused P old m s shape new costs ports device gauge (same_terms write old.split new.split (Err refusal) written) (same_saves write old.split new.split (Err refusal) written) (same_saved write old.split new.split (Err refusal) written) L part later seat.log has write refusal wrote written.1
        (told ∙ ap (λ (f : AllLogs). f.logs) is.front_is ∙ logs_are) (history ∙ ap (λ (ws : List line_write.Write). record old.history { writes = ws }) (append-nil old.history.writes))
