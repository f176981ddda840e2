-- A read in the life of a journal.
use Rattle.std.proofs.Common.{◌≡◌, ℕ, ◌-◌, ◌≤◌, List, [], ◌++◌, length, take, sym, ap, subst, ◌∙◌, arith}
use Rattle.std.specs.Prelude.{Some, slice_get}
use Rattle.std.proofs.lemmas.List.{append-nil, append_cancel_left, take_all}
use Rattle.line_memory.specs.declared.Write.{Write}
use Rattle.line_memory.specs.Memory.{after}
use Rattle.save_image.specs.Image.{Image}
use Rattle.slot_store.specs.declared.head.Head.{Head}
use Rattle.energy_budget.specs.Charging.{RisesTo}
use Rattle.channel_port.specs.declared.port.ChannelPort.{Ghosts}
use Rattle.nv_machine.specs.declared.events.Event.{Event}
use Rattle.nv_machine.specs.declared.events.Reply.{Reply}
use Rattle.nv_machine.specs.Headline.{Run}
use Rattle.nv_machine.specs.Rising.{accepted_in}
use Rattle.nv_machine.specs.State.{Machine, World, memory_of}
use Rattle.nv_machine.proofs.AcceptedWrites.{run_accepts}
use Rattle.nv_machine.proofs.Guarded.{guarded_new}
use Rattle.nv_machine.proofs.RisingMarks.{run_rises}
use Rattle.module_core.specs.Opening.{opened_with}
use Rattle.module_core.specs.Stands.{Assembly, RunsTo, point_of, setup_of, world_of}
use Rattle.module_core.proofs.CallsInTurn.{runs_on}
use Rattle.module_core.proofs.RunsOn.{run_worlds}
use Rattle.nv_session.specs.Coming.{Comes, ComesTo, Tale}
use Rattle.nv_session.specs.Turns.{SameButWaits}
use Rattle.journal_log.specs.Log.{Holds, Log}
use Rattle.journal_log.specs.Calls.{AreAllowed, Attempt, Call, done_of, journal_writes, kept_in, log_after_all, writes_in}
use Rattle.journal_log.proofs.Cutting.{length-journal, told}
use Rattle.journal_log.proofs.Keeping.{whole}
use Rattle.journal_log.proofs.Placing.{length-after}
use Rattle.journal_lines.specs.Indexed.{IsIndexOf}
use Rattle.journal_lines.specs.declared.index.Index.{Index}
use Rattle.module_journal.specs.Living.{HasJournaled, log_behind_all}
use Rattle.module_journal.proofs.Joining.{accepted-append}
use Rattle.module_journal.proofs.Living.{run_paired}
use Rattle.journal_reads.specs.Reading.{ReadsRecord}

-- all calls of which the head is written are among all writes
all_kept : (attempts : List Attempt) (n : ℕ) → writes_in attempts ≤ n → kept_in n attempts ≡ done_of attempts
all_kept attempts n all =
    ap (kept_in n) (sym (append-nil attempts)) ∙ told attempts [] n all ∙ append-nil (done_of attempts)

module _ {K : Type 0} (L : Ghosts K) (found : Head) (image : Image) (events : List Event) (replies : List Reply) (first now : Assembly L) (runs : RunsTo L events replies first (opened_with found image) now) where
  run : Run (setup_of L first.it) events replies (world_of L first (opened_with found image)) (world_of L now runs.last)
  run = run_worlds L (setup_of L first.it) events replies (point_of L first (opened_with found image)) (point_of L now runs.last) runs.run

  -- as many replies as events
  pub are_paired : length events ≡ length replies
  are_paired = run_paired (setup_of L first.it) events replies (world_of L first (opened_with found image)) (world_of L now runs.last) run

  -- the writes of the machine that a module stands for are those that its replies accepted
  pub writes_are : runs.last.life.writes ≡ accepted_in events replies
  writes_are =
      run_accepts RisesTo (setup_of L first.it) events replies (world_of L first (opened_with found image)) (world_of L now runs.last) run
      (guarded_new found.newest.slot found.closed image)

  -- behind the image that its life began with
  pub opened_is : runs.last.life.opened ≡ image
  opened_is =
      (run_rises (setup_of L first.it) events replies (world_of L first (opened_with found image)) (world_of L now runs.last) run
      (guarded_new found.newest.slot found.closed image)).opened

module _ {K : Type 0} (L : Ghosts K) (found : Head) (image : Image) (log : Log) (attempts : List Attempt) (first old : Assembly L) (so : HasJournaled L found image log attempts first old) where
  abbrev m : Machine
  m = so.answered.runs.last

  abbrev lines : ℕ
  lines = length image.memory

  abbrev written : List Write
  written = journal_writes lines log attempts

  memory_is : memory_of m ≡ after image.memory written
  memory_is =
      ap (λ (i : Image). after i.memory m.life.writes) (opened_is L found image so.events so.replies first old so.answered.runs)
      ∙ ap (after image.memory) (writes_are L found image so.events so.replies first old so.answered.runs ∙ so.are)

  -- the memory after all accepted writes holds the journal behind all calls
  holds_behind : Holds image.memory log → AreAllowed lines log attempts → Holds (memory_of m) (log_behind_all image log attempts)
  holds_behind held allowed =
      let n : ℕ = length written in
      let all : Holds (after image.memory (take n written)) (log_after_all lines log (kept_in n attempts)) = whole image.memory log attempts n held allowed in
      let calls : kept_in n attempts ≡ done_of attempts = all_kept attempts n (omega (arith, length-journal attempts lines log)) in
      subst (λ (memory : List (List ℕ)). Holds memory (log_behind_all image log attempts)) (sym memory_is)
      (subst (λ (ws : List Write). Holds (after image.memory ws) (log_behind_all image log attempts)) (take_all n written (omega arith))
      (subst (λ (cs : List Call). Holds (after image.memory (take n written)) (log_after_all lines log cs)) calls all))

  long : length (memory_of m) ≡ lines
  long = ap length memory_is ∙ length-after image.memory written

  -- what is read is the record of the journal behind all calls
  pub record_read : (index : Index) (number : ℕ) (bytes : List ℕ) (new : Assembly L) → Holds image.memory log → AreAllowed lines log attempts
      → IsIndexOf index (log_behind_all image log attempts) → index.lines ≡ lines → Comes L (ReadsRecord index number bytes) old new
      → slice_get (log_behind_all image log attempts).records (number - (log_behind_all image log attempts).gone) ≡ Some bytes
  record_read index number bytes new held allowed is sized comes =
      let c : ComesTo L (ReadsRecord index number bytes) old m new = comes m so.answered.runs.stands in
      c.told.is (log_behind_all image log attempts) is (holds_behind held allowed) (long ∙ sym sized)

  module _ (Told : Tale) (new : Assembly L) (comes : Comes L Told old new) where
    abbrev c : ComesTo L Told old m new
    c = comes m so.answered.runs.stands

    -- a call that leaves the writes goes on with the life
    pub goes_on : (keeps : (es : List Event) (rs : List Reply) (n l : Machine) → Told es rs n l → SameButWaits n l) → setup_of L new.it ≡ setup_of L old.it
        → HasJournaled L found image log attempts first new
    goes_on keeps same =
        let runs : RunsTo L (so.events ++ c.events) (so.replies ++ c.replies) first (opened_with found image) new =
        runs_on L so.events c.events so.replies c.replies first (opened_with found image) old new so.answered.setup so.answered.runs c.runs in
        let from : World = world_of L old m in let to : World = world_of L new c.runs.last in
        let run : Run (setup_of L old.it) c.events c.replies from to = run_worlds L (setup_of L old.it) c.events c.replies (point_of L old m) (point_of L new c.runs.last) c.runs.run in
        let adds : c.runs.last.life.writes ≡ m.life.writes ++ accepted_in c.events c.replies =
        run_accepts RisesTo (setup_of L old.it) c.events c.replies from to run so.answered.runs.stands.guarded in
        let none : accepted_in c.events c.replies ≡ [] =
        append_cancel_left m.life.writes (accepted_in c.events c.replies) []
        (sym adds ∙ ap (λ (n : Machine). n.life.writes) (keeps c.events c.replies m c.runs.last c.told) ∙ sym (append-nil m.life.writes)) in
        let writes : accepted_in (so.events ++ c.events) (so.replies ++ c.replies) ≡ accepted_in so.events so.replies =
        accepted-append so.events c.events so.replies c.replies so.paired
        ∙ ap (λ (ws : List Write). accepted_in so.events so.replies ++ ws) none
        ∙ append-nil (accepted_in so.events so.replies) in
        record {
          events = so.events ++ c.events;
          replies = so.replies ++ c.replies;
          paired = are_paired L found image (so.events ++ c.events) (so.replies ++ c.replies) first new runs;
          answered = record { begins = so.answered.begins; runs = runs; setup = same ∙ so.answered.setup };
          are = writes ∙ so.are;
        }
