-- The machine of a front, with the part of one channel.
use Rattle.std.proofs.Common.{Bool, List, None, [], ap, arith, length, refl, subst, sym, ℕ, ◌++◌, ◌+◌, ◌-◌, ◌<◌, ◌∙◌, ◌∷◌, ◌≡◌}
use Rattle.std.specs.Prelude.{Ok, take, slice_index_or, ◌==◌}
use Rattle.std.proofs.lemmas.List.{take_all}
use Rattle.std.proofs.lemmas.List.Edits.{length-insert}
use Rattle.std.proofs.lemmas.List.Sums.{count_by-le-length, sum_by-set}
use Rattle.line_memory.proofs.MemoryLaws.{after-push, after_write-IsMemory}
use Rattle.line_memory.proofs.Parting as parting
use Rattle.line_memory.specs.Memory.{IsMemory, after, line_of}
use Rattle.line_memory.specs.Parts.{below, numbered, writes_of, written_on}
use Rattle.line_memory.specs.declared.parts.Numbered.{Numbered}
use Rattle.line_memory.specs.declared.Write.{Write}
use Rattle.energy_budget.specs.declared.costs.Costs.{Costs}
use Rattle.energy_budget.specs.Sums.{needed_level}
use Rattle.channel_log.specs.declared.entry.LogEntry.{LogEntry}
use Rattle.channel_log.specs.Log.{IsLogOf, LogNote, Told, credits_of, credits_out, log_tells, note_of}
use Rattle.channel_locks.specs.declared.part.Part.{Part}
use Rattle.channel_locks.specs.Stands.{PartStands, queue_of, returned_of}
use Rattle.channel_port.specs.declared.answers.Got.{Got}
use Rattle.channel_port.specs.Answers.{IsGot, Puts}
use Rattle.channel_port.specs.Shape.{Shape, is_full_of_reads_at}
use Rattle.channel_port.specs.View.{PortView, is_full_of_reads, with_write}
use Rattle.channel_port.specs.Waits.{Waits, is_write_up_to, reads_on, waiting, writes_on, writes_up_to}
use Rattle.channel_set.proofs.Written.{below-whole, written-before}
use Rattle.channel_port.specs.declared.port.ChannelPort.{Ghosts}
use Rattle.module_core.specs.declared.opening.LifeTerms.{LifeTerms}
use Rattle.module_core.specs.declared.front.Front.{Front}
use Rattle.module_core.specs.Fronts.{AcceptsOne, FrontMatches, TellsWrite, setup_in}
use Rattle.nv_machine.specs.Machine.{WriteStep}
use Rattle.nv_machine.specs.Moves.{written}
use Rattle.nv_machine.specs.Refusals.{read_refusal, write_refusal}
use Rattle.nv_machine.specs.State.{Machine, Setup, all_of, base_of_life, memory_after, memory_of, pending_of, start_of_life}
use Rattle.nv_machine.specs.declared.events.Accepted.{Accepted}
use Rattle.split_module.specs.OwnEvents.{looked}
use Rattle.split_module.specs.Telling.{AreLogsOf, AreOwn, laid_out, waits_told, with_note, with_waiting}
use Rattle.split_module.proofs.GivenTo.{got_told, logs_wrote, puts_told}
use Rattle.split_module.proofs.ToldOf.{credits_told, full_of_reads_told, full_told, logs_looked, told_of_log, told_push}
use Rattle.split_module.specs.declared.front.SplitFront.{SplitFront}
use Rattle.split_module.specs.Lending.{HasReadOn, HasBeenSeen, SplitStands, WroteOn}

-- a front knows nothing of what waits
matches_waits : (front : Front) (m : Machine) (waits : Waits) → FrontMatches front m → FrontMatches front (record m { waits = waits })
matches_waits front m waits h = record {
  mode = h.mode;
  reading = h.reading;
  start = h.start;
  cut = h.cut;
  accepted = h.accepted;
  persisted = h.persisted;
  knows = h.knows;
  saving = h.saving;
}

-- the credits that are out after one more note
out_noted : (logs : List (List LogNote)) (channel : ℕ) (log : List LogNote) (note : LogNote) → IsLogOf logs channel log
    → credits_out (with_note channel log note logs) + credits_of log ≡ credits_out logs + length note.waits.writes
out_noted logs channel log note of =
    let all = sum_by-set credits_of logs channel (log ++ note ∷ []) [] of.there in
    let new : credits_of (log ++ note ∷ []) ≡ length note.waits.writes = ap (λ (t : Told). length t.waits.writes) (told_push log note) in
    let old : credits_of (slice_index_or logs channel []) ≡ credits_of log = ap credits_of of.same in
    omega (arith, all, new, old)

module _ {K : Type 0} (L : Ghosts K) where
  -- all returned credits of a channel were taken back
  module _ (old new : SplitFront) (part later : Part K L) (front : new.front ≡ old.front) (lines : new.lines ≡ old.lines) (costs : new.costs ≡ old.costs)
      (out : new.out + returned_of L part ≡ old.out) (port : later.port ≡ part.port) where
    pub looks : (shape : Shape) (m : Machine) (logs : List (List LogNote)) (base : List (List ℕ)) (log : List LogNote) → SplitStands shape logs old m → IsLogOf logs part.channel log
        → PartStands L part part.channel base log → AreOwn part.channel (L.view later.port).waits
        → let noted = looked part.channel log (L.view later.port).waits logs in SplitStands shape noted new (record m { waits = laid_out (waits_told noted) })
    looks shape m logs base log s of stands own =
        let waits = (L.view later.port).waits in
        let noted = looked part.channel log waits logs in
        let setup = setup_in shape old.front in
        let n : Machine = record m { waits = laid_out (waits_told noted) } in
        let told : AreLogsOf setup n noted = logs_looked setup m logs s.told part.channel log of waits own in
        let before = credits_told setup m logs s.told in
        let after = credits_told setup n noted told in
        let change = out_noted logs part.channel log (note_of LogEntry.Looked waits) of in
        let queue : length waits.writes ≡ length (queue_of L part) = ap (λ p. length (L.view p).waits.writes) port in
        let covered = part.covered in
        let credits = stands.credits in
        let was = s.out in
        record {
          matches = subst (λ f. FrontMatches f n) (sym front) (matches_waits old.front m n.waits s.matches);
          out = omega (arith, before, after, change, queue, covered, credits, was, out);
          lines = lines ∙ s.lines;
          costs = costs ∙ s.costs;
          memory = s.memory;
          told = subst (λ f. AreLogsOf (setup_in shape f) n noted) (sym front) told;
        }

  -- a write of a channel that was looked at
  module _ (old new : SplitFront) (part later : Part K L) (write : Write) (accepted : Accepted) (accepts : AcceptsOne old.front accepted new.front) (lines : new.lines ≡ old.lines) (costs : new.costs ≡ old.costs)
      (out : new.out ≡ old.out + 1) (puts : L.view later.port ≡ with_write accepted.number (L.view part.port)) (long : length write.«data» ≡ 64) where
    module _ (shape : Shape) (m : Machine) (logs : List (List LogNote)) (log : List LogNote) (s : SplitStands shape logs old m) (of : IsLogOf logs part.channel log) (seen : HasBeenSeen L shape part log)
        (on : shape.channel_of write.line ≡ part.channel) where
      abbrev setup : Setup
      setup = setup_in shape old.front

      abbrev waits : Waits
      waits = (log_tells log).waits

      abbrev later_waits : Waits
      later_waits = with_waiting (all_of m) part.channel waits

      abbrev note : LogNote
      note = note_of (LogEntry.Wrote (numbered (all_of m) write)) later_waits

      abbrev noted : List (List LogNote)
      noted = with_note part.channel log note logs

      abbrev n : Machine
      n = record m { life = written m.mode m.life write; waits = laid_out (waits_told noted) }

      number : accepted.number ≡ all_of m
      number = accepts.number ∙ s.matches.accepted

      note_is : note_of (LogEntry.Wrote (numbered accepted.number write)) (L.view later.port).waits ≡ note
      note_is =
          ap (λ (w : Waits). note_of (LogEntry.Wrote (numbered accepted.number write)) w)
          (ap (λ (v : PortView). v.waits) puts
          ∙ ap (λ c. with_waiting accepted.number c (L.view part.port).waits) (sym part.here)
          ∙ ap (λ (w : Waits). with_waiting accepted.number part.channel w) (sym seen.waits))
          ∙ ap (λ k. note_of (LogEntry.Wrote (numbered k write)) (with_waiting k part.channel waits)) number

      joins : Puts (all_of m) part.channel m.waits n.waits
      joins = puts_told setup m logs s.told part.channel log of write

      one_more : pending_of n ≡ pending_of m + 1
      one_more =
          ap length joins.joins
          ∙ length-insert m.waits.writes (writes_up_to part.channel m.waits.writes) (waiting (all_of m) part.channel) (count_by-le-length (is_write_up_to part.channel) m.waits.writes)

      front_matches : FrontMatches new.front n
      front_matches = accepts.matches m write n.waits s.matches

      same_setup : setup_in shape new.front ≡ setup
      same_setup = ap (λ (t : LifeTerms). record { shape = shape; trail = t.trail }) accepts.terms

      stands : SplitStands shape noted new n
      stands = record {
        matches = front_matches;
        out = (let was = s.out in omega (arith, out, was, one_more));
        lines = lines ∙ s.lines;
        costs = costs ∙ s.costs;
        memory = subst (IsMemory shape.lines) (sym (after-push (base_of_life m.life) m.life.writes write)) (after_write-IsMemory shape.lines (memory_of m) write long s.memory);
        told = subst (λ (x : Setup). AreLogsOf x n noted) (sym same_setup) (logs_wrote setup m logs s.told part.channel log of write on seen.known);
      }

      pub wrote : write_refusal setup m write.line ≡ None → WroteOn L shape old part write (Ok accepted) new later m logs log
      wrote unrefused =
          subst (λ (x : LogNote). (n : Machine) × WriteStep setup write (Ok accepted) m n × SplitStands shape (with_note part.channel log x logs) new n) (sym note_is)
          (n, (unrefused, record { number = number; mark = accepts.mark ∙ front_matches.persisted; puts = subst (λ c. Puts (all_of m) c m.waits n.waits) (sym on) joins; is = refl }), stands)

  -- what the channel tells for a write to one of its lines
  pub tells_write : (old : SplitFront) (part : Part K L) (write : Write) (is_full : Bool) (need : ℕ) → returned_of L part ≡ 0 → is_full ≡ (part.credits == (L.view part.port).depth) → need ≡ needed_level old.costs (old.out + 1)
      → write.line < old.lines → (shape : Shape) (m : Machine) (logs : List (List LogNote)) (log : List LogNote) → SplitStands shape logs old m → IsLogOf logs part.channel log → HasBeenSeen L shape part log
      → shape.channel_of write.line ≡ part.channel → TellsWrite (setup_in shape old.front) m write.line is_full need
  tells_write old part write is_full need taken full needed within shape m logs log s of seen on =
      let covered = part.covered in
      let few : part.credits ≡ length (queue_of L part) = omega (arith, covered, taken) in
      let counted = full_told (setup_in shape old.front) m logs s.told part.channel of.there in
      let told : length (log_tells (slice_index_or logs part.channel [])).waits.writes ≡ length (log_tells log).waits.writes = ap (λ (l : List LogNote). length (log_tells l).waits.writes) of.same in
      let same : part.credits ≡ writes_on (shape.channel_of write.line) m.waits.writes =
      few ∙ ap (λ (w : Waits). length w.writes) (sym seen.waits) ∙ sym told ∙ sym counted ∙ ap (λ c. writes_on c m.waits.writes) (sym on) in
      record {
        within = subst (λ k. write.line < k) s.lines within;
        full = full ∙ ap (λ k. k == (L.view part.port).depth) same ∙ ap (λ k. writes_on (shape.channel_of write.line) m.waits.writes == k) seen.depth;
        needed = λ room. needed ∙ ap (λ (c : Costs). needed_level c (old.out + 1)) s.costs ∙ ap (λ k. needed_level shape.costs (k + 1)) s.out;
      }

  -- what the channel tells for a read of one of its lines
  pub tells_read : (front : SplitFront) (part : Part K L) (line : ℕ) (is_full : Bool) → is_full ≡ is_full_of_reads (L.view part.port)
      → (shape : Shape) (m : Machine) (logs : List (List LogNote)) (log : List LogNote) → SplitStands shape logs front m → IsLogOf logs part.channel log → HasBeenSeen L shape part log
      → shape.channel_of line ≡ part.channel → is_full ≡ is_full_of_reads_at shape m.waits line
  tells_read front part line is_full full shape m logs log s of seen on =
      let counted = full_of_reads_told (setup_in shape front.front) m logs s.told part.channel of.there in
      let told : length (log_tells (slice_index_or logs part.channel [])).waits.reads ≡ length (log_tells log).waits.reads = ap (λ (l : List LogNote). length (log_tells l).waits.reads) of.same in
      let same : length (L.view part.port).waits.reads ≡ reads_on (shape.channel_of line) m.waits.reads =
      ap (λ (w : Waits). length w.reads) (sym seen.waits) ∙ sym told ∙ sym counted ∙ ap (λ c. reads_on c m.waits.reads) (sym on) in
      full ∙ ap (λ k. k == (L.view part.port).most_reads) same ∙ ap (λ k. reads_on (shape.channel_of line) m.waits.reads == k) seen.most_reads

  -- a line after all writes is told by its channel's log
  line_after : (shape : Shape) (front : SplitFront) (m : Machine) (logs : List (List LogNote)) (s : SplitStands shape logs front m) (channel : ℕ) (log : List LogNote) → IsLogOf logs channel log → (line : ℕ) → shape.channel_of line ≡ channel
      → line_of (after (base_of_life m.life) (writes_of (log_tells log).written)) line ≡ line_of (memory_of m) line
  line_after shape front m logs s channel log of line on =
      let setup = setup_in shape front.front in
      let told = told_of_log setup m logs s.told channel log of in
      let end = start_of_life m.life + length m.life.writes in
      let mine = written_on shape.channel_of channel (start_of_life m.life) m.life.writes in
      let left : end - start_of_life m.life ≡ length m.life.writes = omega arith in
      let whole : memory_after m end ≡ memory_of m = ap (λ k. after (base_of_life m.life) (take k m.life.writes)) left ∙ ap (after (base_of_life m.life)) (take_all (length m.life.writes) m.life.writes (omega arith)) in
      let line_is = parting.told shape.channel_of (start_of_life m.life) end line (base_of_life m.life) m.life.writes in
      ap (λ (ws : List Numbered). line_of (after (base_of_life m.life) (writes_of ws)) line)
      (told.written ∙ sym (below-whole end mine (λ w has. written-before shape.channel_of channel (start_of_life m.life) m.life.writes w has)))
      ∙ ap (λ c. line_of (after (base_of_life m.life) (writes_of (below end (written_on shape.channel_of c (start_of_life m.life) m.life.writes)))) line) (sym on)
      ∙ sym line_is ∙ ap (λ (memory : List (List ℕ)). line_of memory line) whole

  -- a read of a channel that was looked at
  pub read : (front : SplitFront) (part later : Part K L) (line : ℕ) (got : Got) → queue_of L later ≡ queue_of L part
      → (shape : Shape) (m : Machine) (logs : List (List LogNote)) (log : List LogNote) → SplitStands shape logs front m → IsLogOf logs part.channel log → HasBeenSeen L shape part log
      → shape.channel_of line ≡ part.channel → AreOwn part.channel (L.view later.port).waits
      → IsGot (line_of (after (base_of_life m.life) (writes_of (log_tells log).written)) line) line front.front.accepted part.channel got (L.view part.port).waits (L.view later.port).waits
      → read_refusal (setup_in shape front.front) m line ≡ None → HasReadOn L shape front part line (Ok got) later m logs log
  read front part later line got writes shape m logs log s of seen on own is unrefused =
      let waits = (L.view later.port).waits in
      let noted = looked part.channel log waits logs in
      let setup = setup_in shape front.front in
      let n : Machine = record m { waits = laid_out (waits_told noted) } in
      let told : AreLogsOf setup n noted = logs_looked setup m logs s.told part.channel log of waits own in
      let before = credits_told setup m logs s.told in
      let later_credits = credits_told setup n noted told in
      let change = out_noted logs part.channel log (note_of LogEntry.Looked waits) of in
      let same : length waits.writes ≡ length (log_tells log).waits.writes = ap length writes ∙ ap (λ (w : Waits). length w.writes) (sym seen.waits) in
      let was = s.out in
      let bytes = line_of (memory_of m) line in
      let there : IsGot bytes line (all_of m) part.channel got (log_tells log).waits waits =
      subst (λ (w : Waits). IsGot bytes line (all_of m) part.channel got w waits) (sym seen.waits)
      (subst (λ k. IsGot bytes line k part.channel got (L.view part.port).waits waits) s.matches.accepted
      (subst (λ b. IsGot b line front.front.accepted part.channel got (L.view part.port).waits waits) (line_after shape front m logs s part.channel log of line on) is)) in
      let all = got_told setup m logs s.told part.channel log of bytes line (all_of m) waits got there in (
        n,
        (unrefused, subst (λ c. IsGot bytes line (all_of m) c got m.waits n.waits) (sym on) all, refl),
        record {
          matches = matches_waits front.front m n.waits s.matches;
          out = omega (arith, before, later_credits, change, same, was);
          lines = s.lines;
          costs = s.costs;
          memory = s.memory;
          told = told;
        },
      )
