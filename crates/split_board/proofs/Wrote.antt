-- Writes that are noted at the seats of their lines' channels.
use Rattle.std.proofs.Common.{◌≡◌, ◌≢◌, ◌∙◌, ℕ, suc, zero, ◌+◌, ◌-◌, ◌<◌, ◌≤◌, List, [], ◌∷◌, ◌++◌, length, slice_get, take, Some, ap, arith, refl, subst, sym, ⊎_elim, get_or-set_same, get_or-set_other, length-set}
use Rattle.std.specs.Prelude.{slice_set}
use Rattle.std.proofs.lemmas.Bool.{cases_eq}
use Rattle.std.proofs.lemmas.Option.{slice_get_within}
use Rattle.atomic_table.specs.Seated.{TableId}
use Rattle.channel_set.proofs.Lists.{get-set_same, get-set_other}
use Rattle.channel_set.proofs.Written.{numbers-before, written-else, written-here}
use Rattle.line_memory.specs.declared.Write.{Write}
use Rattle.line_memory.specs.declared.parts.Numbered.{Numbered}
use Rattle.line_memory.specs.History.{Recorded, write_at}
use Rattle.line_memory.specs.Parts.{AreBefore, numbered, written_on}
use Rattle.channel_log.specs.Log.{LogNote, Told, log_tells}
use Rattle.channel_log.specs.Seats.{AllLogs, OneLog, one_log}
use Rattle.split_board.specs.FirstLogs.{HaveSeats, TellNoWrite, TellWrites, channel_by, log_in}

-- one more write of a list
taken_next : (ws : List Write) (k : ℕ) (w : Write) → slice_get ws k ≡ Some w → take (suc k) ws ≡ take k ws ++ w ∷ []
taken_next [] k w at = absurd (grind (arith, at))
taken_next (v ∷ ws) zero w at = ap (λ (o : Write). o ∷ []) (let same : Some v ≡ Some w = at in cc)
taken_next (v ∷ ws) (suc k) w at = ap (λ (xs : List Write). v ∷ xs) (taken_next ws k w at)

taken_more : (ws : List Write) (k : ℕ) (w : Write) → slice_get ws k ≡ Some w → take (k + 1) ws ≡ take k ws ++ w ∷ []
taken_more ws k w at = let next : k + 1 ≡ suc k = omega arith in ap (λ (n : ℕ). take n ws) next ∙ taken_next ws k w at

-- the write of a number
pub stands_at : (start number : ℕ) (ws : List Write) (w : Write) → start ≤ number → write_at start ws number ≡ Some w → slice_get ws (number - start) ≡ Some w
stands_at start number ws w least at = grind (arith, at, least)

taken_size : (ws : List Write) (k : ℕ) → k ≤ length ws → length (take k ws) ≡ k
taken_size ws zero most = refl
taken_size [] (suc k) most = absurd (omega (arith, most))
taken_size (v ∷ ws) (suc k) most = let rest = taken_size ws k (omega (arith, most)) in omega (arith, rest)

-- what a seat knows that stands among the channels' seats
module _ (known : AllLogs) (seats : List OneLog) (have : HaveSeats 8 known seats) (channel : ℕ) (less : channel < 8) (seat : OneLog) (at : slice_get seats channel ≡ Some seat) where
  pub seat_is : seat ≡ one_log known.table channel (log_in known.logs channel)
  seat_is = let same : Some seat ≡ Some (one_log known.table channel (log_in known.logs channel)) = sym at ∙ have.each channel less in cc

  -- it has one more note
  module _ (new : AllLogs) (new_seat : OneLog) (log : List LogNote) (new_seat_is : new_seat ≡ record seat { log = log }) (new_is : new ≡ record known { logs = slice_set known.logs seat.channel new_seat.log }) where
    new_logs : new.logs ≡ slice_set known.logs channel log
    new_logs =
        ap (λ (f : AllLogs). f.logs) new_is
        ∙ ap (λ (n : ℕ). slice_set known.logs n new_seat.log) (ap (λ (s : OneLog). s.channel) seat_is)
        ∙ ap (λ (s : OneLog). slice_set known.logs channel s.log) new_seat_is

    new_seat_at : new_seat ≡ one_log known.table channel log
    new_seat_at = new_seat_is ∙ ap (λ (s : OneLog). record s { log = log }) seat_is

    new_table : new.table ≡ known.table
    new_table = ap (λ (f : AllLogs). f.table) new_is

    log_here : log_in new.logs channel ≡ log
    log_here = ap (λ (ls : List (List LogNote)). log_in ls channel) new_logs ∙ get_or-set_same known.logs channel log [] (let size = have.logs_are in omega (arith, size, less))

    log_else : (other : ℕ) → other ≢ channel → log_in new.logs other ≡ log_in known.logs other
    log_else other apart = ap (λ (ls : List (List LogNote)). log_in ls other) new_logs ∙ get_or-set_other known.logs channel other log [] apart

    pub seats_noted : HaveSeats 8 new (slice_set seats channel new_seat)
    seats_noted = record {
      logs_are = ap length new_logs ∙ length-set known.logs channel log ∙ have.logs_are;
      seats_are = length-set seats channel new_seat ∙ have.seats_are;
      each = λ other below. ⊎_elim
          (λ (here : other ≡ channel).
          ap (slice_get (slice_set seats channel new_seat)) here ∙ get-set_same seats channel new_seat (let size = have.seats_are in omega (arith, size, less))
          ∙ ap Some (new_seat_at ∙ ap (λ (t : TableId). one_log t channel log) (sym new_table)) ∙ ap (λ (l : List LogNote). Some (one_log new.table channel l)) (sym log_here)
          ∙ ap (λ (n : ℕ). Some (one_log new.table n (log_in new.logs n))) (sym here))
          (λ (apart : other ≢ channel).
          get-set_other seats channel other new_seat apart ∙ have.each other below
          ∙ ap (λ (t : TableId). Some (one_log t other (log_in known.logs other))) (sym new_table)
          ∙ ap (λ (l : List LogNote). Some (one_log new.table other l)) (sym (log_else other apart)))
          (cases_eq other channel);
    }

    -- the note was that of the next write
    module _ (table : List ℕ) (history : Recorded) (count : ℕ) (first : List (List LogNote)) (told : TellWrites table history count first known.logs)
        (write : Write) (next : slice_get history.writes count ≡ Some write) (on : channel ≡ channel_by table write.line) where
      number_next : count < length history.writes
      number_next = slice_get_within history.writes count write next

      pub told_noted : log_tells log ≡ record (log_tells seat.log) { written = (log_tells seat.log).written ++ numbered (history.start + count) write ∷ []; waits = (log_tells seat.log).waits }
          → TellWrites table history (count + 1) first new.logs
      told_noted tells other below =
          let taken : take (count + 1) history.writes ≡ take count history.writes ++ write ∷ [] = taken_more history.writes count write next in
          let size : length (take count history.writes) ≡ count = taken_size history.writes count (let less = number_next in omega (arith, less)) in
          ⊎_elim
          (λ (here : other ≡ channel).
          let was : log_tells seat.log ≡ record (log_tells (log_in first channel)) { written = written_on (channel_by table) channel history.start (take count history.writes) } =
          ap (λ (s : OneLog). log_tells s.log) seat_is ∙ told channel less in
          let grown : written_on (channel_by table) channel history.start (take (count + 1) history.writes) ≡ written_on (channel_by table) channel history.start (take count history.writes) ++ numbered (history.start + count) write ∷ [] =
          ap (written_on (channel_by table) channel history.start) taken
          ∙ written-here (channel_by table) channel history.start (take count history.writes) write (history.start + count) (ap (λ (n : ℕ). history.start + n) (sym size)) (sym on) in
          subst (λ (c : ℕ). log_tells (log_in new.logs c) ≡ record (log_tells (log_in first c)) { written = written_on (channel_by table) c history.start (take (count + 1) history.writes) }) (sym here)
          (ap log_tells log_here ∙ tells
          ∙ ap (λ (t : Told). record t { written = t.written ++ numbered (history.start + count) write ∷ [] }) was
          ∙ ap (λ (ws : List Numbered). record (log_tells (log_in first channel)) { written = ws }) (sym grown)))
          (λ (apart : other ≢ channel).
          let same : written_on (channel_by table) other history.start (take (count + 1) history.writes) ≡ written_on (channel_by table) other history.start (take count history.writes) =
          ap (written_on (channel_by table) other history.start) taken
          ∙ written-else (channel_by table) other history.start (take count history.writes) write (λ lies. apart (sym (on ∙ lies))) in
          ap log_tells (log_else other apart) ∙ told other below
          ∙ ap (λ (ws : List Numbered). record (log_tells (log_in first other)) { written = ws }) (sym same))
          (cases_eq other channel)

  -- the number of the next write is above those that were noted
  pub number_above : (table : List ℕ) (history : Recorded) (count : ℕ) (first : List (List LogNote)) → TellWrites table history count first known.logs → count ≤ length history.writes
      → AreBefore (history.start + count) (log_tells seat.log).written
  number_above table history count first told most =
      subst (AreBefore (history.start + count)) (sym (ap (λ (s : OneLog). (log_tells s.log).written) seat_is ∙ ap (λ (t : Told). t.written) (told channel less)))
      (numbers-before (channel_by table) channel history.start (take count history.writes) (history.start + count) (ap (λ (n : ℕ). history.start + n) (sym (taken_size history.writes count most))))

-- before the first write
pub none_noted : (table : List ℕ) (history : Recorded) (logs : List (List LogNote)) → TellNoWrite logs → TellWrites table history 0 logs logs
none_noted table history logs none channel less = ap (λ (ws : List Numbered). record (log_tells (log_in logs channel)) { written = ws }) (none channel less)
