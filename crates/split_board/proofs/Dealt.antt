-- Seats that are dealt to the channels one after another.
use Rattle.std.proofs.Common.{◌≡◌, ◌∙◌, ℕ, suc, zero, ◌+◌, ◌<◌, ◌≤◌, Bool, List, [], ◌∷◌, ◌++◌, length, slice_get, slice_index_or, Option, Some, ap, arith, refl, subst, sym, ⊎_elim}
use Rattle.std.specs.Prelude.{slice_set}
use Rattle.std.proofs.Math.Seq.{set-append_seam}
use Rattle.std.proofs.lemmas.Bool.{cases_lt}
use Rattle.std.proofs.lemmas.List.{set-set}
use Rattle.atomic_table.specs.Seated.{TableId}
use Rattle.channel_log.specs.Log.{LogNote, credits_of, log_tells}
use Rattle.channel_log.specs.Seats.{AllLogs, OneLog, all_logs, one_log}
use Rattle.channel_port.specs.declared.port.ChannelPort.{Ghosts}
use Rattle.split_board.specs.FirstLogs.{AreToldOfPorts, HaveSeats, told_without_writes}

-- what the front's seat knows once a seat was dealt and two entries were noted at it
pub dealt_known : (table : TableId) (logs : List (List LogNote)) (dealt held ended : AllLogs) (seat held_seat : OneLog) (last : List LogNote)
    → dealt ≡ all_logs table (logs ++ [] ∷ []) → seat ≡ one_log table (length logs) []
    → held ≡ record dealt { logs = slice_set dealt.logs seat.channel held_seat.log } → held_seat ≡ record seat { log = held_seat.log }
    → ended ≡ record held { logs = slice_set held.logs held_seat.channel last } → ended ≡ all_logs table (logs ++ last ∷ [])
dealt_known table logs dealt held ended seat held_seat last dealt_is seat_is held_is held_seat_is ended_is =
    let channel_is : held_seat.channel ≡ length logs = ap (λ (s : OneLog). s.channel) held_seat_is ∙ ap (λ (s : OneLog). s.channel) seat_is in
    ended_is
    ∙ ap (λ (n : ℕ). record held { logs = slice_set held.logs n last }) channel_is
    ∙ ap (λ (f : AllLogs). record f { logs = slice_set f.logs (length logs) last }) held_is
    ∙ ap (λ (n : ℕ). record dealt { logs = slice_set (slice_set dealt.logs n held_seat.log) (length logs) last }) (ap (λ (s : OneLog). s.channel) seat_is)
    ∙ ap (λ (f : AllLogs). record f { logs = slice_set (slice_set f.logs (length logs) held_seat.log) (length logs) last }) dealt_is
    ∙ ap (all_logs table) (set-set (logs ++ [] ∷ []) (length logs) held_seat.log last ∙ set-append_seam logs [] [] last)

-- what stands in a list with one more element
get_front : {X : Type 0} (xs ys : List X) (i : ℕ) → i < length xs → slice_get (xs ++ ys) i ≡ slice_get xs i
get_front [] ys i below = absurd (omega (arith, below))
get_front (x ∷ xs) ys zero below = refl
get_front (x ∷ xs) ys (suc i) below = get_front xs ys i (omega (arith, below))

get_last : {X : Type 0} (xs : List X) (x : X) (i : ℕ) → i ≡ length xs → slice_get (xs ++ x ∷ []) i ≡ Some x
get_last [] x zero is = refl
get_last [] x (suc i) is = absurd (omega (arith, is))
get_last (y ∷ xs) x zero is = absurd (omega (arith, is))
get_last (y ∷ xs) x (suc i) is = get_last xs x i (omega (arith, is))

index_front : {X : Type 0} (xs ys : List X) (i : ℕ) (d : X) → i < length xs → slice_index_or (xs ++ ys) i d ≡ slice_index_or xs i d
index_front [] ys i d below = absurd (omega (arith, below))
index_front (x ∷ xs) ys zero d below = refl
index_front (x ∷ xs) ys (suc i) d below = index_front xs ys i d (omega (arith, below))

index_last : {X : Type 0} (xs : List X) (x : X) (i : ℕ) (d : X) → i ≡ length xs → slice_index_or (xs ++ x ∷ []) i d ≡ x
index_last [] x zero d is = refl
index_last [] x (suc i) d is = absurd (omega (arith, is))
index_last (y ∷ xs) x zero d is = absurd (omega (arith, is))
index_last (y ∷ xs) x (suc i) d is = index_last xs x i d (omega (arith, is))

more : {X : Type 0} (xs : List X) (x : X) (n : ℕ) → length xs ≡ n → length (xs ++ x ∷ []) ≡ n + 1
more [] x n is = omega (arith, is)
more (y ∷ xs) x zero is = absurd (omega (arith, is))
more (y ∷ xs) x (suc n) is = let rest = more xs x n (omega (arith, is)) in omega (arith, rest)

-- no seat yet
pub none_dealt : (known : AllLogs) (seats : List OneLog) → known.logs ≡ [] → seats ≡ [] → HaveSeats 0 known seats
none_dealt known seats logs_are seats_are = record {
  logs_are = ap length logs_are;
  seats_are = ap length seats_are;
  each = λ channel below. absurd (omega (arith, below));
}

-- one more seat
pub one_dealt : (count : ℕ) (known new : AllLogs) (seats : List OneLog) (seat : OneLog) → HaveSeats count known seats → new ≡ all_logs known.table (known.logs ++ seat.log ∷ [])
    → seat ≡ one_log known.table (length known.logs) seat.log → HaveSeats (count + 1) new (seats ++ seat ∷ [])
one_dealt count known new seats seat have new_is seat_is = subst (λ (f : AllLogs). HaveSeats (count + 1) f (seats ++ seat ∷ [])) (sym new_is) (record {
  logs_are = more known.logs seat.log count have.logs_are;
  seats_are = more seats seat count have.seats_are;
  each = λ channel below. ⊎_elim
      (λ (less : channel < count).
      get_front seats (seat ∷ []) channel (let size = have.seats_are in omega (arith, less, size)) ∙ have.each channel less
      ∙ ap (λ (log : List LogNote). Some (one_log known.table channel log)) (sym (index_front known.logs (seat.log ∷ []) channel [] (let size = have.logs_are in omega (arith, less, size)))))
      (λ (beyond : count ≤ channel).
      let last : channel ≡ length seats = (let size = have.seats_are in omega (arith, below, beyond, size)) in
      let here : channel ≡ length known.logs = (let size = have.logs_are in omega (arith, below, beyond, size)) in
      get_last seats seat channel last ∙ ap Some seat_is
      ∙ ap (λ (n : ℕ). Some (one_log known.table n seat.log)) (sym here)
      ∙ ap (λ (log : List LogNote). Some (one_log known.table channel log)) (sym (index_last known.logs seat.log channel [] here)))
      (cases_lt channel count);
})

module _ {K : Type 0} (L : Ghosts K) (hold : Option ℕ) (ended : Bool) (ports : List K) where
  pub none_told : (logs : List (List LogNote)) → AreToldOfPorts L hold ended ports 0 logs
  none_told logs = record { told = λ channel below. absurd (omega (arith, below)); few = λ channel below. absurd (omega (arith, below)) }

  pub one_told : (count : ℕ) (table : TableId) (known new : AllLogs) (log : List LogNote) (port : Option K) → length known.logs ≡ count → AreToldOfPorts L hold ended ports count known.logs
      → new ≡ all_logs table (known.logs ++ log ∷ []) → port ≡ slice_get ports count → log_tells log ≡ told_without_writes L hold ended port → credits_of log ≤ 64
      → AreToldOfPorts L hold ended ports (count + 1) new.logs
  one_told count table known new log port size are new_is port_is tells most = subst (λ (f : AllLogs). AreToldOfPorts L hold ended ports (count + 1) f.logs) (sym new_is) (record {
    told = λ channel below. ⊎_elim
        (λ (less : channel < count). ap log_tells (index_front known.logs (log ∷ []) channel [] (omega (arith, less, size))) ∙ are.told channel less)
        (λ (beyond : count ≤ channel).
        let here : channel ≡ count = omega (arith, below, beyond) in
        ap log_tells (index_last known.logs log channel [] (here ∙ sym size)) ∙ tells
        ∙ ap (told_without_writes L hold ended) (port_is ∙ ap (slice_get ports) (sym here)))
        (cases_lt channel count);
    few = λ channel below. ⊎_elim
        (λ (less : channel < count). subst (λ (l : List LogNote). credits_of l ≤ 64) (sym (index_front known.logs (log ∷ []) channel [] (omega (arith, less, size)))) (are.few channel less))
        (λ (beyond : count ≤ channel).
        let here : channel ≡ count = omega (arith, below, beyond) in
        subst (λ (l : List LogNote). credits_of l ≤ 64) (sym (index_last known.logs log channel [] (here ∙ sym size))) most)
        (cases_lt channel count);
  })
