-- The first of the ranks' and the requests' commands is the next choice.
use Rattle.std.proofs.Common.{◌≡◌, ℕ, ◌<◌, ◌≤◌, ◌^◌, min, List, Some, None, arith, refl, length, slice_get}
use Rattle.std.proofs.lemmas.Option.{slice_get_within}
use Rattle.frfcfs.proofs.Common.{AreAllBestInTurn, AreBest, AreBestInTurn, AreInOrder, Best, Bests, Checked, Command, HasNoCandidate, IsCandidate, IsBest, IsEligible, IsLawful, IsLeast, IsNextIn, IsNotAfter, IsRankNext, MayHave, Next, OfColumn, OfRank, OfRow, OffersRank, Pending, ServesInTurn, Stamped, Takes, Turn, WantsColumn, WantsRow, limit_of, with_command}
use Rattle.frfcfs.proofs.Lists.{order_upto}

-- a request has its command of a class no sooner than the best one of it
after_best : (Wants : Pending → Command → Type 0) (c : Checked) (list : List Stamped) (pending : List Pending) (now last k : ℕ) (best : Best) (p : Pending) (cmd : Command) →
    IsBest (Takes Wants c list pending last) now (limit_of last) (length pending) best → now ≤ k → k ≤ last → (h : (i : ℕ) × IsEligible pending i p × MayHave c list k p cmd × Wants p cmd) → (k < limit_of last) × (best.clock ≤ k) × (k ≡ best.clock → best.index ≤ h.0)
after_best Wants c list pending now last k best p cmd is from until (i, el, have, wants) = is.first i k (slice_get_within pending i p el.here) from (p, cmd, until, el, have, wants)

-- its ACT or PRE too, also where that isn't looked for
after_row : (c : Checked) (list : List Stamped) (pending : List Pending) (now last k : ℕ) (bests : Bests) (p : Pending) (cmd : Command) →
    AreAllBestInTurn c list pending now last bests → now ≤ k → k ≤ last → ((i : ℕ) × IsEligible pending i p × MayHave c list k p cmd × WantsRow list pending p cmd) → (k < limit_of last) × (bests.row.clock ≤ k)
after_row c list pending now last k bests p cmd best from until (i, el, have, wants) = best.later i k (slice_get_within pending i p el.here) from (p, cmd, until, el, have, wants)

-- no rank has an offer at a clock
abbrev NoRank : Checked → List Stamped → ℕ → Type 0
NoRank c list k = (rank : ℕ) (cmd : Command) → ¬ OffersRank c list k rank cmd

no_rank : (c : Checked) (list : List Stamped) (now until k : ℕ) → IsRankNext c list now until 0 c.geometry.ranks None → now ≤ k → k ≤ until → NoRank c list k
no_rank c list now until k none from le rank cmd h = none rank k cmd (omega arith) h.within from le h

-- the best of each class are so as far as the choice asks for them
pub best_in_turn : (c : Checked) (list : List Stamped) (pending : List Pending) (now last limit end : ℕ) (bests : Bests) → AreBest c list pending now last limit end bests → AreBestInTurn c list pending now last limit end bests
best_in_turn c list pending now last limit end bests best = record {
  column = best.column;
  row = λ ahead. best.row;
  later = λ i k within from t. let f = best.row.first i k within from t in (f.0, f.1);
}

-- no clock before all of them has a candidate
none_before : (c : Checked) (list : List Stamped) (pending : List Pending) (now last k : ℕ) (bests : Bests) → AreAllBestInTurn c list pending now last bests → NoRank c list k →
    now ≤ k → k ≤ last → (k < limit_of last → (k < bests.column.clock) × (k < bests.row.clock)) → HasNoCandidate c list pending k
none_before c list pending now last k bests best ranks from until before (OfRank r) cmd h = ranks r cmd h
none_before c list pending now last k bests best ranks from until before (OfColumn p) cmd h =
    let f = after_best (WantsColumn list) c list pending now last k bests.column p cmd best.column from until h in let g = before f.0 in absurd (omega (arith, g, f.1))
none_before c list pending now last k bests best ranks from until before (OfRow p) cmd h =
    let f = after_row c list pending now last k bests p cmd best from until h in let g = before f.0 in absurd (omega (arith, g, f.1))

-- the choice at a clock before which no rank has an offer, and no request its command
at_first : (c : Checked) (list : List Stamped) (pending : List Pending) (now last : ℕ) (bests : Bests) (next : Next) (turn : Turn) → AreAllBestInTurn c list pending now last bests → ((k : ℕ) → now ≤ k → k < next.clock → NoRank c list k) →
    now ≤ next.clock → next.clock ≤ min (min bests.column.clock bests.row.clock) last → IsLeast c list pending next.clock turn next.cmd → ServesInTurn pending turn next.serves → IsNextIn c list pending now last (Some next)
at_first c list pending now last bests next turn best ranks from until choice serves = record {
  from = from;
  until = omega (arith, until);
  sooner = λ k f less. none_before c list pending now last k bests best (ranks k f less) f (omega (arith, less, until)) (λ _. omega (arith, less, until));
  turn = turn;
  choice = choice;
  serves = serves;
}

-- a rank's command
pub rank_next : (c : Checked) (list : List Stamped) (pending : List Pending) (now last until : ℕ) (bests : Bests) (next : Next) → AreAllBestInTurn c list pending now last bests → IsRankNext c list now until 0 c.geometry.ranks (Some next) →
    until ≡ min (min bests.column.clock bests.row.clock) last → now ≤ next.clock → next.clock ≤ until → next.serves ≡ None → IsNextIn c list pending now last (Some next)
rank_next c list pending now last until bests next best is at from le serves =
    at_first c list pending now last bests next (OfRank is.rank) best (λ k f less r cmd h. let first = (is.first r k cmd (omega arith) h.within f (omega (arith, le, less)) h).0 in absurd (omega (arith, first, less)))
    from (omega (arith, le, at)) (record { candidate = is.offers; least = least }) serves
  where
    least : (other : Turn) (cmd : Command) → IsCandidate c list pending next.clock other cmd → IsNotAfter (OfRank is.rank) other
    least (OfRank r) cmd h = record { class = omega arith; number = λ _. (is.first r next.clock cmd (omega arith) h.within from le h).1 refl }
    least other cmd h = record { class = omega arith; number = λ e. absurd (omega (arith, e)) }

-- a request's command where no rank has an offer: of the requests only the best one of a class may have its command at the same clock
request_next : (c : Checked) (list : List Stamped) (pending : List Pending) (now last until : ℕ) (bests : Bests) (next : Next) (turn : Turn) → AreAllBestInTurn c list pending now last bests → IsRankNext c list now until 0 c.geometry.ranks None →
    until ≡ min (min bests.column.clock bests.row.clock) last → now ≤ next.clock → next.clock ≤ min (min bests.column.clock bests.row.clock) last → IsCandidate c list pending next.clock turn next.cmd → ServesInTurn pending turn next.serves →
    ((p : Pending) (i : ℕ) → IsEligible pending i p → next.clock ≡ bests.column.clock → bests.column.index ≤ i → IsNotAfter turn (OfColumn p)) →
    ((p : Pending) (i : ℕ) → IsEligible pending i p → next.clock ≡ bests.row.clock → (bests.row.clock < bests.column.clock → bests.row.index ≤ i) → IsNotAfter turn (OfRow p)) → IsNextIn c list pending now last (Some next)
request_next c list pending now last until bests next turn best none is from le candidate serves columns rows =
    at_first c list pending now last bests next turn best (λ k f less. no_rank c list now until k none f (omega (arith, less, le, is))) from le (record { candidate = candidate; least = least }) serves
  where
    least : (other : Turn) (cmd : Command) → IsCandidate c list pending next.clock other cmd → IsNotAfter turn other
    least (OfRank r) cmd h = absurd (no_rank c list now until next.clock none from (omega (arith, le, is)) r cmd h)
    least (OfColumn p) cmd h =
        let f = after_best (WantsColumn list) c list pending now last next.clock bests.column p cmd best.column from (omega (arith, le)) h in let same : next.clock ≡ bests.column.clock = omega (arith, f.1, le) in columns p h.0 h.1 same (f.2 same)
    least (OfRow p) cmd h =
        let f = after_row c list pending now last next.clock bests p cmd best from (omega (arith, le)) h in
        let same : next.clock ≡ bests.row.clock = omega (arith, f.1, le) in
        rows p h.0 h.1 same (λ ahead. (after_best (WantsRow list pending) c list pending now last next.clock bests.row p cmd (best.row ahead) from (omega (arith, le)) h).2 same)

-- its RD or WR
pub column_next : (c : Checked) (list : List Stamped) (pending : List Pending) (now last until : ℕ) (bests : Bests) (next : Next) → AreInOrder pending → AreAllBestInTurn c list pending now last bests → IsRankNext c list now until 0 c.geometry.ranks None →
    until ≡ min (min bests.column.clock bests.row.clock) last → now ≤ bests.column.clock → bests.column.clock < limit_of last → bests.column.clock ≤ bests.row.clock → next.clock ≡ bests.column.clock → next.serves ≡ Some bests.column.index →
    ((request : Pending) (cmd : Command) → slice_get pending bests.column.index ≡ Some request → WantsColumn list request cmd → cmd ≡ next.cmd) → IsNextIn c list pending now last (Some next)
column_next c list pending now last until bests next order best none is from early before at serves one =
    let (request, cmd, le, el, have, wants) = (best.column.found early).1 in
    let same = one request cmd el.here wants in
    request_next c list pending now last until bests next (OfColumn request) best none is (omega (arith, at, from)) (omega (arith, at, le, before)) (rw (at, ← same) (bests.column.index, el, have, wants)) (rw serves el.here)
    (λ p i own _ younger. record { class = omega arith; number = λ _. order_upto pending bests.column.index i request p order el.here own.here younger }) (λ p i own _ younger. record { class = omega arith; number = λ e. absurd (omega (arith, e)) })

-- its ACT or PRE
pub row_next : (c : Checked) (list : List Stamped) (pending : List Pending) (now last until : ℕ) (bests : Bests) (next : Next) → AreInOrder pending → AreAllBestInTurn c list pending now last bests → IsRankNext c list now until 0 c.geometry.ranks None →
    until ≡ min (min bests.column.clock bests.row.clock) last → now ≤ bests.row.clock → bests.row.clock < limit_of last → bests.row.clock < bests.column.clock → next.clock ≡ bests.row.clock → next.serves ≡ None →
    ((request : Pending) (cmd : Command) → slice_get pending bests.row.index ≡ Some request → WantsRow list pending request cmd → cmd ≡ next.cmd) → IsNextIn c list pending now last (Some next)
row_next c list pending now last until bests next order best none is from early ahead at serves one =
    let (request, cmd, le, el, have, wants) = ((best.row ahead).found early).1 in
    let same = one request cmd el.here wants in
    request_next c list pending now last until bests next (OfRow request) best none is (omega (arith, at, from)) (omega (arith, at, le, ahead)) (rw (at, ← same) (bests.row.index, el, have, wants)) serves
    (λ p i own same _. absurd (omega (arith, same, at, ahead))) (λ p i own _ younger. record { class = omega arith; number = λ _. order_upto pending bests.row.index i request p order el.here own.here (younger ahead) })

-- none
pub none_next : (c : Checked) (list : List Stamped) (pending : List Pending) (now last until : ℕ) (bests : Bests) → AreAllBestInTurn c list pending now last bests → IsRankNext c list now until 0 c.geometry.ranks None →
    until ≡ min (min bests.column.clock bests.row.clock) last → last < 2 ^ 64 → limit_of last ≤ bests.column.clock → limit_of last ≤ bests.row.clock → IsNextIn c list pending now last None
none_next c list pending now last until bests best none is small column row k from le =
    none_before c list pending now last k bests best (no_rank c list now until k none from (omega (arith, is, le, small, column, row))) from le (λ l. omega (arith, l, column, row))

-- the next command is lawful
pub next_lawful : (c : Checked) (list : List Stamped) (pending : List Pending) (now last : ℕ) (next : Next) → IsNextIn c list pending now last (Some next) → IsLawful c (with_command list next.clock next.cmd)
next_lawful c list pending now last next is = go is.turn is.choice.candidate
  where
    go : (turn : Turn) → IsCandidate c list pending next.clock turn next.cmd → IsLawful c (with_command list next.clock next.cmd)
    go (OfRank r) h = h.lawful
    go (OfColumn p) h = h.2.lawful
    go (OfRow p) h = h.2.lawful
