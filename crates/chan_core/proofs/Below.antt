-- The memory below a number.
use Rattle.std.proofs.Common.{◌≡◌, ℕ, zero, suc, ◌≤◌, Bool, List, [], ◌∷◌, count_by, filter, nat_lt, refl, ap, ◌∙◌, append-nil}
use Rattle.std.proofs.lemmas.Bool.{le-ltb, lt-ltb}
use Rattle.std.proofs.lemmas.List.{nil_from_length}
use Rattle.std.proofs.lemmas.List.Elements.{filter-append}
use Rattle.std.proofs.lemmas.List.Sums.{length-filter}
use Rattle.chan_core.proofs.Common.{AddsWrite, ChannelState, ComeBefore, PendingWrite, Place, after_pending, channel_memory, memory_below}

abbrev below : ℕ → PendingWrite → Bool
below n w = nat_lt w.number n

pub below-none : (s : ChannelState) (n : ℕ) → count_by (λ w. nat_lt w.number n) s.writes ≡ 0 → memory_below n s ≡ s.array
below-none s n none = ap (after_pending s.array) (nil_from_length (filter (below n) s.writes) (length-filter (below n) s.writes ∙ none))

keeps-all : (n : ℕ) (ws : List PendingWrite) → ComeBefore n ws → filter (below n) ws ≡ ws
keeps-all n [] before = refl
keeps-all n (w ∷ ws) before =
    rw (lt-ltb w.number n (before.each zero w refl), keeps-all n ws (record { each = λ i v at. before.each (suc i) v at }))

pub below-all : (s : ChannelState) (n : ℕ) → ComeBefore n s.writes → memory_below n s ≡ channel_memory s
below-all s n before = ap (after_pending s.array) (keeps-all n s.writes before)

pub below-later : (old new : ChannelState) (n number : ℕ) (place : Place) (bytes : List ℕ) → n ≤ number → AddsWrite old number place bytes new → memory_below n new ≡ memory_below n old
below-later old new n number place bytes more adds = rw (adds.same, filter-append, le-ltb number n more, append-nil)
