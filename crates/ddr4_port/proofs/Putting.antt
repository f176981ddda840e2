-- A write that is put into a channel.
use Rattle.std.proofs.Common.{◌≡◌, ◌≢◌, ◌<◌, ◌≤◌, ℕ, zero, suc, List, [], ◌∷◌, ◌++◌, get_or, length, map, slice_get, slice_index_or, slice_set, Some, inl, inr, refl, sym, ap, subst, ◌∙◌, arith, length-set, get_or-set_same, get_or-set_other}
use Rattle.std.proofs.lemmas.Bool.Decides.{eqb_tells}
use Rattle.std.proofs.lemmas.List.Elements.{All-head, All-tail, filter-append}
use Rattle.std.proofs.lemmas.List.Sums.{fold-append}
use Rattle.std.proofs.lemmas.Option.{slice_get-get_or}
use Rattle.ddr4_port.proofs.Common.{AddsWrite, AllBelow, Carries, ChannelState, Has, HasRightContents, IsInterleaving}
use Rattle.ddr4_port.proofs.Common.{LiesOn, Numbered, PendingWrite, Place, WaitFrom, WritesAt, after, after_write}
use Rattle.ddr4_port.proofs.Common.{append-nil, appended, cases_order, cell_in, channel_memory, le-ltb, line_at}
use Rattle.ddr4_port.proofs.Common.{line_below, line_of, lines_of, lt-ltb, map-append, memory_below, waiting_on}
use Rattle.ddr4_port.proofs.Common.{waits_of}
use Rattle.line_memory.specs.Parts.{AreBefore, below, numbered, writes_of}
use Rattle.line_memory.specs.declared.Write.{Write}
use Rattle.frfcfs.proofs.Lists.{All-at}
use Rattle.interleave_map.specs.Cells.{cell_of, cells_of}
use Rattle.interleave_map.proofs.Numbering.{cell_within, same_cell_same_place}
use Rattle.wpq_core.specs.Writes.{ComeBefore, pending_write}
use Rattle.chan_core.proofs.Below.{below-all, below-later}
use Rattle.chan_core.proofs.Kept.{map-at}
use Rattle.ddr4_port.proofs.Keeping.{carried}
use Rattle.ddr4_port.proofs.Numbers.{number-waits, wait-of}

-- a number above those of all writes that wait
pub above-there : (channel number : ℕ) (ws : List PendingWrite) → AllBelow number (map (waiting_on channel) ws) → ComeBefore number ws
above-there channel number ws above = record {
  each = λ k v there. All-at (λ w. w.number < number) (map (waiting_on channel) ws) k (waiting_on channel v) above (map-at (waiting_on channel) ws k v there);
}

length-after : (memory : List (List ℕ)) (writes : List Write) → length (after memory writes) ≡ length memory
length-after memory [] = refl
length-after memory (w ∷ writes) = length-after (after_write memory w) writes ∙ length-set memory w.line w.«data»

-- the writes below a number, with one more behind them
below-with : (n : ℕ) (mine : List Numbered) (number : ℕ) (write : Write) → number < n → AreBefore number mine → below n (mine ++ numbered number write ∷ []) ≡ mine ++ numbered number write ∷ []
below-with n [] number write less before = rw (lt-ltb number n less) refl
below-with n (w ∷ mine) number write less before =
    rw (lt-ltb w.number n (omega (arith, less, All-head (λ v. v.number < number) w mine before)), below-with n mine number write less (All-tail (λ v. v.number < number) w mine before)) refl

below-without : (n : ℕ) (mine : List Numbered) (number : ℕ) (write : Write) → n ≤ number → below n (mine ++ numbered number write ∷ []) ≡ below n mine
below-without n mine number write more = rw (filter-append, le-ltb number n more, append-nil) refl

come-before-added : (n : ℕ) (ws : List PendingWrite) (w : PendingWrite) → w.number < n → ComeBefore w.number ws → ComeBefore n (ws ++ w ∷ [])
come-before-added n ws w less before = record {
  each = λ k v at. elim (appended ws w k v at).is [
    | inl old ↦ omega (arith, before.each k v old, less)
    | inr last ↦ omega (arith, less, ap (λ (x : PendingWrite). x.number) last.1)
  ];
}

get-front : {X : Type 0} (xs ys : List X) (k : ℕ) (x : X) → slice_get xs k ≡ Some x → slice_get (xs ++ ys) k ≡ Some x
get-front [] ys k x at = absurd cc
get-front (y ∷ xs) ys zero x at = at
get-front (y ∷ xs) ys (suc k) x at = get-front xs ys k x at

has-front : {X : Type 0} (x : X) (xs ys : List X) → Has x xs → Has x (xs ++ ys)
has-front x xs ys has = (has.0, get-front xs ys has.0 x has.1)

has-last : {X : Type 0} (x : X) (xs : List X) → Has x (xs ++ x ∷ [])
has-last x [] = (zero, refl)
has-last x (y ∷ xs) = let rest = has-last x xs in (suc rest.0, rest.1)

-- A write with a number above those of all others is added.
module _ (places : ℕ → Place) (s t : ChannelState) (number : ℕ) (write : Write) (contents : HasRightContents s) (are : IsInterleaving s.checked.geometry places) (own : LiesOn places s write.line)
    (above : ComeBefore number s.writes) (adds : AddsWrite s number (places write.line) write.«data» t) (memory : WritesAt s (places write.line) write.«data» t) where
  abbrev added : PendingWrite
  added = pending_write number (cell_in s (places write.line)) write.«data»

  checked : t.checked ≡ s.checked
  checked = ap (λ (x : ChannelState). x.checked) adds.same

  channel : t.channel ≡ s.channel
  channel = ap (λ (x : ChannelState). x.channel) adds.same

  writes-are : t.writes ≡ s.writes ++ added ∷ []
  writes-are = ap (λ (x : ChannelState). x.writes) adds.same

  again : (line : ℕ) → LiesOn places t line → LiesOn places s line
  again line is = record { below = subst (λ c. line < lines_of c.geometry) checked is.below; here = is.here ∙ channel }

  module _ (base : List (List ℕ)) (mine : List Numbered) (before : AreBefore number mine) (c : Carries places s base mine) where
    abbrev more : List Numbered
    more = mine ++ numbered number write ∷ []

    after-more : after base (writes_of more) ≡ after_write (after base (writes_of mine)) write
    after-more = ap (after base) (map-append (λ w. w.write) mine (numbered number write ∷ [])) ∙ fold-append after_write base (writes_of mine) (write ∷ [])

    cell-inside : cell_in s (places write.line) < length (channel_memory s)
    cell-inside =
        let size : length (channel_memory s) ≡ cells_of s.checked.geometry = length-after s.array (map (λ x. x.write) s.writes) ∙ contents.array.size in
        omega (arith, size, cell_within s.checked.geometry (places write.line) (are.lies_in write.line own.below))

    -- the line that was written, and any other
    there-after : (line : ℕ) → line_at t (places line) ≡ slice_index_or (slice_set (channel_memory s) (cell_in s (places write.line)) write.«data») (cell_in s (places line)) []
    there-after line =
        ap (λ ls. slice_index_or ls (cell_in t (places line)) []) memory
        ∙ ap (λ k. slice_index_or (slice_set (channel_memory s) (cell_in s (places write.line)) write.«data») (cell_of k.geometry (places line)) []) checked

    whole-here : line_at t (places write.line) ≡ line_of (after_write (after base (writes_of mine)) write) write.line
    whole-here =
        let size : length (after base (writes_of mine)) ≡ lines_of s.checked.geometry = length-after base (writes_of mine) ∙ c.size in
        there-after write.line
        ∙ get_or-set_same (channel_memory s) (cell_in s (places write.line)) write.«data» [] cell-inside
        ∙ sym (get_or-set_same (after base (writes_of mine)) write.line write.«data» [] (omega (arith, own.below, size)))

    whole-other : (line : ℕ) → LiesOn places s line → line ≢ write.line → line_at t (places line) ≡ line_of (after_write (after base (writes_of mine)) write) line
    whole-other line is other =
        let apart : cell_in s (places line) ≢ cell_in s (places write.line) = λ same.
        other (are.apart line write.line is.below own.below (same_cell_same_place s.checked.geometry (places line) (places write.line) (are.lies_in line is.below) (are.lies_in write.line own.below) (is.here ∙ sym own.here) same)) in
        there-after line
        ∙ get_or-set_other (channel_memory s) (cell_in s (places write.line)) (cell_in s (places line)) write.«data» [] apart
        ∙ c.whole line is
        ∙ sym (get_or-set_other (after base (writes_of mine)) write.line line write.«data» [] other)

    whole-more : (line : ℕ) → LiesOn places t line → line_at t (places line) ≡ line_of (after base (writes_of more)) line
    whole-more line is =
        elim (eqb_tells line write.line) [
          | inl same ↦ subst (λ l. line_at t (places l) ≡ line_of (after_write (after base (writes_of mine)) write) l) (sym same.1) whole-here
          | inr other ↦ whole-other line (again line is) other.1
        ]
        ∙ ap (λ ls. line_of ls line) (sym after-more)

    -- what waited before, where the new write is one of those that wait
    waited-before : (n : ℕ) → WaitFrom n more (waits_of t).writes → WaitFrom n mine (waits_of s).writes
    waited-before n waits k d less = λ from.
        let v = get_or mine k d in
        let at = slice_get-get_or mine k d less in
        let under = All-at (λ w. w.number < number) mine k v before at in
        let has = wait-of t.channel n k more t.writes v waits (get-front mine (numbered number write ∷ []) k v at) from in
        number-waits s.channel v.number s.writes (elim (appended s.writes added has.index has.write (ap (λ ws. slice_get ws has.index) (sym writes-are) ∙ has.there)).is [
          | inl old ↦ record { index = has.index; write = has.write; there = old; named = has.named }
          | inr last ↦ absurd (omega (arith, under, has.named, ap (λ (x : PendingWrite). x.number) last.1))
        ])

    lines-more : (n line : ℕ) → WaitFrom n more (waits_of t).writes → LiesOn places t line → line_below n t (places line) ≡ line_of (after base (writes_of (below n more))) line
    lines-more n line waits is = elim (cases_order number n) [
      | inl e ↦ before-it (omega (arith, e))
      | inr (inl less) ↦
          ap (λ ls. slice_index_or ls (cell_in t (places line)) []) (below-all t n (subst (ComeBefore n) (sym writes-are) (come-before-added n s.writes added less above)))
          ∙ whole-more line is
          ∙ ap (λ ws. line_of (after base (writes_of ws)) line) (sym (below-with n mine number write less before))
      | inr (inr above) ↦ before-it (omega (arith, above))
    ]
      where
        before-it : n ≤ number → line_below n t (places line) ≡ line_of (after base (writes_of (below n more))) line
        before-it under =
            ap (λ ls. slice_index_or ls (cell_in t (places line)) []) (below-later s t n number (places write.line) write.«data» under adds)
            ∙ ap (λ k. slice_index_or (memory_below n s) (cell_of k.geometry (places line)) []) checked
            ∙ c.lines n line (waited-before n waits) (again line is)
            ∙ ap (λ ws. line_of (after base (writes_of ws)) line) (sym (below-without n mine number write under))

    given-more : (i : ℕ) (w : PendingWrite) → slice_get t.writes i ≡ Some w → (v : Numbered) × Has v more × (v.number ≡ w.number)
    given-more i w at = elim (appended s.writes added i w (ap (λ ws. slice_get ws i) (sym writes-are) ∙ at)).is [
      | inl old ↦ let (v, has, is) = c.given i w old in (v, has-front v mine (numbered number write ∷ []) has, is)
      | inr last ↦ (numbered number write, has-last (numbered number write) mine, ap (λ (x : PendingWrite). x.number) last.1)
    ]

    pub carries-more : Carries places t base more
    carries-more = carried places t base more (c.size ∙ ap (λ k. lines_of k.geometry) (sym checked)) given-more whole-more lines-more
