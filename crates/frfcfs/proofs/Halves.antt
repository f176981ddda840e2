-- Seqs that rise, looked for by halves.
use Rattle.std.proofs.Common.{◌≡◌, ℕ, ◌<◌, ◌≤◌, List, Some, true, false, inl, inr, ap, ◌∙◌, arith, length, get_or, ltb, ltb-true, lt-ltb, slice_get}
use Rattle.std.proofs.lemmas.Bool.{cases_lt, cases_order}
use Rattle.std.proofs.lemmas.Option.{get_or_from_slice_get, slice_get-get_or, slice_get_within}
use Rattle.std.specs.List.Sorted.{IsPartitionPoint}
use Rattle.request_notes.specs.Notes.{SeqsRise}
use Rattle.frfcfs.proofs.Common.{Key}

-- they are those below one and then the others
pub rise_parted : (keys : List Key) → SeqsRise keys → (t i j : ℕ) (d : Key) → i ≤ j → j < length keys → ltb (get_or keys j d).seq t ≡ true → ltb (get_or keys i d).seq t ≡ true
rise_parted keys rise t i j d le within below =
    let less = ltb-true (get_or keys j d).seq t below in
    elim (cases_lt i j) [
      | inl l ↦ let r = rise i j (get_or keys i d) (get_or keys j d) l (slice_get-get_or keys i d (omega (arith, l, within))) (slice_get-get_or keys j d within) in lt-ltb _ t (omega (arith, r, less))
      | inr g ↦ let same : i ≡ j = omega (arith, le, g) in rw same below
    ]

-- only there one that is looked for may stand
pub only_there : (keys : List Key) → SeqsRise keys → (t place j : ℕ) (k : Key) → IsPartitionPoint (λ x. ltb x.seq t ≡ true) (λ x. ltb x.seq t ≡ false) keys place → slice_get keys j ≡ Some k → k.seq ≡ t → j ≡ place
only_there keys rise t place j k point at is =
    let within = slice_get_within keys j k at in
    let own : (get_or keys j k).seq ≡ t = ap (λ (x : Key). x.seq) (get_or_from_slice_get keys j k k at) ∙ is in
    elim (cases_order j place) [
      | inl e ↦ e
      | inr (inl less) ↦ let b = ltb-true (get_or keys j k).seq t (point.0 j k (omega arith) less) in absurd (omega (arith, b, own))
      | inr (inr more) ↦
          let first = get_or keys place k in
          let r = rise place j first k more (slice_get-get_or keys place k (omega (arith, more, within))) at in
          let b : ltb first.seq t ≡ true = lt-ltb first.seq t (omega (arith, r, is)) in
          let c : ltb first.seq t ≡ false = point.1 place k (omega arith) (omega (arith, more, within)) in
          absurd (cc (b, c))
    ]
