-- Notes of the oldest eligible requests, as keys come and go.
use Rattle.std.proofs.Common.{◌≡◌, ◌≢◌, ℕ, ◌+◌, ◌-◌, ◌<◌, ◌≤◌, ◌↔◌, ◌⊎◌, List, [], ◌∷◌, ◌++◌, Bool, true, Option, None, Some, inl, inr, refl, sym, subst, ap, ◌∙◌, arith, take, drop, length, get_or, set, length-set, get_or-set_same, get_or-set_other, remove, replicate, slice_get, Contains}
use Rattle.std.proofs.lemmas.Bool.{cases_eq, cases_lt, cases_order}
use Rattle.std.proofs.lemmas.List.{get_or-drop, get_or-replicate, length-drop, take_more}
use Rattle.std.proofs.lemmas.List.Edits.{get_or-remove_above, get_or-remove_below, length-remove}
use Rattle.std.proofs.lemmas.List.Elements.{Contains-append_left, Contains-push, Contains-push_cases}
use Rattle.std.proofs.lemmas.Option.{get_or_from_slice_get, slice_get-get_or, slice_get_within}
use Rattle.request_notes.specs.BankSets.{Has}
use Rattle.request_notes.specs.Notes.{AreNotes, IsFirstIn, IsFree, IsGone, IsHit, IsMarked, IsNoteOf, IsOfBank, IsOldestSeq, Joins, SeqsRise, note_of, older}
use Rattle.request_notes.specs.declared.bank_set.BankSet.{BankSet}
use Rattle.request_notes.specs.declared.notes.Note.{Note}
use Rattle.request_notes.specs.declared.notes.Notes.{Notes}
use Rattle.request_notes.specs.declared.key.Key.{Key}
use Rattle.request_notes.specs.declared.pending.Kind.{Kind}
use Rattle.request_notes.specs.declared.pending.Kind.TheVariants.{Read, Write}
use Rattle.request_notes.proofs.Stood.{get_or-stood, stood}

-- the least seq of what is meant

pub oldest_same : (S T : Key → Type 0) (seq : Option ℕ) → ((k : Key) → S k → T k) → ((k : Key) → T k → S k) → IsOldestSeq S seq → IsOldestSeq T seq
oldest_same S T None to from h = λ k t. h k (from k t)
oldest_same S T (Some n) to from h = ((h.0.0, to h.0.0 h.0.1, h.0.2), λ k t. h.1 k (from k t))

-- of one more
oldest_joins : (S T : Key → Type 0) (key : Key) (seq : Option ℕ) → ((k : Key) → S k → T k) → T key → ((k : Key) → T k → S k ⊎ (k ≡ key)) → IsOldestSeq S seq → IsOldestSeq T (Some (older seq key.seq))
oldest_joins S T key None to here each h = (
  (key, here, refl),
  λ k t. elim (each k t) [
    | inl s ↦ absurd (h k s)
    | inr e ↦ let n = ap (λ (x : Key). x.seq) e in omega (arith, n)
  ],
)
oldest_joins S T key (Some n) to here each h = (
  elim (cases_lt n key.seq) [
    | inl l ↦ (h.0.0, to h.0.0 h.0.1, let e = h.0.2 in omega (arith, e, l))
    | inr g ↦ (key, here, omega (arith, g))
  ],
  λ k t. elim (each k t) [
    | inl s ↦ let l = h.1 k s in omega (arith, l)
    | inr e ↦ let m = ap (λ (x : Key). x.seq) e in omega (arith, m)
  ],
)

-- of fewer, among which the oldest still is
oldest_stays : (S T : Key → Type 0) (seq : Option ℕ) → ((k : Key) → T k → S k) → ((n : ℕ) → seq ≡ Some n → (k : Key) → S k → k.seq ≡ n → T k) → IsOldestSeq S seq → IsOldestSeq T seq
oldest_stays S T None less kept h = λ k t. h k (less k t)
oldest_stays S T (Some n) less kept h = ((h.0.0, kept n refl h.0.0 h.0.1 h.0.2, h.0.2), λ k t. h.1 k (less k t))

-- the first key that passes a test, where the seqs rise
pub oldest_first : (Passes : Key → Type 0) (keys : List Key) (place seq : Option ℕ) → SeqsRise keys → IsFirstIn Passes keys place → ((place ≡ None) → seq ≡ None) → ((i : ℕ) (k : Key) → place ≡ Some i → slice_get keys i ≡ Some k → seq ≡ Some k.seq) → IsOldestSeq (λ k. Contains keys k × Passes k) seq
oldest_first Passes keys None seq rise is none some = rw (none refl) (λ k h. is h.0.0 k h.0.1 (subst Passes (sym h.0.2) h.1))
oldest_first Passes keys (Some i) seq rise (key, at, passes, before) none some =
    rw (some i key refl at) (
      (key, ((i, slice_get_within keys i key at, get_or_from_slice_get keys i key key at), passes), refl),
      λ k h.
          let there : slice_get keys h.0.0 ≡ Some k = slice_get-get_or keys h.0.0 k h.0.1 ∙ ap Some h.0.2 in
          elim (cases_order h.0.0 i) [
            | inl same ↦ let e : k ≡ key = sym (h.0.2) ∙ (ap (λ (n : ℕ). get_or keys n k) same ∙ get_or_from_slice_get keys i key k at) in omega (arith, ap (λ (x : Key). x.seq) e)
            | inr (inl less) ↦ absurd (before h.0.0 k less there h.1)
            | inr (inr more) ↦ omega (arith, rise i h.0.0 key k more at there)
          ],
    )

-- a note of one more

pub joins_oldest : (old new : List Key) (key : Key) (seq : Option ℕ) → IsFree key → Joins key old new → IsOldestSeq (IsOfBank old key.bank) seq → IsOldestSeq (IsOfBank new key.bank) (Some (older seq key.seq))
joins_oldest old new key seq free joins = oldest_joins (IsOfBank old key.bank) (IsOfBank new key.bank) key seq
    (λ k h. ((joins k h.1).1 (inl h.0), h.1, h.2)) ((joins key free).1 (inr refl), free, refl)
    (λ k h. elim ((joins k h.1).0 h.0) [ inl was ↦ inl (was, h.1, h.2) | inr e ↦ inr e ])

pub joins_hit : (old new : List Key) (key : Key) (row seq : Option ℕ) (kind : Kind) → IsFree key → Joins key old new → row ≡ Some key.row → key.kind ≡ kind → IsOldestSeq (IsHit old key.bank row kind) seq → IsOldestSeq (IsHit new key.bank row kind) (Some (older seq key.seq))
joins_hit old new key row seq kind free joins hits is = oldest_joins (IsHit old key.bank row kind) (IsHit new key.bank row kind) key seq
    (λ k h. (((joins k h.0.1).1 (inl h.0.0), h.0.1, h.0.2), h.1, h.2)) (((joins key free).1 (inr refl), free, refl), hits, is)
    (λ k h. elim ((joins k h.0.1).0 h.0.0) [ inl was ↦ inl ((was, h.0.1, h.0.2), h.1, h.2) | inr e ↦ inr e ])

pub joins_miss : (old new : List Key) (key : Key) (row seq : Option ℕ) (kind : Kind) → Joins key old new → ¬ ((row ≡ Some key.row) × (key.kind ≡ kind)) → IsOldestSeq (IsHit old key.bank row kind) seq → IsOldestSeq (IsHit new key.bank row kind) seq
joins_miss old new key row seq kind joins misses = oldest_same (IsHit old key.bank row kind) (IsHit new key.bank row kind) seq
    (λ k h. (((joins k h.0.1).1 (inl h.0.0), h.0.1, h.0.2), h.1, h.2))
    (λ k h. elim ((joins k h.0.1).0 h.0.0) [
      | inl was ↦ ((was, h.0.1, h.0.2), h.1, h.2)
      | inr e ↦ absurd (misses (h.1 ∙ ap (λ (x : Key). Some x.row) e, sym (ap (λ (x : Key). x.kind) e) ∙ h.2))
    ])

-- a note of one less

was_of_bank : (old new later : List Key) (key k : Key) (bank : ℕ) → IsGone old new later key → IsOfBank new bank k → IsOfBank old bank k
was_of_bank old new later key k bank gone h = (gone.less k h.0, h.1, h.2)

still_of_bank : (old new later : List Key) (key k : Key) (bank : ℕ) → IsGone old new later key → k.seq ≢ key.seq → IsOfBank old bank k → IsOfBank new bank k
still_of_bank old new later key k bank gone other h = elim (gone.others k h.0) [
  | inl e ↦ absurd (other (ap (λ (x : Key). x.seq) e))
  | inr there ↦ (there, h.1, h.2)
]

pub gone_oldest : (old new later : List Key) (key : Key) (bank : ℕ) (seq : Option ℕ) → IsGone old new later key → seq ≢ Some key.seq → IsOldestSeq (IsOfBank old bank) seq → IsOldestSeq (IsOfBank new bank) seq
gone_oldest old new later key bank seq gone other = oldest_stays (IsOfBank old bank) (IsOfBank new bank) seq (λ k h. was_of_bank old new later key k bank gone h)
    (λ n is k h same. still_of_bank old new later key k bank gone (λ e. other (is ∙ ap Some (sym same ∙ e))) h)

pub gone_hit : (old new later : List Key) (key : Key) (bank : ℕ) (row : Option ℕ) (kind : Kind) (seq : Option ℕ) → IsGone old new later key → seq ≢ Some key.seq → IsOldestSeq (IsHit old bank row kind) seq → IsOldestSeq (IsHit new bank row kind) seq
gone_hit old new later key bank row kind seq gone other = oldest_stays (IsHit old bank row kind) (IsHit new bank row kind) seq (λ k h. (was_of_bank old new later key k bank gone h.0, h.1, h.2))
    (λ n is k h same. (still_of_bank old new later key k bank gone (λ e. other (is ∙ ap Some (sym same ∙ e))) h.0, h.1, h.2))

-- what stands behind the one that went is younger, and what stands before it was none of those meant
behind_it : (S T : Key → Type 0) (old new later : List Key) (key : Key) (seq : Option ℕ) → IsGone old new later key → ((k : Key) → S k → Contains later k → T k) → ((k : Key) → T k → S k × Contains later k) → ((k : Key) → S k → Contains new k) → ((k : Key) → S k → key.seq ≤ k.seq) → IsOldestSeq T seq → IsOldestSeq S seq
behind_it S T old new later key seq gone to from there least = oldest_same T S seq (λ k t. (from k t).0) (λ k s. elim (gone.behind k (there k s)) [
  | inl l ↦ to k s l
  | inr less ↦ absurd (let m = least k s in omega (arith, less, m))
])

pub next_oldest : (old new later : List Key) (key : Key) (bank : ℕ) (seq : Option ℕ) → IsGone old new later key → IsOldestSeq (IsOfBank old bank) (Some key.seq) → IsOldestSeq (IsOfBank later bank) seq → IsOldestSeq (IsOfBank new bank) seq
next_oldest old new later key bank seq gone first = behind_it (IsOfBank new bank) (IsOfBank later bank) old new later key seq gone (λ k s l. (l, s.1, s.2)) (λ k t. ((gone.stay k t.0, t.1, t.2), t.0)) (λ k s. s.0)
    (λ k s. first.1 k (was_of_bank old new later key k bank gone s))

pub next_hit : (old new later : List Key) (key : Key) (bank : ℕ) (row : Option ℕ) (kind : Kind) (seq : Option ℕ) → IsGone old new later key → IsOldestSeq (IsHit old bank row kind) (Some key.seq) → IsOldestSeq (IsHit later bank row kind) seq → IsOldestSeq (IsHit new bank row kind) seq
next_hit old new later key bank row kind seq gone first = behind_it (IsHit new bank row kind) (IsHit later bank row kind) old new later key seq gone (λ k s l. ((l, s.0.1, s.0.2), s.1, s.2)) (λ k t. (((gone.stay k t.0.0, t.0.1, t.0.2), t.1, t.2), t.0.0)) (λ k s. s.0.0)
    (λ k s. first.1 k (was_of_bank old new later key k bank gone s.0, s.1, s.2))

-- the oldest of those that hit a row, which went, is of the kind and the row
pub gone_is : (old new later : List Key) (key : Key) (bank : ℕ) (row : Option ℕ) (kind : Kind) → IsGone old new later key → IsOldestSeq (IsHit old bank row kind) (Some key.seq) → (row ≡ Some key.row) × (key.kind ≡ kind)
gone_is old new later key bank row kind gone first = elim (gone.others first.0.0 first.0.1.0.0) [
  | inl e ↦ (first.0.1.1 ∙ ap (λ (x : Key). Some x.row) e, sym (ap (λ (x : Key). x.kind) e) ∙ first.0.1.2)
  | inr there ↦ absurd (gone.alone first.0.0 there first.0.2)
]

-- a note of the same ones
pub note_same : (old new : List Key) (bank : ℕ) (note : Note) → ((k : Key) → IsFree k → k.bank ≡ bank → (Contains new k ↔ Contains old k)) → IsNoteOf old bank note → IsNoteOf new bank note
note_same old new bank note same is = record {
  read = oldest_same (IsHit old bank note.row Read) (IsHit new bank note.row Read) note.read (λ k h. (to k h.0, h.1, h.2)) (λ k h. (from k h.0, h.1, h.2)) is.read;
  write = oldest_same (IsHit old bank note.row Write) (IsHit new bank note.row Write) note.write (λ k h. (to k h.0, h.1, h.2)) (λ k h. (from k h.0, h.1, h.2)) is.write;
  oldest = oldest_same (IsOfBank old bank) (IsOfBank new bank) note.oldest to from is.oldest;
}
  where
    to : (k : Key) → IsOfBank old bank k → IsOfBank new bank k
    to k h = ((same k h.1 h.2).1 h.0, h.1, h.2)

    from : (k : Key) → IsOfBank new bank k → IsOfBank old bank k
    from k h = ((same k h.1 h.2).0 h.0, h.1, h.2)

-- of no key
pub note_none : (bank : ℕ) (row : Option ℕ) → IsNoteOf [] bank (record { row = row; read = None; write = None; oldest = None })
note_none bank row = record {
  read = λ k h. omega (arith, h.0.0.1);
  write = λ k h. omega (arith, h.0.0.1);
  oldest = λ k h. omega (arith, h.0.1);
}

-- the notes of all banks, where one is noted anew
pub notes_put : (old new : List Key) (notes : Notes) (bank : ℕ) (note : Note) (wanted : BankSet) → AreNotes old notes → bank < length notes.banks → ((k : Key) → IsFree k → k.bank ≢ bank → (Contains new k ↔ Contains old k)) → IsNoteOf new bank note
    → ((b : ℕ) → b < 64 → b ≢ bank → (Has wanted b ↔ Has notes.wanted b)) → (Has wanted bank ↔ (note.oldest ≢ None)) → AreNotes new (record { banks = set notes.banks bank note; wanted = wanted })
notes_put old new notes bank note wanted are within same is others own = record {
  each = λ b small. elim (cases_eq b bank) [
    | inl e ↦ rw (e, get_or-set_same notes.banks bank note nobody within) is
    | inr differs ↦ rw (get_or-set_other notes.banks bank b note nobody differs) (note_same old new b (note_of notes b) (λ k free at. same k free (λ e. differs (sym at ∙ e))) (are.each b small))
  ];
  wanted = λ b small. elim (cases_eq b bank) [
    | inl e ↦ rw (e, get_or-set_same notes.banks bank note nobody within) own
    | inr differs ↦ rw (get_or-set_other notes.banks bank b note nobody differs) (λ h. (are.wanted b small).0 ((others b small differs).0 h), λ some. (others b small differs).1 ((are.wanted b small).1 some))
  ];
}
  where
    nobody : Note
    nobody = record { row = None; read = None; write = None; oldest = None }

-- one that isn't eligible comes
pub notes_same : (old new : List Key) (notes : Notes) → ((k : Key) → IsFree k → (Contains new k ↔ Contains old k)) → AreNotes old notes → AreNotes new notes
notes_same old new notes same are = record {
  each = λ b small. note_same old new b (note_of notes b) (λ k free at. same k free) (are.each b small);
  wanted = are.wanted;
}

-- lists that grow and shrink

pub joins_push : (keys : List Key) (key : Key) → Joins key keys (keys ++ key ∷ [])
joins_push keys key k free = (
  λ h. elim (Contains-push_cases keys key k h) [ inl was ↦ inl was | inr e ↦ inr (sym e) ],
  λ h. elim h [ inl was ↦ Contains-append_left keys (key ∷ []) k was | inr e ↦ rw e (Contains-push keys key) ],
)

pub joins_more : (keys : List Key) (i : ℕ) (key : Key) → i < length keys → key ≡ get_or keys i key → Joins key (take i keys) (take (i + 1) keys)
joins_more keys i key within is = subst (λ (xs : List Key). Joins key (take i keys) xs) (ap (λ (k : Key). take i keys ++ k ∷ []) is ∙ sym (take_more keys i key within)) (joins_push (take i keys) key)

pub joins_marked : (old new : List Key) (key : Key) → IsMarked old (Some key) new → Joins key old new
joins_marked old new key (i, was, at, marked, is) k free = rw is (
  λ h. elim (cases_eq h.0 i) [
    | inl e ↦ inr (sym h.2 ∙ (ap (λ (n : ℕ). get_or (set old i key) n k) e ∙ get_or-set_same old i key k within))
    | inr differs ↦ inl (h.0, let n = h.1 in omega (arith, n, length-set old i key), sym (get_or-set_other old i h.0 key k differs) ∙ h.2)
  ],
  λ h. elim h [
    | inl there ↦ elim (cases_eq there.0 i) [
      | inl e ↦
          let own : k ≡ was = sym there.2 ∙ (ap (λ (n : ℕ). get_or old n k) e ∙ get_or_from_slice_get old i was k at) in
          let first : was.first ≡ true = ap (λ (x : Key). x.first) (sym own) ∙ free.0 in
          let same : key ≡ k = marked ∙ (ap (λ (b : Bool). record was { first = b }) (sym first) ∙ sym own) in
          rw (← same) here
      | inr differs ↦ (there.0, let n = there.1 in omega (arith, n, length-set old i key), get_or-set_other old i there.0 key k differs ∙ there.2)
    ]
    | inr e ↦ rw e here
  ],
)
  where
    within : i < length old
    within = slice_get_within old i was at

    here : Contains (set old i key) key
    here = (i, omega (arith, within, length-set old i key), get_or-set_same old i key key within)

-- one goes
pub gone_at : (keys : List Key) (i : ℕ) (key : Key) → SeqsRise keys → slice_get keys i ≡ Some key → IsGone keys (remove keys i) (drop i (remove keys i)) key
gone_at keys i key rise at = record {
  here = (i, within, own);
  less = less;
  others = λ k h. elim (cases_order h.0 i) [
    | inl e ↦ inl (sym h.2 ∙ (ap (λ (n : ℕ). get_or keys n k) e ∙ get_or_from_slice_get keys i key k at))
    | inr (inl below) ↦ inr (h.0, omega (arith, below, within, shorter), get_or-remove_below keys i k h.0 below within ∙ h.2)
    | inr (inr above) ↦ let n = h.1 in inr (h.0 - 1, omega (arith, above, n, shorter), get_or-remove_above keys i k (h.0 - 1) (omega (arith, above)) within ∙ (ap (λ (m : ℕ). get_or keys m k) (omega (arith, above)) ∙ h.2))
  ];
  stay = λ k h. let n = h.1 in (i + h.0, omega (arith, n, length-drop i rest), sym (get_or-drop i rest h.0 k) ∙ h.2);
  behind = λ k h. elim (cases_lt h.0 i) [
    | inl below ↦ inr (rise h.0 i k key below (slice_get-get_or keys h.0 k (omega (arith, below, within)) ∙ ap Some (sym (get_or-remove_below keys i k h.0 below within) ∙ h.2)) at)
    | inr above ↦
        let n = h.1 in
        inl (h.0 - i, omega (arith, above, n, length-drop i rest), get_or-drop i rest (h.0 - i) k ∙ (ap (λ (m : ℕ). get_or rest m k) (omega (arith, above)) ∙ h.2))
  ];
  alone = λ k h same. let there = less k h in elim (cases_order there.0 i) [
    | inl e ↦ absurd (elsewhere k h e)
    | inr (inl below) ↦ let r = rise there.0 i k key below (slice_get-get_or keys there.0 k there.1 ∙ ap Some there.2) at in omega (arith, r, same)
    | inr (inr above) ↦ let r = rise i there.0 key k above at (slice_get-get_or keys there.0 k there.1 ∙ ap Some there.2) in omega (arith, r, same)
  ];
}
  where
    rest : List Key
    rest = remove keys i

    within : i < length keys
    within = slice_get_within keys i key at

    own : get_or keys i key ≡ key
    own = get_or_from_slice_get keys i key key at

    shorter : length rest + 1 ≡ length keys
    shorter = length-remove keys i within

    less : (k : Key) → Contains rest k → Contains keys k
    less k h = (stood i h.0, let n = h.1 in grind (arith, n, shorter), sym (get_or-stood keys i h.0 k within) ∙ h.2)

    elsewhere : (k : Key) (h : Contains rest k) → (less k h).0 ≡ i → ⊥
    elsewhere k h e = grind arith

-- what is noted of other banks
pub elsewhere_same : (old new : List Key) (key : Key) → Joins key old new → (k : Key) → IsFree k → k.bank ≢ key.bank → (Contains new k ↔ Contains old k)
elsewhere_same old new key joins k free differs = (
  λ h. elim ((joins k free).0 h) [ inl was ↦ was | inr e ↦ absurd (differs (ap (λ (x : Key). x.bank) e)) ],
  λ was. (joins k free).1 (inl was),
)

pub never_free : (old new : List Key) (key : Key) → Joins key old new → ¬ IsFree key → (k : Key) → IsFree k → (Contains new k ↔ Contains old k)
never_free old new key joins never k free = (
  λ h. elim ((joins k free).0 h) [ inl was ↦ was | inr e ↦ absurd (never (subst IsFree e free)) ],
  λ was. (joins k free).1 (inl was),
)

pub gone_elsewhere : (old new later : List Key) (key : Key) → IsGone old new later key → (k : Key) → IsFree k → k.bank ≢ key.bank → (Contains new k ↔ Contains old k)
gone_elsewhere old new later key gone k free differs = (
  λ h. gone.less k h,
  λ was. elim (gone.others k was) [ inl e ↦ absurd (differs (ap (λ (x : Key). x.bank) e)) | inr there ↦ there ],
)

-- where one is left there was one
pub gone_some : (old new later : List Key) (key : Key) (bank : ℕ) (before after : Option ℕ) → IsGone old new later key → IsOldestSeq (IsOfBank old bank) before → IsOldestSeq (IsOfBank new bank) after → after ≢ None → before ≢ None
gone_some old new later key bank before None gone was is some e = some refl
gone_some old new later key bank before (Some seq) gone was is some e =
    let none = subst (λ (s : Option ℕ). IsOldestSeq (IsOfBank old bank) s) e was in
    none is.0.0 (was_of_bank old new later key is.0.0 bank gone is.0.1)

-- the seqs behind the place of one that went rise
pub gone_rise : (keys : List Key) (i : ℕ) (key : Key) → SeqsRise keys → slice_get keys i ≡ Some key → SeqsRise (drop i (remove keys i))
gone_rise keys i key rise here a b k m less at there =
    let rest = remove keys i in
    let near : a < length (drop i rest) = slice_get_within (drop i rest) a k at in
    let far : b < length (drop i rest) = slice_get_within (drop i rest) b m there in
    rise (stood i (i + a)) (stood i (i + b)) k m (grind (arith, less)) (place a k near at) (place b m far there)
  where
    place : (j : ℕ) (x : Key) → j < length (drop i (remove keys i)) → slice_get (drop i (remove keys i)) j ≡ Some x → slice_get keys (stood i (i + j)) ≡ Some x
    place j x near at =
        let rest = remove keys i in
        let size = length-drop i rest in
        let within = slice_get_within keys i key here in
        let shorter = length-remove keys i within in
        let read : get_or keys (stood i (i + j)) x ≡ x = sym (get_or-stood keys i (i + j) x within) ∙ (sym (get_or-drop i rest j x) ∙ get_or_from_slice_get (drop i rest) j x x at) in
        slice_get-get_or keys (stood i (i + j)) x (grind (arith, near, size, shorter)) ∙ ap Some read

-- notes of no key

-- of a closed bank
abbrev pub nobody : Note
nobody = record { row = None; read = None; write = None; oldest = None }

pub notes_none : (banks : List Note) (wanted : BankSet) → ((b : ℕ) → b < 64 → IsNoteOf [] b (get_or banks b nobody) × ((get_or banks b nobody).oldest ≡ None)) → ((b : ℕ) → ¬ Has wanted b) →
    AreNotes [] (record { banks = banks; wanted = wanted })
notes_none banks wanted none empty = record {
  each = λ b small. (none b small).0;
  wanted = λ b small. (λ h. absurd (empty b h), λ some. absurd (some (none b small).1));
}

pub notes_repeated : (note : Note) → note ≡ nobody → (b : ℕ) → b < 64 → IsNoteOf [] b (get_or (replicate 64 note) b nobody) × ((get_or (replicate 64 note) b nobody).oldest ≡ None)
notes_repeated note is b within = rw (get_or-replicate 64 b note nobody within, is) (note_none b None, refl)

-- a loop that clears each
abbrev pub AreClearedUpto : List Note → ℕ → Type 0
AreClearedUpto banks end = (b : ℕ) → b < end → IsNoteOf [] b (get_or banks b nobody) × ((get_or banks b nobody).oldest ≡ None)

pub cleared_more : (banks : List Note) (i : ℕ) (note : Note) (row : Option ℕ) → i < length banks → note ≡ record { row = row; read = None; write = None; oldest = None } → AreClearedUpto banks i → AreClearedUpto (set banks i note) (i + 1)
cleared_more banks i note row within is before b less = elim (cases_eq b i) [
  | inl e ↦ rw (e, get_or-set_same banks i note nobody within, is) (note_none i row, refl)
  | inr differs ↦ rw (get_or-set_other banks i b note nobody differs) (before b (grind (arith, less, differs)))
]
