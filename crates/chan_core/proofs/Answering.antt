-- What stays right of a channel's contents when a read is answered or collected.
use Rattle.std.proofs.Common.{◌≡◌, ℕ, suc, ◌<◌, inl, inr, List, [], ◌∷◌, ◌++◌, length, get_or, remove, slice_get, slice_set, Option, Some, None, refl, sym, ap, ◌∙◌, arith, length-set, filter_map}
use Rattle.std.proofs.lemmas.Bool.{cases_order, cases_eq}
use Rattle.std.proofs.lemmas.List.{get_or_read, map-set}
use Rattle.std.proofs.lemmas.List.Edits.{length-remove}
use Rattle.std.proofs.lemmas.Option.{slice_get_within}
use Rattle.circular_buffer.proofs.Places.{slice_get-set_same, slice_get-set_other}
use Rattle.chan_core.proofs.Common.{AnswersRead, AnswersSeq, AreContents, Contents, Kind, OpenRead, Pending, Read, ReadKey, ReadsRise, Stamped, Waiting, answered_with, read_key, read_of, seen, ticket_of, waiting_key, waits_for, write_key, write_of}
use Rattle.frfcfs.proofs.Lists.{one_at}
use Rattle.chan_core.proofs.Kept.{kept, kept-alike, filter_map-without, filter_map-taken, filter_map-changed, map-at}
use Rattle.chan_core.proofs.Taken.{before_removal, pairs-remove}
use Rattle.chan_core.proofs.Serving.{take-holds}

-- two open reads of one seq are one
pub one-seq : (serial seq : ℕ) (reads : List OpenRead) → ReadsRise serial seq reads → (i j : ℕ) (r t : OpenRead) → slice_get reads i ≡ Some r → slice_get reads j ≡ Some t → r.seq ≡ t.seq → i ≡ j
one-seq serial seq reads is i j r t at at' same = elim (cases_order i j) [
  | inl e ↦ e
  | inr (inl less) ↦ absurd (omega (arith, is.seqs i j r t less at at', same))
  | inr (inr more) ↦ absurd (omega (arith, is.seqs j i t r more at' at, same))
]

-- what the request of a read is known by
abbrev pub key_of : Pending → ReadKey
key_of p = record { seq = p.seq; cell = p.line; at = p.number }

-- the open read of a request that waits
pub record OpenReadOf (s : Contents) (i : ℕ) (p : Pending) : Type 0 where
  pub index : ℕ
  pub read : OpenRead
  pub at : slice_get s.reads index ≡ Some read
  pub seq : read.seq ≡ p.seq
  pub cell : read.cell ≡ p.line
  pub came : read.at ≡ p.number
  pub waits : read.bytes ≡ None
  pub before : kept waiting_key index s.reads ≡ kept read_key i s.waiting.requests
  pub key : read_key p ≡ Some (key_of p)

waits-of : (answer : Option (List ℕ)) (k l : ReadKey) → waits_for answer k ≡ Some l → (answer ≡ None) × (k ≡ l)
waits-of None k l e = (refl, cc)
waits-of (Some bytes) k l e = absurd cc

pub opened : (s : Contents) → AreContents s → (i : ℕ) (p : Pending) → slice_get s.waiting.requests i ≡ Some p → p.kind ≡ Read → OpenReadOf s i p
opened s is i p at kind =
    let key : read_key p ≡ Some (key_of p) = ap (λ (k : Kind). read_of k (key_of p)) kind in
    let o = kept-alike read_key waiting_key s.waiting.requests s.reads is.unanswered i p (key_of p) at key in
    let r = o.element in
    let (waits, same) = waits-of r.bytes (record { seq = r.seq; cell = r.cell; at = r.at }) (key_of p) o.gives in
    record { index = o.place; read = r; at = o.at; seq = ap (λ (x : ReadKey). x.seq) same; cell = ap (λ (x : ReadKey). x.cell) same; came = ap (λ (x : ReadKey). x.at) same; waits = waits; before = o.before; key = key }

-- where an answer goes, and whose it is
answer-at : (s : Contents) → AreContents s → (i : ℕ) (p : Pending) → (o : OpenReadOf s i p) → (bytes : List ℕ) (serial : ℕ) (new : List OpenRead) → AnswersSeq p.seq bytes serial s.reads new
    → (new ≡ slice_set s.reads o.index (answered_with bytes o.read)) × (o.read.serial ≡ serial)
answer-at s is i p o bytes serial new (k, r, at, seq, named, new-is) =
    let index : k ≡ o.index = one-seq s.serial s.waiting.next s.reads is.reads k o.index r o.read at o.at (seq ∙ sym o.seq) in
    let same : r ≡ o.read = one_at s.reads k o.index r o.read at o.at index in
    (rw (← index, ← same) new-is, rw (← same) named)

-- an answer keeps the order
reads-set : (serial seq : ℕ) (reads : List OpenRead) (k : ℕ) (old : OpenRead) (bytes : List ℕ) → slice_get reads k ≡ Some old → ReadsRise serial seq reads → ReadsRise serial seq (slice_set reads k (answered_with bytes old))
reads-set serial seq reads k old bytes at is = record {
  serials = λ i j r t less here here'. let a = was i r here in let b = was j t here' in omega (arith, is.serials i j a.0 b.0 less a.1 b.1, a.2, b.2);
  seqs = λ i j r t less here here'. let a = was i r here in let b = was j t here' in omega (arith, is.seqs i j a.0 b.0 less a.1 b.1, a.3, b.3);
  below = λ i r here. let a = was i r here in let b = is.below i a.0 a.1 in (omega (arith, a.2, b.0), omega (arith, a.3, b.1));
}
  where
    new : OpenRead
    new = answered_with bytes old

    was : (i : ℕ) (r : OpenRead) → slice_get (slice_set reads k new) i ≡ Some r → (t : OpenRead) × (slice_get reads i ≡ Some t) × (r.serial ≡ t.serial) × (r.seq ≡ t.seq)
    was i r here = elim (cases_eq i k) [
      | inl e ↦
          let same = one_at (slice_set reads k new) i k r new here (slice_get-set_same reads k new (slice_get_within reads k old at)) e in (old, ap (slice_get reads) e ∙ at, ap (λ (x : OpenRead). x.serial) same, ap (λ (x : OpenRead). x.seq) same)
      | inr other ↦ (r, sym (slice_get-set_other reads k i new other) ∙ here, refl, refl)
    ]

pub read-holds : (s : Contents) (waiting : Waiting) (reads : List OpenRead) (x : Stamped) (i : ℕ) (p : Pending) (bytes : List ℕ) (serial : ℕ) → AreContents s → slice_get s.waiting.requests i ≡ Some p → p.kind ≡ Read
    → waiting ≡ record s.waiting { requests = remove s.waiting.requests i } → AnswersSeq p.seq bytes serial s.reads reads
    → AreContents (record s { waiting = waiting; reads = reads; commands = s.commands ++ x ∷ [] })
read-holds s waiting reads x i p bytes serial is at kind waiting-is answers =
    let o = opened s is i p at kind in
    let new = (answer-at s is i p o bytes serial reads answers).0 in
    let none : write_key p ≡ None = ap (λ (k : Kind). write_of k p.number p.line) kind in
    let key : ReadKey = record { seq = o.read.seq; cell = o.read.cell; at = o.read.at } in
    let read = answered_with bytes o.read in
    rw new (take-holds s s.array s.queue waiting (slice_set s.reads o.index read) x i is (slice_get_within s.waiting.requests i p at) waiting-is is.array is.queue refl
    (filter_map-without write_key s.waiting.requests i p at none ∙ is.writes)
    (filter_map-taken read_key s.waiting.requests i p (key_of p) at o.key ∙ ap (λ ks. remove ks (kept read_key i s.waiting.requests)) is.unanswered ∙ ap (remove (filter_map waiting_key s.reads)) (sym o.before)
    ∙ sym (filter_map-changed waiting_key s.reads o.index o.read read key o.at (ap (λ (b : Option (List ℕ)). waits_for b key) o.waits) refl))
    (reads-set s.serial s.waiting.next s.reads o.index o.read bytes o.at is.reads) (length-set s.reads o.index read))

pub collect-holds : (s : Contents) (reads : List OpenRead) (k : ℕ) (r : OpenRead) (bytes : List ℕ) → AreContents s → slice_get s.reads k ≡ Some r → r.bytes ≡ Some bytes → reads ≡ remove s.reads k → AreContents (record s { reads = reads })
collect-holds s reads k r bytes is at answered reads-is =
    let within = slice_get_within s.reads k r at in
    let none : waiting_key r ≡ None = ap (λ (b : Option (List ℕ)). waits_for b (record { seq = r.seq; cell = r.cell; at = r.at })) answered in
    rw reads-is (record {
      array = is.array;
      queue = is.queue;
      room = is.room;
      right = is.right;
      writes = is.writes;
      unanswered = is.unanswered ∙ sym (filter_map-without waiting_key s.reads k r at none);
      reads = record {
        serials = pairs-remove (λ a b. a.serial < b.serial) s.reads k within is.reads.serials;
        seqs = pairs-remove (λ a b. a.seq < b.seq) s.reads k within is.reads.seqs;
        below = λ i t there. elim (before_removal s.reads k i t within there) [ inl a ↦ is.reads.below i t a.1 | inr a ↦ is.reads.below (suc i) t a.1 ];
      };
      few_reads = omega (arith, is.few_reads, length-remove s.reads k within);
      most = is.most;
      clear = is.clear;
      few_seqs = is.few_seqs;
      few_serials = is.few_serials;
    })

-- The read has the bytes that it was to have, and the others stay.
pub read-answers : (s : Contents) (waiting : Waiting) (reads : List OpenRead) (x : Stamped) (i : ℕ) (p : Pending) (serial : ℕ) → AreContents s → slice_get s.waiting.requests i ≡ Some p → p.kind ≡ Read
    → AnswersSeq p.seq (get_or s.array p.line []) serial s.reads reads
    → AnswersRead (seen s) p (record { channel = s.channel; serial = serial }) (seen (record s { waiting = waiting; reads = reads; commands = s.commands ++ x ∷ [] }))
read-answers s waiting reads x i p serial is at kind answers =
    let o = opened s is i p at kind in
    let bytes = get_or s.array p.line [] in
    let (new, whose) = answer-at s is i p o bytes serial reads answers in
    record {
      kind = kind;
      array = refl;
      writes = refl;
      index = o.index;
      read = ticket_of s.array o.read;
      here = map-at (ticket_of s.array) s.reads o.index o.read o.at;
      named = rw (o.waits, whose);
      at = rw o.waits o.came;
      waits = rw o.waits refl;
      bytes = rw (o.waits, o.cell);
      tickets = rw (new, map-set, o.waits, o.cell);
    }

-- what a read of an index gives, whatever stands behind the list
pub read-at : (xs : List (List ℕ)) (i : ℕ) (x d : List ℕ) → i < length xs → x ≡ get_or xs i x → x ≡ get_or xs i d
read-at xs i x d within is = get_or_read xs i x within is d
