-- What stays right of a channel's contents when a write is served.
use Rattle.std.proofs.Common.{◌≡◌, ◌≢◌, ℕ, suc, ◌<◌, inl, inr, true, nat_lt, filter, List, [], ◌∷◌, ◌++◌, map, length, take, drop, remove, slice_get, slice_set, Option, Some, None, refl, sym, ap, subst, ◌∙◌, arith, length-set, get_or-set_other, filter_map}
use Rattle.std.proofs.lemmas.Bool.{cases_lt, cases_order, lt-ltb, ltb-true, not-false}
use Rattle.std.proofs.lemmas.List.{length_push}
use Rattle.std.proofs.lemmas.List.Edits.{length-remove}
use Rattle.std.proofs.lemmas.List.Elements.{All-append, All-drop, All-set, All-take}
use Rattle.std.proofs.lemmas.Option.{none-some, slice_get_within, some_pair_parts}
use Rattle.chan_core.proofs.Common.{AreContents, AreInOrder, Contents, IsEligible, IsFirstOfItsLine, IsMemory, IsRightRequest, IsWriteQueue, Kind, OpenRead, OpenTicket, Pending, PendingWrite, Queue, Read, ReadKey, ReadsRise, Stamped, TakesWrite, Waiting, Write, after_pending, cells_of, queued_key, read_key, read_of, ticket_of, ticket_with, waiting_key, waits_for, write_key, write_of}
use Rattle.frfcfs.proofs.ChoiceLaws.{eligible_is_first}
use Rattle.frfcfs.proofs.Lists.{All-at, one_at}
use Rattle.wpq_core.proofs.Numbers.{NumbersRise-one}
use Rattle.wpq_core.proofs.PendingLaws.{after_pending-early, below-early}
use Rattle.chan_core.proofs.Kept.{Origin, kept, kept-alike, kept-more, filter_map-without, filter_map-taken, filter_map-at, filter_map-origin, map_alike, map-at, map-from}
use Rattle.chan_core.proofs.Taken.{map-remove, pairs-remove}
use Rattle.interleave_map.proofs.Numbering.{cell_within}

-- the lines after all accepted writes
abbrev pub memory_of : Contents → List (List ℕ)
memory_of s = after_pending s.array s.queue.writes

abbrev pub tickets_of : Contents → List OpenTicket
tickets_of s = map (ticket_of s.array) s.reads

-- where the write of a request stands in the queue
pub record InQueue (s : Contents) (i : ℕ) (p : Pending) : Type 0 where
  pub index : ℕ
  pub write : PendingWrite
  pub at : slice_get s.queue.writes index ≡ Some write
  pub number : write.number ≡ p.number
  pub cell : write.write.line ≡ p.line
  pub before : kept write_key i s.waiting.requests ≡ index
  pub key : write_key p ≡ Some (p.number, p.line)

pub in-queue : (s : Contents) → AreContents s → (i : ℕ) (p : Pending) → slice_get s.waiting.requests i ≡ Some p → p.kind ≡ Write → InQueue s i p
in-queue s is i p at kind =
    let key : write_key p ≡ Some (p.number, p.line) = ap (λ (k : Kind). write_of k p.number p.line) kind in
    let k = kept write_key i s.waiting.requests in
    let (w, stands, same) = map-from queued_key s.queue.writes k (p.number, p.line) (subst (λ ks. slice_get ks k ≡ Some (p.number, p.line)) is.writes (filter_map-at write_key s.waiting.requests i p (p.number, p.line) at key)) in
    record { index = k; write = w; at = stands; number = ap (λ (x : ℕ × ℕ). x.0) same; cell = ap (λ (x : ℕ × ℕ). x.1) same; before = refl; key = key }

-- the write that the queue gives is that of the request
given : (s : Contents) → AreContents s → (i : ℕ) (p : Pending) → InQueue s i p → (j : ℕ) (w : PendingWrite) → slice_get s.queue.writes j ≡ Some w → w.number ≡ p.number → (kept write_key i s.waiting.requests ≡ j) × (w.write.line ≡ p.line)
given s is i p q j w at number =
    let same = NumbersRise-one s.queue.writes j q.index w q.write is.queue.rise at q.at (number ∙ sym q.number) in
    (q.before ∙ sym same, ap (λ (x : PendingWrite). x.write.line) (one_at s.queue.writes j q.index w q.write at q.at same) ∙ q.cell)

-- no later read is of the cell of a write
abbrev pub KeepApart : Pending → Pending → Type 0
KeepApart w r = w.kind ≡ Write → r.kind ≡ Read → w.line ≢ r.line

-- A request is served and goes: the contents are right where the lines, the writes and the reads are.
pub take-holds : (s : Contents) (array : List (List ℕ)) (queue : Queue) (waiting : Waiting) (reads : List OpenRead) (x : Stamped) (i : ℕ) → AreContents s → i < length s.waiting.requests → waiting ≡ record s.waiting { requests = remove s.waiting.requests i }
    → IsMemory (cells_of s.checked.geometry) array → IsWriteQueue queue → queue.depth ≡ s.queue.depth
    → filter_map write_key (remove s.waiting.requests i) ≡ map queued_key queue.writes → filter_map read_key (remove s.waiting.requests i) ≡ filter_map waiting_key reads
    → ReadsRise s.serial s.waiting.next reads → length reads ≡ length s.reads → AreContents (record s { array = array; queue = queue; waiting = waiting; reads = reads; commands = s.commands ++ x ∷ [] })
take-holds s array queue waiting reads x i is within waiting-is lines whole depth writes unanswered rise size =
    let fewer = length-remove s.waiting.requests i within in
    let more = length_push s.commands x in
    let right = IsRightRequest s.checked.geometry s.channel s.hold in
    rw waiting-is (record {
      array = lines;
      queue = whole;
      room = rw depth is.room;
      right = All-append right (take i s.waiting.requests) (drop (suc i) s.waiting.requests) (All-take right i s.waiting.requests is.right) (All-drop right (suc i) s.waiting.requests is.right);
      writes = writes;
      unanswered = unanswered;
      reads = rise;
      few_reads = omega (arith, is.few_reads, size);
      most = is.most;
      clear = pairs-remove KeepApart s.waiting.requests i within is.clear;
      few_seqs = omega (arith, is.few_seqs, fewer, more);
      few_serials = omega (arith, is.few_serials, fewer, more);
    })

pub write-holds : (s : Contents) (queue : Queue) (waiting : Waiting) (x : Stamped) (i : ℕ) (p : Pending) (bytes : List ℕ) → AreContents s → slice_get s.waiting.requests i ≡ Some p → p.kind ≡ Write → length bytes ≡ 64
    → waiting ≡ record s.waiting { requests = remove s.waiting.requests i } → IsWriteQueue queue → queue.depth ≡ s.queue.depth → TakesWrite p.number s.queue.writes (Some bytes) queue.writes
    → AreContents (record s { queue = queue; waiting = waiting; array = slice_set s.array p.line bytes; commands = s.commands ++ x ∷ [] })
write-holds s queue waiting x i p bytes is at kind size waiting-is whole depth (j, w, there, number, data-is, out) =
    let q = in-queue s is i p at kind in
    let none : read_key p ≡ None = ap (λ (k : Kind). read_of k (record { seq = p.seq; cell = p.line; at = p.number })) kind in
    take-holds s (slice_set s.array p.line bytes) queue waiting s.reads x i is (slice_get_within s.waiting.requests i p at) waiting-is
    (record { size = length-set s.array p.line bytes ∙ is.array.size; whole = All-set (λ line. length line ≡ 64) s.array p.line bytes size is.array.whole }) whole depth
    (filter_map-taken write_key s.waiting.requests i p (p.number, p.line) at q.key ∙ ap (λ ks. remove ks (kept write_key i s.waiting.requests)) is.writes
    ∙ ap (remove (map queued_key s.queue.writes)) (given s is i p q j w there number).0 ∙ sym (map-remove queued_key s.queue.writes j) ∙ sym (ap (map queued_key) out))
    (filter_map-without read_key s.waiting.requests i p at none ∙ is.unanswered) is.reads refl

-- the cell of a write's key is its request's
cell-of-key : (kind : Kind) (number cell n l : ℕ) → write_of kind number cell ≡ Some (n, l) → cell ≡ l
cell-of-key Write number cell n l e = (some_pair_parts number n cell l e).1
cell-of-key Read number cell n l e = absurd cc

-- the request of a pending write
pub request-of : (s : Contents) → AreContents s → (j : ℕ) (w : PendingWrite) → slice_get s.queue.writes j ≡ Some w → (o : Origin write_key s.waiting.requests j (queued_key w)) × (o.element.line ≡ w.write.line)
request-of s is j w at =
    let o = filter_map-origin write_key s.waiting.requests j (queued_key w) (rw is.writes (map-at queued_key s.queue.writes j w at)) in
    (o, cell-of-key o.element.kind o.element.number o.element.line w.number w.write.line o.gives)

-- an eligible write isn't held
pub write-unheld : (s : Contents) (n i : ℕ) (p : Pending) → AreContents s → IsEligible s.waiting.requests i p → p.kind ≡ Write → s.hold ≡ Some n → p.number < n
write-unheld s n i p is eligible kind hold =
    let right = All-at (IsRightRequest s.checked.geometry s.channel s.hold) s.waiting.requests i p is.right eligible.here in
    ltb-true p.number n (not-false (nat_lt p.number n) (rw (hold, kind) at (sym right.held ∙ eligible.free)))

-- it is the oldest one of its cell
pub write-first : (s : Contents) (i : ℕ) (p : Pending) → AreContents s → AreInOrder s.waiting.requests → IsEligible s.waiting.requests i p → p.kind ≡ Write
    → (j : ℕ) (w : PendingWrite) → slice_get s.queue.writes j ≡ Some w → w.number ≡ p.number → (w.write.line ≡ p.line) × IsFirstOfItsLine s.queue.writes j
write-first s i p is order eligible kind j w there number =
    let (before, cell) = given s is i p (in-queue s is i p eligible.here kind) j w there number in (
      cell,
      λ k v u less at at' same.
          let (o, line) = request-of s is k v at in
          let one : u ≡ w = one_at s.queue.writes j j u w at' there refl in
          elim (cases_lt o.place i) [
            | inl below ↦ eligible_is_first s.waiting.requests i o.place p o.element order eligible below o.at (line ∙ same ∙ ap (λ (x : PendingWrite). x.write.line) one ∙ cell)
            | inr above ↦ absurd (omega (arith, less, o.before, before, kept-more write_key s.waiting.requests i o.place above))
          ],
    )

-- The memory is the same once the write is in the array.
pub write-memory : (s : Contents) (queue : Queue) (i : ℕ) (p : Pending) (bytes : List ℕ) → AreContents s → AreInOrder s.waiting.requests → IsEligible s.waiting.requests i p → p.kind ≡ Write → TakesWrite p.number s.queue.writes (Some bytes) queue.writes
    → after_pending (slice_set s.array p.line bytes) queue.writes ≡ memory_of s
write-memory s queue i p bytes is order eligible kind (j, w, there, number, data-is, out) =
    let (cell, first) = write-first s i p is order eligible kind j w there number in
    rw (out, ← cell, ← data-is) (after_pending-early s.array s.queue.writes j w there first)

-- those below a number stay too, where the write has one of them
pub write-below : (s : Contents) (queue : Queue) (n i : ℕ) (p : Pending) (bytes : List ℕ) → AreContents s → AreInOrder s.waiting.requests → IsEligible s.waiting.requests i p → p.kind ≡ Write → p.number < n → TakesWrite p.number s.queue.writes (Some bytes) queue.writes
    → after_pending (slice_set s.array p.line bytes) (filter (λ w. nat_lt w.number n) queue.writes) ≡ after_pending s.array (filter (λ w. nat_lt w.number n) s.queue.writes)
write-below s queue n i p bytes is order eligible kind less (j, w, there, number, data-is, out) =
    let (cell, first) = write-first s i p is order eligible kind j w there number in
    let below : nat_lt w.number n ≡ true = lt-ltb w.number n (omega (arith, number, less)) in
    rw (out, ← cell, ← data-is) (below-early (λ w. nat_lt w.number n) s.array s.queue.writes j w there below first)

-- the request of a read that waits
wanted : (s : Contents) → AreContents s → (k : ℕ) (r : OpenRead) → slice_get s.reads k ≡ Some r → r.bytes ≡ None → Origin read_key s.waiting.requests (kept waiting_key k s.reads) (record { seq = r.seq; cell = r.cell; at = r.at })
wanted s is k r at waits =
    let key : ReadKey = record { seq = r.seq; cell = r.cell; at = r.at } in kept-alike waiting_key read_key s.reads s.waiting.requests (sym is.unanswered) k r key at (ap (λ (b : Option (List ℕ)). waits_for b key) waits)

read-of : (kind : Kind) (k l : ReadKey) → read_of kind k ≡ Some l → (kind ≡ Read) × (k ≡ l)
read-of Read k l e = (refl, cc)
read-of Write k l e = absurd cc

-- A read that waits is not of the cell that the write goes to.
waiting-apart : (s : Contents) → AreContents s → AreInOrder s.waiting.requests → (i : ℕ) (p : Pending) → IsEligible s.waiting.requests i p → p.kind ≡ Write → (k : ℕ) (r : OpenRead) → slice_get s.reads k ≡ Some r → r.bytes ≡ None → p.line ≢ r.cell
waiting-apart s is order i p eligible kind k r at waits same =
    let o = wanted s is k r at waits in
    let q = o.element in
    let (read, key) = read-of q.kind (record { seq = q.seq; cell = q.line; at = q.number }) (record { seq = r.seq; cell = r.cell; at = r.at }) o.gives in
    let line : p.line ≡ q.line = same ∙ sym (ap (λ (x : ReadKey). x.cell) key) in
    elim (cases_order o.place i) [
      | inl e ↦ let one : q ≡ p = one_at s.waiting.requests o.place i q p o.at eligible.here e in absurd cc
      | inr (inl below) ↦ eligible_is_first s.waiting.requests i o.place p q order eligible below o.at (sym line)
      | inr (inr above) ↦ is.clear i o.place p q above eligible.here o.at kind read line
    ]

-- a ticket doesn't see another cell
same-ticket : (array : List (List ℕ)) (cell : ℕ) (bytes : List ℕ) (r : OpenRead) (answer : Option (List ℕ)) → (answer ≡ None → cell ≢ r.cell) → ticket_with (slice_set array cell bytes) r answer ≡ ticket_with array r answer
same-ticket array cell bytes r (Some b) apart = refl
same-ticket array cell bytes r None apart = rw (get_or-set_other array cell r.cell bytes [] (λ e. apart refl (sym e)))

-- The open reads have what they had.
pub write-tickets : (s : Contents) (i : ℕ) (p : Pending) (bytes : List ℕ) → AreContents s → AreInOrder s.waiting.requests → IsEligible s.waiting.requests i p → p.kind ≡ Write → map (ticket_of (slice_set s.array p.line bytes)) s.reads ≡ tickets_of s
write-tickets s i p bytes is order eligible kind =
    map_alike (ticket_of (slice_set s.array p.line bytes)) (ticket_of s.array) s.reads (λ k r at. same-ticket s.array p.line bytes r r.bytes (λ waits. waiting-apart s is order i p eligible kind k r at waits))

-- the cell of a request is one of the channel
pub line-within : (s : Contents) → AreContents s → (i : ℕ) (p : Pending) → slice_get s.waiting.requests i ≡ Some p → p.line < length s.array
line-within s is i p at =
    let r = All-at (IsRightRequest s.checked.geometry s.channel s.hold) s.waiting.requests i p is.right at in
    omega (arith, r.cell, cell_within s.checked.geometry p.place r.lies, is.array.size)

-- Where nothing waits, the open reads don't see the array.
pub quiet-tickets : (s : Contents) (cell : ℕ) (bytes : List ℕ) → AreContents s → s.waiting.requests ≡ [] → map (ticket_of (slice_set s.array cell bytes)) s.reads ≡ tickets_of s
quiet-tickets s cell bytes is quiet =
    map_alike (ticket_of (slice_set s.array cell bytes)) (ticket_of s.array) s.reads (λ k r at. same-ticket s.array cell bytes r r.bytes (λ waits.
    let o = wanted s is k r at waits in absurd (none-some o.element (sym (ap (λ ps. slice_get ps o.place) quiet) ∙ o.at))))
