-- What stays right of a channel's contents when a request comes.
use Rattle.std.proofs.Common.{◌≡◌, ℕ, suc, ◌+◌, ◌<◌, ◌≤◌, inl, inr, Bool, false, List, [], ◌∷◌, ◌++◌, map, length, slice_get, Option, Some, None, refl, sym, ap, ◌∙◌, arith}
use Rattle.std.specs.List.{filter_map, cons_option}
use Rattle.std.proofs.lemmas.List.{map-append, append-nil, length-map, length_push}
use Rattle.std.proofs.lemmas.List.Elements.{All-map, All-nil, All-push, filter_map-append}
use Rattle.chan_core.proofs.Common.{AreContents, Contents, IsMemory, IsRightRequest, IsWriteQueue, LiesIn, NoWriteNames, OpenRead, Pending, Phase, Place, Queue, Read, ReadsRise, Running, Waiting, Write, cell_of, cells_of, held_by, is_held, pending_write, queued_key, read_key, read_of, request, steps_begun, waiting_key, write_key, write_of}
use Rattle.chan_core.proofs.Kept.{filter_map-unseen, length-filter_map, map-from}
use Rattle.chan_core.proofs.Taken.{appended, pairs-push}
use Rattle.chan_core.proofs.Serving.{KeepApart, in-queue}

-- a request is a write or a read
pub writes-and-reads : (ps : List Pending) → length (filter_map write_key ps) + length (filter_map read_key ps) ≡ length ps
writes-and-reads [] = refl
writes-and-reads (p ∷ ps) =
    let rest = writes-and-reads ps in
    elim p.kind as (λ kind. length (cons_option (write_of kind p.number p.line) (filter_map write_key ps)) + length (cons_option (read_of kind (record { seq = p.seq; cell = p.line; at = p.number })) (filter_map read_key ps)) ≡ suc (length ps)) [
      | Read ↦ omega (arith, rest)
      | Write ↦ omega (arith, rest)
    ]

-- there are no more requests than pending writes and open reads
pub few-pending : (s : Contents) → AreContents s → length s.waiting.requests ≤ length s.queue.writes + length s.reads
few-pending s is =
    let all = writes-and-reads s.waiting.requests in
    omega (arith, all, ap length is.writes, length-map s.queue.writes queued_key, ap length is.unanswered, length-filter_map waiting_key s.reads)

pub few-steps_begun : (phase : Phase) → steps_begun phase ≤ 1
few-steps_begun Running = omega arith
few-steps_begun phase = omega arith

-- A request comes: the contents are right where the writes, the reads and their serial are.
push-holds : (s : Contents) (queue : Queue) (waiting : Waiting) (reads : List OpenRead) (serial : ℕ) (p : Pending) → AreContents s → waiting.next ≡ s.waiting.next + 1 → waiting.most ≡ s.waiting.most → waiting.requests ≡ s.waiting.requests ++ p ∷ []
    → IsRightRequest s.checked.geometry s.channel s.hold p → IsWriteQueue queue → queue.depth ≡ s.queue.depth
    → filter_map write_key (s.waiting.requests ++ p ∷ []) ≡ map queued_key queue.writes → filter_map read_key (s.waiting.requests ++ p ∷ []) ≡ filter_map waiting_key reads
    → ReadsRise serial (s.waiting.next + 1) reads → length reads ≤ s.most_reads → serial ≤ s.serial + 1 → ((i : ℕ) (w : Pending) → slice_get s.waiting.requests i ≡ Some w → KeepApart w p)
    → AreContents (record s { queue = queue; waiting = waiting; reads = reads; serial = serial })
push-holds s queue waiting reads serial p is next most requests new whole depth writes unanswered rise few later apart =
    let more = length_push s.waiting.requests p in
    let same : ◌≡◌ {A = Waiting} (record { most = waiting.most; next = waiting.next; requests = waiting.requests }) (record { most = s.waiting.most; next = s.waiting.next + 1; requests = s.waiting.requests ++ p ∷ [] }) = rw (most, next, requests) in
    rw same (record {
      array = is.array;
      queue = whole;
      room = rw depth is.room;
      right = All-push (IsRightRequest s.checked.geometry s.channel s.hold) s.waiting.requests p is.right new;
      writes = writes;
      unanswered = unanswered;
      reads = rise;
      few_reads = few;
      most = is.most;
      clear = pairs-push KeepApart s.waiting.requests p is.clear apart;
      few_seqs = omega (arith, is.few_seqs, more);
      few_serials = omega (arith, is.few_serials, later, more);
    })

pub put-holds : (s : Contents) (queue : Queue) (waiting : Waiting) (number : ℕ) (bytes : List ℕ) (place : Place) (cell : ℕ) → AreContents s → waiting.next ≡ s.waiting.next + 1 → waiting.most ≡ s.waiting.most → IsWriteQueue queue
    → queue ≡ record s.queue { writes = s.queue.writes ++ pending_write number cell bytes ∷ [] } → waiting.requests ≡ s.waiting.requests ++ request s.waiting.next place cell Write number (is_held s.hold Write number) ∷ []
    → LiesIn s.checked.geometry place → place.channel ≡ s.channel → cell_of s.checked.geometry place ≡ cell → AreContents (record s { queue = queue; waiting = waiting })
put-holds s queue waiting number bytes place cell is next most whole queue-is requests lies channel cell-is =
    let new = request s.waiting.next place cell Write number (is_held s.hold Write number) in
    push-holds s queue waiting s.reads s.serial new is next most requests (record { lies = lies; channel = channel; cell = cell-is; held = refl }) whole (ap (λ (q : Queue). q.depth) queue-is)
    (filter_map-append write_key s.waiting.requests (new ∷ []) ∙ ap (λ ks. ks ++ (number, cell) ∷ []) is.writes ∙ sym (map-append queued_key s.queue.writes (pending_write number cell bytes ∷ [])) ∙ sym (ap (λ (q : Queue). map queued_key q.writes) queue-is))
    (filter_map-append read_key s.waiting.requests (new ∷ []) ∙ append-nil (filter_map read_key s.waiting.requests) ∙ is.unanswered)
    (record { serials = is.reads.serials; seqs = is.reads.seqs; below = λ i r at. let b = is.reads.below i r at in (b.0, omega (arith, b.1)) }) is.few_reads (omega arith) (λ i w at kind kind'. absurd cc)

-- there are no reads
pub no-reads : (serial seq : ℕ) → ReadsRise serial seq []
no-reads serial seq = record { serials = λ i j r t less at at'. absurd cc; seqs = λ i j r t less at at'. absurd cc; below = λ i r at. absurd cc }

pub new-holds : (s : Contents) → IsMemory (cells_of s.checked.geometry) s.array → IsWriteQueue s.queue → s.queue.writes ≡ [] → s.waiting ≡ record { most = s.queue.depth + s.most_reads; next = 0; requests = [] } → s.reads ≡ [] → s.most_reads ≤ 64
    → s.serial ≡ 0 → AreContents s
new-holds s array queue writes waiting reads most serial = record {
  array = array;
  queue = queue;
  room = ap (λ (w : Waiting). w.most) waiting;
  right = rw waiting (All-nil (IsRightRequest s.checked.geometry s.channel s.hold));
  writes = rw (waiting, writes);
  unanswered = rw (waiting, reads);
  reads = rw reads (no-reads s.serial s.waiting.next);
  few_reads = omega (arith, ap length reads);
  most = most;
  clear = rw waiting (λ i j w r less at at'. absurd cc);
  few_seqs = omega (arith, ap (λ (w : Waiting). w.next) waiting);
  few_serials = omega (arith, serial);
}

-- one read more, for the next request
push-reads : (reads : List OpenRead) (r : OpenRead) → ReadsRise r.serial r.seq reads → ReadsRise (r.serial + 1) (r.seq + 1) (reads ++ r ∷ [])
push-reads reads r is = record {
  serials = pairs-push (λ a b. a.serial < b.serial) reads r is.serials (λ i a at. (is.below i a at).0);
  seqs = pairs-push (λ a b. a.seq < b.seq) reads r is.seqs (λ i a at. (is.below i a at).1);
  below = λ i a at. elim (appended reads r i a at).is [
    | inl old ↦ let b = is.below i a old in (omega (arith, b.0), omega (arith, b.1))
    | inr last ↦ (omega (arith, ap (λ (x : OpenRead). x.serial) last.1), omega (arith, ap (λ (x : OpenRead). x.seq) last.1))
  ];
}

pub get-holds : (s : Contents) (waiting : Waiting) (reads : List OpenRead) (line at : ℕ) (place : Place) (cell : ℕ) → AreContents s → waiting.next ≡ s.waiting.next + 1 → waiting.most ≡ s.waiting.most
    → waiting.requests ≡ s.waiting.requests ++ request s.waiting.next place cell Read at false ∷ [] → reads ≡ s.reads ++ record { serial = s.serial; seq = s.waiting.next; line = line; cell = cell; at = at; bytes = None } ∷ []
    → NoWriteNames cell s.queue.writes → length s.reads < s.most_reads → LiesIn s.checked.geometry place → place.channel ≡ s.channel → cell_of s.checked.geometry place ≡ cell
    → AreContents (record s { waiting = waiting; reads = reads; serial = s.serial + 1 })
get-holds s waiting reads line at place cell is next most requests reads-is none room lies channel cell-is =
    let new = request s.waiting.next place cell Read at false in
    let read : OpenRead = record { serial = s.serial; seq = s.waiting.next; line = line; cell = cell; at = at; bytes = None } in
    let unheld : ◌≡◌ {A = Bool} false (is_held s.hold Read at) = elim s.hold as (λ hold. ◌≡◌ {A = Bool} false (is_held hold Read at)) [ None ↦ refl | Some from ↦ refl ] in
    rw reads-is (push-holds s s.queue waiting (s.reads ++ read ∷ []) (s.serial + 1) new is next most requests (record { lies = lies; channel = channel; cell = cell-is; held = unheld }) is.queue refl
    (filter_map-append write_key s.waiting.requests (new ∷ []) ∙ append-nil (filter_map write_key s.waiting.requests) ∙ is.writes)
    (filter_map-append read_key s.waiting.requests (new ∷ []) ∙ ap (λ ks. ks ++ record { seq = s.waiting.next; cell = cell; at = at } ∷ []) is.unanswered ∙ sym (filter_map-append waiting_key s.reads (read ∷ [])))
    (push-reads s.reads read is.reads) (omega (arith, length_push s.reads read, room)) (omega arith)
    (λ i w there kind kind' same. let q = in-queue s is i w there kind in none q.index q.write q.at (q.cell ∙ same)))

pub hold-holds : (s : Contents) (hold : Option ℕ) (waiting : Waiting) → AreContents s → waiting ≡ record s.waiting { requests = map (held_by hold) s.waiting.requests } → AreContents (record s { waiting = waiting; hold = hold })
hold-holds s hold waiting is waiting-is =
    let same = length-map s.waiting.requests (held_by hold) in
    rw waiting-is (record {
      array = is.array;
      queue = is.queue;
      room = is.room;
      right = All-map (IsRightRequest s.checked.geometry s.channel hold) (held_by hold) s.waiting.requests (λ i d less. let was = is.right i d less in record { lies = was.lies; channel = was.channel; cell = was.cell; held = refl });
      writes = filter_map-unseen write_key (held_by hold) (λ r. refl) s.waiting.requests ∙ is.writes;
      unanswered = filter_map-unseen read_key (held_by hold) (λ r. refl) s.waiting.requests ∙ is.unanswered;
      reads = is.reads;
      few_reads = is.few_reads;
      most = is.most;
      clear = λ i j w r less at at'.
          let (v, there, same) = map-from (held_by hold) s.waiting.requests i w at in
          let (t, there', same') = map-from (held_by hold) s.waiting.requests j r at' in
          rw (← same, ← same') (is.clear i j v t less there there');
      few_seqs = omega (arith, is.few_seqs, same);
      few_serials = omega (arith, is.few_serials, same);
    })
