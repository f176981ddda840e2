-- What a single command makes of a channel's contents.
use Rattle.std.proofs.Common.{◌≡◌, ◌≢◌, ◌↔◌, ℕ, ◌+◌, ◌<◌, ◌≤◌, List, [], ◌∷◌, ◌++◌, true, cond, map, length, take, drop, slice_get, Option, Some, None, refl, sym, ap, ◌∙◌, arith}
use Rattle.std.specs.List.{All, filter_map, cons_option}
use Rattle.std.proofs.lemmas.List.{drop-map, length-drop, length-map, length_push, nil_from_length}
use Rattle.std.proofs.lemmas.List.Elements.{All-cons, All-drop, All-filter, All-head, All-nil, All-tail, All-weaker, filter_passes}
use Rattle.circular_buffer.proofs.Places.{slice_get-drop}
use Rattle.std.proofs.lemmas.Option.{slice_get_within}
use Rattle.chan_core.proofs.Common.{AreAsleep, AreContents, AreOldest, Asleep, Command, Contents, FitsOldest, IsRightRequest, IssuesAlone, Kind, LeavesWrites, LosesReads, OpenRead, Pending, PendingWrite, Phase, Queue, Read, ReadKey, Running, Stamped, Stepping, Waiting, Wr, Write, after_pending, is_write, numbered_from, placed, placed_write, queued_key, read_key, read_of, seen, steps_begun, waiting_key, write_key, write_of, writes_among, writes_by}
use Rattle.chan_core.proofs.Holding.{few-pending, few-steps_begun, no-reads, writes-and-reads}
use Rattle.chan_core.proofs.Taken.{all-of}
use Rattle.frfcfs.proofs.Lists.{All-at}

-- the writes of requests, numbered anew
abbrev pub alone : List Pending → List Pending
alone requests = numbered_from 0 (writes_among requests)

-- what holds of each, whatever its seq, holds of those that are numbered
all-numbered : (P : Pending → Type 0) → ((p : Pending) (n : ℕ) → P p → P (record p { seq = n })) → (ps : List Pending) (n : ℕ) → All P ps → All P (numbered_from n ps)
all-numbered P unseen [] n all = All-nil P
all-numbered P unseen (p ∷ ps) n all = All-cons P (record p { seq = n }) (numbered_from (n + 1) ps) (unseen p n (All-head P p ps all)) (all-numbered P unseen ps (n + 1) (All-tail P p ps all))

-- and of those that are left
all-left : (P : Pending → Type 0) → ((p : Pending) (n : ℕ) → P p → P (record p { seq = n })) → (requests : List Pending) (k : ℕ) → All P requests → All P (drop k (alone requests))
all-left P unseen requests k all = All-drop P k (alone requests) (all-numbered P unseen (writes_among requests) 0 (All-filter (λ p. is_write p.kind) P requests all))

abbrev IsWrite : Pending → Type 0
IsWrite p = p.kind ≡ Write

writes-only : (requests : List Pending) (k : ℕ) → All IsWrite (drop k (alone requests))
writes-only requests k =
    let writes = All-weaker (λ p. is_write p.kind ≡ true) IsWrite (λ p. elim p.kind as (λ k. is_write k ≡ true → k ≡ Write) [ Write ↦ λ e. refl | Read ↦ λ e. absurd cc ]) (writes_among requests) (filter_passes (λ p. is_write p.kind) requests) in
    All-drop IsWrite k (alone requests) (all-numbered IsWrite (λ p n kind. kind) (writes_among requests) 0 writes)

-- h gives of a write what g does, which doesn't see its seq, and of a read nothing
record Keys {Y : Type 0} (h : Pending → Option Y) (g : Pending → Y) : Type 0 where
  some : (p : Pending) → p.kind ≡ Write → h p ≡ Some (g p)
  none : (p : Pending) → p.kind ≡ Read → h p ≡ None
  unseen : (p : Pending) (n : ℕ) → g (record p { seq = n }) ≡ g p

write-keys : Keys write_key (λ p. (p.number, p.line))
write-keys = record { some = λ p e. ap (λ (k : Kind). write_of k p.number p.line) e; none = λ p e. ap (λ (k : Kind). write_of k p.number p.line) e; unseen = λ p n. refl }

place-keys : Keys placed_write (λ p. (p.number, p.place))
place-keys = record { some = λ p e. ap (λ (k : Kind). placed k (p.number, p.place)) e; none = λ p e. ap (λ (k : Kind). placed k (p.number, p.place)) e; unseen = λ p n. refl }

module _ {Y : Type 0} {h : Pending → Option Y} {g : Pending → Y} (keys : Keys h g) where
  keys-writes : (ps : List Pending) → All IsWrite ps → filter_map h ps ≡ map g ps
  keys-writes [] all = refl
  keys-writes (p ∷ ps) all = rw (keys.some p (All-head IsWrite p ps all), keys-writes ps (All-tail IsWrite p ps all))

  keys-head : (p : Pending) (ps : List Pending) (kind : Kind) → p.kind ≡ kind → filter_map h ps ≡ map g (writes_among ps) → cons_option (h p) (filter_map h ps) ≡ map g (cond (is_write kind) (p ∷ writes_among ps) (writes_among ps))
  keys-head p ps Write e rest = rw (keys.some p e, rest)
  keys-head p ps Read e rest = rw (keys.none p e, rest)

  keys-among : (ps : List Pending) → filter_map h ps ≡ map g (writes_among ps)
  keys-among [] = refl
  keys-among (p ∷ ps) = keys-head p ps p.kind refl (keys-among ps)

  keys-numbered : (ps : List Pending) (n : ℕ) → map g (numbered_from n ps) ≡ map g ps
  keys-numbered [] n = refl
  keys-numbered (p ∷ ps) n = rw (keys.unseen p n, keys-numbered ps (n + 1))

  -- the keys of the writes that are left
  keys-left : (requests : List Pending) (k : ℕ) → filter_map h (drop k (alone requests)) ≡ drop k (filter_map h requests)
  keys-left requests k = keys-writes (drop k (alone requests)) (writes-only requests k) ∙ sym (drop-map g k (alone requests)) ∙ ap (drop k) (keys-numbered (writes_among requests) 0 ∙ sym (keys-among requests))

  length-keys : (requests : List Pending) → length (filter_map h requests) ≡ length (writes_among requests)
  length-keys requests = ap length (keys-among requests) ∙ length-map (writes_among requests) g

  -- the keys of writes that are left
  keys-dropped : (ps : List Pending) (k : ℕ) → All IsWrite ps → filter_map h (drop k ps) ≡ drop k (filter_map h ps)
  keys-dropped ps k all = keys-writes (drop k ps) (All-drop IsWrite k ps all) ∙ sym (drop-map g k ps) ∙ ap (drop k) (sym (keys-writes ps all))

-- of writes alone none is unanswered
none-unanswered : (ps : List Pending) → All IsWrite ps → filter_map read_key ps ≡ []
none-unanswered ps all = nil_from_length (filter_map read_key ps) (omega (arith, writes-and-reads ps, ap length (keys-writes write-keys ps all), length-map {B = ℕ × ℕ} ps (λ p. (p.number, p.line))))

-- where no read is open, the requests are writes
pub all-writes : (s : Contents) → AreContents s → s.reads ≡ [] → All IsWrite s.waiting.requests
all-writes s is none = no-read s.waiting.requests (is.unanswered ∙ ap (filter_map waiting_key) none)
  where
    of-kind : (p : Pending) (kind : Kind) → p.kind ≡ kind → read_key p ≡ None → IsWrite p
    of-kind p Write e none = e
    of-kind p Read e none = absurd (let some : read_key p ≡ Some (record { seq = p.seq; cell = p.line; at = p.number }) = ap (λ (k : Kind). read_of k (record { seq = p.seq; cell = p.line; at = p.number })) e in cc)

    first : (p : Pending) (ps : List Pending) → filter_map read_key (p ∷ ps) ≡ [] → (key : Option ReadKey) → read_key p ≡ key → (read_key p ≡ None) × (filter_map read_key ps ≡ [])
    first p ps e None key = (key, rw key at e)
    first p ps e (Some k) key = absurd (let some = rw key at e in cc)

    no-read : (ps : List Pending) → filter_map read_key ps ≡ [] → All IsWrite ps
    no-read [] e = All-nil IsWrite
    no-read (p ∷ ps) e = let (none, others) = first p ps e (read_key p) refl in All-cons IsWrite p ps (of-kind p p.kind refl none) (no-read ps others)

-- where no read is open nothing is lost
pub leaves-all : (reads : List OpenRead) (waiting : Waiting) → length reads ≡ 0 → LeavesWrites reads waiting waiting
leaves-all [] waiting none = refl
leaves-all (read ∷ reads) waiting none = absurd (omega (arith, none))

pub leaves-writes : (reads : List OpenRead) (old new : Waiting) → length reads ≢ 0 → new.requests ≡ alone old.requests → new.next ≡ length new.requests → new.most ≡ old.most → LeavesWrites reads old new
leaves-writes [] old new some requests next most = absurd (some refl)
leaves-writes (read ∷ reads) old new some requests next most = (requests, next, most)

-- What is left of the requests once the reads are lost: the writes.
pub record Left (s : Contents) (waiting : Waiting) : Type 0 where
  pub only : All IsWrite waiting.requests
  pub right : All (IsRightRequest s.checked.geometry s.channel s.hold) waiting.requests
  pub keys : filter_map write_key waiting.requests ≡ map queued_key s.queue.writes
  pub places : filter_map placed_write waiting.requests ≡ filter_map placed_write s.waiting.requests
  pub within : (n : ℕ) → ((i : ℕ) (p : Pending) → slice_get s.waiting.requests i ≡ Some p → p.line < n) → All (λ p. p.line < n) waiting.requests
  pub seqs : waiting.next ≤ length waiting.requests + length s.commands
  pub most : waiting.most ≡ s.waiting.most

pub left : (s : Contents) (waiting : Waiting) → AreContents s → LeavesWrites s.reads s.waiting waiting → Left s waiting
left s waiting is = by-reads s.reads refl
  where
    by-reads : (reads : List OpenRead) → s.reads ≡ reads → LeavesWrites reads s.waiting waiting → Left s waiting
    by-reads [] none same = rw same (record {
      only = all-writes s is none;
      right = is.right;
      keys = is.writes;
      places = refl;
      within = λ n below. all-of (λ p. p.line < n) s.waiting.requests below;
      seqs = is.few_seqs;
      most = refl;
    })
    by-reads (read ∷ reads) some (requests, next, most) = record {
      only = rw requests (writes-only s.waiting.requests 0);
      right = rw requests (all-left (IsRightRequest s.checked.geometry s.channel s.hold) (λ p n r. record { lies = r.lies; channel = r.channel; cell = r.cell; held = r.held }) s.waiting.requests 0 is.right);
      keys = rw requests (keys-left write-keys s.waiting.requests 0 ∙ is.writes);
      places = rw requests (keys-left place-keys s.waiting.requests 0);
      within = λ n below. rw requests (all-left (λ p. p.line < n) (λ p i less. less) s.waiting.requests 0 (all-of (λ p. p.line < n) s.waiting.requests below));
      seqs = omega (arith, next);
      most = most;
    }

-- Its contents are right once single commands begin: no read is open, and there are serials to spare.
pub steps-hold : (s : Contents) (waiting : Waiting) → AreContents s → s.phase ≡ Running → Left s waiting → AreContents (record s { waiting = waiting; reads = []; phase = Stepping })
steps-hold s waiting is running left = record {
  array = is.array;
  queue = is.queue;
  room = left.most ∙ is.room;
  right = left.right;
  writes = left.keys;
  unanswered = none-unanswered waiting.requests left.only;
  reads = no-reads s.serial waiting.next;
  few_reads = omega arith;
  most = is.most;
  clear = λ i j w r less at at' kind kind'. let write = All-at IsWrite waiting.requests j r left.only at' in absurd cc;
  few_seqs = left.seqs;
  few_serials = omega (arith, is.few_serials, few-pending s is, is.few_reads, is.most, is.queue.few, is.queue.most, ap steps_begun running);
}

-- what that does, by the contents
pub steps-begin : (s : Contents) (waiting : Waiting) → Left s waiting → LosesReads (record (seen s) { phase = Stepping }) (seen (record s { waiting = waiting; reads = []; phase = Stepping }))
steps-begin s waiting left = record { same = refl; placed = left.places; writes_only = left.only }

-- a phase in which single commands go
steps_begun-alone : (phase : Phase) → phase ≢ Running → steps_begun phase ≡ 1
steps_begun-alone Running not = absurd (not refl)
steps_begun-alone Stepping not = refl
steps_begun-alone Asleep not = refl

-- Its contents are right behind a single command, with so many writes less and no reads.
pub alone-holds : (s : Contents) (x : Stamped) (k : ℕ) (phase : Phase) (array : List (List ℕ)) (queue : Queue) (mid waiting : Waiting) → AreContents s → Left s mid → phase ≢ Running → k ≤ 1 → length array ≡ length s.array → All (λ line. length line ≡ 64) array
    → queue ≡ record s.queue { writes = drop k s.queue.writes } → waiting ≡ record mid { requests = drop k mid.requests }
    → AreContents (record s { array = array; queue = queue; waiting = waiting; reads = []; commands = s.commands ++ x ∷ []; phase = phase })
alone-holds s x k phase array queue mid waiting is left alone few size whole queue-is waiting-is =
    let more = length_push s.commands x in
    let writes = All-drop IsWrite k mid.requests left.only in
    rw (queue-is, waiting-is) (record {
      array = record { size = size ∙ is.array.size; whole = whole };
      queue = record {
        rise = λ i j v w less at at'. is.queue.rise (k + i) (k + j) v w (omega (arith, less)) (sym (slice_get-drop k s.queue.writes i (k + i) refl) ∙ at) (sym (slice_get-drop k s.queue.writes j (k + j) refl) ∙ at');
        few = omega (arith, is.queue.few, length-drop k s.queue.writes);
        least = is.queue.least;
        most = is.queue.most;
      };
      room = left.most ∙ is.room;
      right = All-drop (IsRightRequest s.checked.geometry s.channel s.hold) k mid.requests left.right;
      writes = keys-dropped write-keys mid.requests k left.only ∙ ap (drop k) left.keys ∙ drop-map queued_key k s.queue.writes;
      unanswered = none-unanswered (drop k mid.requests) writes;
      reads = no-reads s.serial mid.next;
      few_reads = omega arith;
      most = is.most;
      clear = λ i j w r less at at' kind kind'. let write = All-at IsWrite (drop k mid.requests) j r writes at' in absurd cc;
      few_seqs = omega (arith, few, left.seqs, length-drop k mid.requests, more);
      few_serials = omega (arith, is.few_serials, few-pending s is, is.few_reads, is.most, is.queue.few, is.queue.most, more, steps_begun-alone phase alone, few-steps_begun s.phase);
    })

first-oldest : (cells : ℕ) (writes : List PendingWrite) (requests : List Pending) → map (λ p. (p.number, p.line)) requests ≡ map queued_key writes → 1 ≤ length writes → All (λ p. p.line < cells) requests → AreOldest cells writes requests
first-oldest cells [] requests keys some within = absurd (omega (arith, some))
first-oldest cells (w ∷ ws) [] keys some within = absurd cc
first-oldest cells (w ∷ ws) (p ∷ ps) keys some within =
    let key : (p.number, p.line) ≡ (w.number, w.write.line) = cc in
    record { p = p; w = w; request = refl; write = refl; number = sym (ap (λ (y : ℕ × ℕ). y.0) key); cell = sym (ap (λ (y : ℕ × ℕ). y.1) key); within = All-head (λ q. q.line < cells) p ps within }

-- the first of the writes that are left is the oldest
pub alone-oldest : (s : Contents) (mid : Waiting) → Left s mid → ((i : ℕ) (p : Pending) → slice_get s.waiting.requests i ≡ Some p → p.line < length s.array) → 1 ≤ length s.queue.writes
    → AreOldest (length s.array) s.queue.writes mid.requests
alone-oldest s mid left within some =
    first-oldest (length s.array) s.queue.writes mid.requests (sym (keys-writes write-keys mid.requests left.only) ∙ left.keys) some (left.within (length s.array) within)

-- what it does, by the contents
pub alone-issues : (s : Contents) (x : Stamped) (phase : Phase) (array : List (List ℕ)) (queue : Queue) (mid waiting : Waiting) (commands : List Stamped) → Left s mid → array ≡ after_pending s.array (take (writes_by x.cmd) s.queue.writes)
    → queue ≡ record s.queue { writes = drop (writes_by x.cmd) s.queue.writes } → waiting ≡ record mid { requests = drop (writes_by x.cmd) mid.requests } → commands ≡ s.commands ++ x ∷ [] → phase ≢ Running → ((phase ≡ Asleep) ↔ AreAsleep s.checked (s.commands ++ x ∷ []))
    → IssuesAlone (seen s) x (seen (record s { array = array; queue = queue; waiting = waiting; reads = []; commands = commands; phase = phase }))
alone-issues s x phase array queue mid waiting commands left array-is queue-is waiting-is commands-is single asleep = record {
  same = rw (array-is, queue-is, commands-is) refl;
  placed = rw waiting-is (keys-dropped place-keys mid.requests (writes_by x.cmd) left.only ∙ ap (drop (writes_by x.cmd)) left.places);
  writes_only = rw waiting-is (All-drop IsWrite (writes_by x.cmd) mid.requests left.only);
  single = single;
  asleep = rw commands-is asleep;
}

pub one-write : (cmd : Command) → writes_by cmd ≤ 1
one-write (Wr at column) = omega arith
one-write cmd = omega arith

-- there is a write where a WR is to go
pub fits-some : (s : Contents) → AreContents s → (cmd : Command) → FitsOldest (seen s) cmd → writes_by cmd ≤ length s.queue.writes
fits-some s is (Wr at column) (number, place, here, bank-is, column-is, row-is) =
    let places = length-keys place-keys s.waiting.requests in
    let keys = length-keys write-keys s.waiting.requests in
    omega (arith, places, keys, slice_get_within (filter_map placed_write s.waiting.requests) 0 (number, place) here, ap length is.writes, length-map s.queue.writes queued_key)
fits-some s is cmd fits = omega arith
