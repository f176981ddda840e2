-- Keys of requests, in a queue that grows, shrinks and is held, and what they say of a request.
use Rattle.std.proofs.Common.{◌≡◌, ◌≢◌, ℕ, ◌+◌, ◌<◌, ◌≤◌, ◌↔◌, List, [], ◌∷◌, ◌++◌, Bool, IsTrue, true, false, Option, None, Some, inl, inr, refl, sym, subst, ap, ◌∙◌, arith, All, map, length, length-append, remove, get_or, set, length-set, get_or-set_same, get_or-set_other, slice_get, IfSome}
use Rattle.std.proofs.Math.Seq.{map-set_same}
use Rattle.std.proofs.lemmas.Bool.{cases_eq, cases_lt}
use Rattle.std.proofs.lemmas.List.{get_or-map, get_or_append_left, get_or_default, get_or_push, length-map, map-append}
use Rattle.std.proofs.lemmas.List.Edits.{length-remove}
use Rattle.std.specs.List.{drop-map, take-map}
use Rattle.std.proofs.lemmas.Option.{get_or_from_slice_get, slice_get-get_or, slice_get_within}
use Rattle.ddr4_timing.proofs.Addresses.{same_address}
use Rattle.request_notes.specs.Notes.{IsMarked}
use Rattle.frfcfs.specs.Scan.{flag_of}
use Rattle.frfcfs.proofs.Common.{AreKeys, AreKeysIn, AreToldBy, BankAddress, Geometry, IsKeyOf, IsOldestOf, IsSmall, Key, Kind, LiesIn, Pending, bank_at, bank_index, bank_number, firsts_of, held_by, numbered_from, place_of}
use Rattle.frfcfs.proofs.HitLemmas.{IsLook}
use Rattle.frfcfs.proofs.KeepLemmas.{length-numbered, numbered_at}
use Rattle.frfcfs.proofs.Lists.{something_at}
use Rattle.frfcfs.proofs.QueueLemmas.{IsOldestAt, line_at, lines}
use Rattle.request_notes.proofs.Stood.{get_or-stood, stood}

-- what a key says of its request, which lies in the geometry

pub key_index : (g : Geometry) (p : Pending) (k : Key) → IsSmall g → LiesIn g p.place → IsKeyOf p k → k.bank ≡ bank_index (bank_at p.place)
key_index g p k small lies is = omega (arith, is.bank, lies.rank, lies.group, lies.bank, small.ranks, small.groups, small.banks)

pub key_bank : (g : Geometry) (p : Pending) (k : Key) → IsSmall g → LiesIn g p.place → IsKeyOf p k → bank_at (place_of k) ≡ bank_at p.place
key_bank g p k small lies is =
    let at = key_index g p k small lies is in
    same_address (bank_at (place_of k)) (bank_at p.place) (omega (arith, at, lies.group, lies.bank, small.groups, small.banks)) (omega (arith, at, lies.group, lies.bank, small.groups, small.banks))
    (omega (arith, at, lies.group, lies.bank, small.groups, small.banks))

key_lies : (g : Geometry) (p : Pending) (k : Key) → IsSmall g → LiesIn g p.place → IsKeyOf p k → LiesIn g (place_of k)
key_lies g p k small lies is =
    let bank = key_bank g p k small lies is in record {
      channel = omega (arith, lies.channel);
      rank = omega (arith, lies.rank, ap (λ (b : BankAddress). b.rank) bank);
      group = omega (arith, lies.group, ap (λ (b : BankAddress). b.group) bank);
      bank = omega (arith, lies.bank, ap (λ (b : BankAddress). b.bank) bank);
      row = omega (arith, lies.row, is.row);
      column = omega (arith, lies.column);
    }

pub key_flag : (g : Geometry) (p : Pending) (k : Key) → IsSmall g → LiesIn g p.place → IsKeyOf p k → flag_of k.bank k.kind ≡ flag_of (bank_index (bank_at p.place)) p.kind
key_flag g p k small lies is = ap (λ (n : ℕ). flag_of n k.kind) (key_index g p k small lies is) ∙ ap (λ (kind : Kind). flag_of (bank_index (bank_at p.place)) kind) is.kind

pub key_small : (g : Geometry) (k : Key) → IsSmall g → LiesIn g (place_of k) → k.bank < 64
key_small g k small lies = omega (arith, lies.rank, small.ranks)

pub key_there : (pending : List Pending) (keys : List Key) (i : ℕ) (p : Pending) (k : Key) → AreKeys pending keys → slice_get pending i ≡ Some p → IsKeyOf p (get_or keys i k)
key_there pending keys i p k are at = subst (λ (q : Pending). IsKeyOf q (get_or keys i k)) (get_or_from_slice_get pending i p p at) (are.each i p k (slice_get_within pending i p at))

pub place_there : (g : Geometry) (pending : List Pending) (keys : List Key) (i : ℕ) (p : Pending) → AreKeysIn g pending keys → slice_get pending i ≡ Some p → LiesIn g p.place
place_there g pending keys i p are at = (are.marks i p (omega (arith, slice_get_within pending i p at, are.keyed.size, length-map keys (λ (k : Key). k.first))) at).0

pub keys_lie : (g : Geometry) (pending : List Pending) (keys : List Key) → IsSmall g → AreKeysIn g pending keys → All (λ k. LiesIn g (place_of k)) keys
keys_lie g pending keys small are i k within =
    let (p, at) = something_at pending i (omega (arith, within, are.keyed.size)) in
    key_lies g p (get_or keys i k) small (place_there g pending keys i p are at) (key_there pending keys i p k are.keyed at)

-- A key says whether its request is eligible.
pub key_look : (g : Geometry) (pending : List Pending) (keys : List Key) (i : ℕ) (free : Bool) (k : Key) → AreKeysIn g pending keys → i < length keys → (IsTrue free ↔ (IsTrue (get_or keys i k).first × ((get_or keys i k).held ≡ false))) → IsLook g pending i free
key_look g pending keys i free k are within says p at =
    let mark = are.marks i p (omega (arith, within, length-map keys (λ (x : Key). x.first))) at in
    let first = get_or-map (λ (x : Key). x.first) keys i k false within in
    let held = (key_there pending keys i p k are.keyed at).held in (
      λ t. let h = says.0 t in (record { here = at; free = sym held ∙ h.1; oldest = mark.1.0 (first ∙ h.0) }, record { rank = mark.0.rank; group = mark.0.group; bank = mark.0.bank }),
      λ h. says.1 (sym first ∙ mark.1.1 h.0.oldest, held ∙ h.0.free),
    )

-- a key names its request's line
line_of_key : (pending : List Pending) (keys : List Key) (i : ℕ) (k : Key) → AreKeys pending keys → slice_get keys i ≡ Some k → get_or (lines pending) i 0 ≡ k.line
line_of_key pending keys i k are at =
    let (p, there) = something_at pending i (omega (arith, slice_get_within keys i k at, are.size)) in
    line_at pending i p there ∙ (sym (key_there pending keys i p k are there).line ∙ ap (λ (x : Key). x.line) (get_or_from_slice_get keys i k k at))

-- The first key that names a line stands where its oldest request does.
pub oldest_key : (line : ℕ) (pending : List Pending) (keys : List Key) (place : Option ℕ) → AreKeys pending keys → IsOldestOf line keys place → IsOldestAt line (lines pending) place
oldest_key line pending keys None are none = record {
  here = λ m is. absurd cc;
  upto = λ i within same.
      let (k, at) = something_at keys i (omega (arith, within, length-map pending (λ (q : Pending). q.line), are.size)) in
      absurd (none i k (slice_get_within keys i k at) (ap (λ (x : Key). x.line) (get_or_from_slice_get keys i k k at) ∙ (sym (line_of_key pending keys i k are at) ∙ same)));
}
oldest_key line pending keys (Some n) are (key, at, own, before) = record {
  here = λ m is. let e : m ≡ n = cc in ap (λ (i : ℕ). get_or (lines pending) i 0) e ∙ (line_of_key pending keys n key are at ∙ own);
  upto = λ i within same. elim (cases_lt i n) [
    | inl l ↦
        let (k, there) = something_at keys i (omega (arith, within, length-map pending (λ (q : Pending). q.line), are.size)) in
        absurd (before i k l there (sym (line_of_key pending keys i k are there) ∙ same))
    | inr g ↦ (n, refl, g)
  ];
}

-- A line that no key names is that of no request.
pub new_line : (line : ℕ) (pending : List Pending) (keys : List Key) → AreKeys pending keys → (All (λ key. key.line ≢ line) keys ↔ All (λ other. other ≢ line) (lines pending))
new_line line pending keys are = (
  λ none i d within same.
      let (k, at) = something_at keys i (omega (arith, within, length-map pending (λ (q : Pending). q.line), are.size)) in
      none i k (slice_get_within keys i k at) (ap (λ (x : Key). x.line) (get_or_from_slice_get keys i k k at) ∙ (sym (line_of_key pending keys i k are at) ∙ (get_or_default (lines pending) i 0 d within ∙ same))),
  λ none i d within same.
      none i 0 (omega (arith, within, length-map pending (λ (q : Pending). q.line), are.size)) (line_of_key pending keys i (get_or keys i d) are (slice_get-get_or keys i d within) ∙ same),
)

-- one more at the end
pub keys_push : (pending : List Pending) (keys : List Key) (p : Pending) (k : Key) → AreKeys pending keys → IsKeyOf p k → AreKeys (pending ++ p ∷ []) (keys ++ k ∷ [])
keys_push pending keys p k are is = record {
  size = omega (arith, are.size, length-append pending (p ∷ []), length-append keys (k ∷ []));
  each = λ i d e within. elim (cases_lt i (length pending)) [
    | inl l ↦ rw (get_or_append_left pending (p ∷ []) d i l, get_or_append_left keys (k ∷ []) e i (omega (arith, l, are.size))) (are.each i d e l)
    | inr g ↦
        let end : length pending ≡ i = omega (arith, g, within, length-append pending (p ∷ [])) in
        rw (get_or_push pending p d i end, get_or_push keys k e i (are.size ∙ end)) is
  ];
}

-- one taken out
pub keys_remove : (pending : List Pending) (keys : List Key) (i : ℕ) → AreKeys pending keys → i < length pending → AreKeys (remove pending i) (remove keys i)
keys_remove pending keys i are within =
    let there : i < length keys = omega (arith, within, are.size) in
    let shorter = length-remove pending i within in record {
      size = omega (arith, are.size, shorter, length-remove keys i there);
      each = λ k d e less. rw (get_or-stood pending i k d within, get_or-stood keys i k e there) (are.each (stood i k) d e (grind (arith, less, shorter)));
    }

pub firsts_remove : (keys : List Key) (i : ℕ) → firsts_of (remove keys i) ≡ remove (firsts_of keys) i
firsts_remove keys i = simp (map-append, take-map, drop-map)

-- one marked as the first of its line
pub keys_mark : (pending : List Pending) (keys : List Key) (i : ℕ) (key : Key) → i < length keys → key ≡ get_or keys i key → AreKeys pending keys → AreKeys pending (set keys i (record key { first = true }))
keys_mark pending keys i key there read are = record {
  size = length-set keys i (record key { first = true }) ∙ are.size;
  each = λ j d e within. elim (cases_eq j i) [
    | inl same ↦
        let was : IsKeyOf (get_or pending i d) key = subst (λ (k : Key). IsKeyOf (get_or pending i d) k) (sym read) (are.each i d key (omega (arith, there, are.size))) in
        rw (same, get_or-set_same keys i (record key { first = true }) e there) (record { seq = was.seq; row = was.row; line = was.line; bank = was.bank; kind = was.kind; held = was.held })
    | inr other ↦ rw (get_or-set_other keys i j (record key { first = true }) e other) (are.each j d e within)
  ];
}

-- each told anew of its request

-- the keys before an end have what their requests have
pub record AreToldUpto (pending : List Pending) (old new : List Key) (end : ℕ) : Type 0 where
  pub firsts : firsts_of new ≡ firsts_of old
  pub below : (i : ℕ) (p : Pending) (k : Key) → i < end → i < length old → get_or new i k ≡ record (get_or old i k) { seq = (get_or pending i p).seq; held = (get_or pending i p).held }
  pub above : (i : ℕ) (k : Key) → end ≤ i → get_or new i k ≡ get_or old i k

pub keys_held : (hold : Option ℕ) (pending : List Pending) (old new : List Key) → AreToldBy (map (held_by hold) pending) old new → AreKeys pending old → AreKeys (map (held_by hold) pending) new
keys_held hold pending old new told are =
    let n = length-map pending (held_by hold) in record {
      size = omega (arith, told.size, are.size, n);
      each = λ i d e within.
          let less : i < length pending = omega (arith, within, n) in
          let request = get_or-map (held_by hold) pending i d d less in
          let was = are.each i d e less in
          rw (told.each i d e (omega (arith, less, are.size))) (record {
            seq = refl;
            row = was.row ∙ ap (λ (q : Pending). q.place.row) (sym request);
            line = was.line ∙ ap (λ (q : Pending). q.line) (sym request);
            bank = was.bank ∙ ap (λ (q : Pending). bank_number q.place) (sym request);
            kind = was.kind ∙ ap (λ (q : Pending). q.kind) (sym request);
            held = refl;
          });
    }

pub keys_numbered : (pending : List Pending) (old new : List Key) → AreToldBy (numbered_from 0 pending) old new → AreKeys pending old → AreKeys (numbered_from 0 pending) new
keys_numbered pending old new told are =
    let n = length-numbered 0 pending in record {
      size = omega (arith, told.size, are.size, n);
      each = λ i d e within.
          let less : i < length pending = omega (arith, within, n) in
          let request = numbered_at 0 pending i d less in
          let was = are.each i d e less in
          rw (told.each i d e (omega (arith, less, are.size))) (record {
            seq = refl;
            row = was.row ∙ ap (λ (q : Pending). q.place.row) (sym request);
            line = was.line ∙ ap (λ (q : Pending). q.line) (sym request);
            bank = was.bank ∙ ap (λ (q : Pending). bank_number q.place) (sym request);
            kind = was.kind ∙ ap (λ (q : Pending). q.kind) (sym request);
            held = refl;
          });
    }

-- a loop that tells each
pub told_more : (pending : List Pending) (old keys : List Key) (i seq : ℕ) (key : Key) (held : Bool) (p : Pending) → i < length old → length keys ≡ length old → length old ≡ length pending → key ≡ get_or keys i key
    → seq ≡ (get_or pending i p).seq → held ≡ (get_or pending i p).held → AreToldUpto pending old keys i → AreToldUpto pending old (set keys i (record key { seq = seq; held = held })) (i + 1)
told_more pending old keys i seq key held p within size both read number is before = record {
  firsts = map-set_same (λ (x : Key). x.first) keys i (record key { seq = seq; held = held }) key (ap (λ (x : Key). x.first) read) ∙ before.firsts;
  below = λ j q e less there. elim (cases_eq j i) [
    | inl same ↦
        let own = get_or_default pending i p q (omega (arith, within, both)) in
        let mark : held ≡ (get_or pending i q).held = is ∙ ap (λ (x : Pending). x.held) own in
        let new : seq ≡ (get_or pending i q).seq = number ∙ ap (λ (x : Pending). x.seq) own in
        let was : key ≡ get_or old i e = read ∙ (before.above i key (omega arith) ∙ get_or_default old i key e within) in
        rw (same, get_or-set_same keys i (record key { seq = seq; held = held }) e (omega (arith, within, size)))
        (ap (λ (k : Key). record k { seq = seq; held = held }) was ∙ (ap (λ (b : Bool). record (get_or old i e) { seq = seq; held = b }) mark ∙ ap (λ (n : ℕ). record (get_or old i e) { seq = n; held = (get_or pending i q).held }) new))
    | inr other ↦ rw (get_or-set_other keys i j (record key { seq = seq; held = held }) e other) (before.below j q e (grind (arith, less, other)) there)
  ];
  above = λ j e from. get_or-set_other keys i j (record key { seq = seq; held = held }) e (λ same. omega (arith, same, from)) ∙ before.above j e (omega (arith, from));
}

-- the banks of keys stand in a table of 64
pub key_within : (pending : List Pending) (keys : List Key) (i : ℕ) (k : Key) → AreKeys pending keys → slice_get keys i ≡ Some k → k.bank < 64
key_within pending keys i k are at =
    let (p, here) = something_at pending i (omega (arith, slice_get_within keys i k at, are.size)) in
    let own = (key_there pending keys i p k are here).bank in
    let same = ap (λ (x : Key). x.bank) (get_or_from_slice_get keys i k k at) in
    omega (arith, own, same)

pub keys_within : (pending : List Pending) (keys : List Key) → AreKeys pending keys → All (λ key. key.bank < 64) keys
keys_within pending keys are i d within = key_within pending keys i (get_or keys i d) are (slice_get-get_or keys i d within)

pub marked_within : (pending : List Pending) (old new : List Key) (marked : Option Key) → AreKeys pending old → IsMarked old marked new → IfSome marked (λ key. key.bank < 64)
marked_within pending old new None are is = tt
marked_within pending old new (Some key) are (i, k, at, own, set) = let small = key_within pending old i k are at in omega (arith, small, ap (λ (x : Key). x.bank) own)
