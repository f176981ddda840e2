-- Keys and the requests whose keys they are.
use Rattle.std.proofs.Common.{◌≡◌, ◌≢◌, ℕ, ◌<◌, List, IsTrue, false, Option, None, Some, refl, sym, subst, ap, ◌∙◌, arith, length, map, get_or}
use Rattle.std.proofs.lemmas.List.{get_or-map, length-map}
use Rattle.std.proofs.lemmas.Option.{get_or_from_slice_get, slice_get_within}
use Rattle.ddr4_timing.proofs.Addresses.{same_address}
use Rattle.frfcfs.specs.NotedLook.{address_of}
use Rattle.request_notes.specs.Notes.{IsOfBank, SeqsRise}
use Rattle.frfcfs.proofs.Common.{AreInOrder, AreKeys, AreKeysIn, Geometry, IsEligible, IsKeyOf, IsSmall, Key, LiesIn, Pending, bank_at, bank_index}
use Rattle.frfcfs.proofs.KeyLemmas.{key_index, key_there}
use Rattle.frfcfs.proofs.Lists.{order_at, something_at}

-- keys and their requests

-- an eligible request has a key that says so
pub free_key : (g : Geometry) (pending : List Pending) (keys : List Key) (i : ℕ) (p : Pending) → IsSmall g → AreKeysIn g pending keys → IsEligible pending i p → (k : Key) × IsOfBank keys (bank_index (bank_at p.place)) k × IsKeyOf p k × LiesIn g p.place
free_key g pending keys i p small are el =
    let within : i < length keys = omega (arith, slice_get_within pending i p el.here, are.keyed.size) in
    let (k, at) = something_at keys i within in
    let own : get_or keys i k ≡ k = get_or_from_slice_get keys i k k at in
    let is : IsKeyOf p k = subst (λ (x : Key). IsKeyOf p x) own (key_there pending keys i p k are.keyed el.here) in
    let mark = are.marks i p (omega (arith, within, length-map keys (λ (x : Key). x.first))) el.here in
    let first : IsTrue k.first = ap (λ (x : Key). x.first) (sym own) ∙ (sym (get_or-map (λ (x : Key). x.first) keys i k false within) ∙ mark.1.1 el.oldest) in
    (k, ((i, within, own), (first, is.held ∙ el.free), key_index g p k small mark.0 is), is, mark.0)

-- and the request of a key that says so is eligible, and stands where the key does
pub request_of : (g : Geometry) (pending : List Pending) (keys : List Key) (bank : ℕ) (k : Key) → IsSmall g → AreKeysIn g pending keys → (h : IsOfBank keys bank k) → (p : Pending) × IsEligible pending h.0.0 p × IsKeyOf p k × LiesIn g p.place × (bank_index (bank_at p.place) ≡ bank)
request_of g pending keys bank k small are h =
    let i = h.0.0 in
    let within : i < length keys = h.0.1 in
    let (p, at) = something_at pending i (omega (arith, within, are.keyed.size)) in
    let is : IsKeyOf p k = subst (λ (x : Key). IsKeyOf p x) h.0.2 (key_there pending keys i p k are.keyed at) in
    let mark = are.marks i p (omega (arith, within, length-map keys (λ (x : Key). x.first))) at in
    let first : IsTrue (get_or (map (λ (x : Key). x.first) keys) i false) = get_or-map (λ (x : Key). x.first) keys i k false within ∙ (ap (λ (x : Key). x.first) h.0.2 ∙ h.1.0) in
    (p, record { here = at; free = sym is.held ∙ h.1.1; oldest = mark.1.0 first }, is, mark.0, sym (key_index g p k small mark.0 is) ∙ h.2)

pub key_free : (g : Geometry) (pending : List Pending) (keys : List Key) (bank : ℕ) (k : Key) → IsSmall g → AreKeysIn g pending keys → IsOfBank keys bank k → (i : ℕ) × (p : Pending) × IsEligible pending i p × IsKeyOf p k × LiesIn g p.place × (bank_index (bank_at p.place) ≡ bank)
key_free g pending keys bank k small are h = let (p, el, is, lies, at) = request_of g pending keys bank k small are h in (h.0.0, p, el, is, lies, at)

-- the seqs of keys rise as those of their requests
pub keys_rise : (pending : List Pending) (keys : List Key) → AreInOrder pending → AreKeys pending keys → SeqsRise keys
keys_rise pending keys order are i j k m less at there =
    let (p, here) = something_at pending i (omega (arith, slice_get_within keys i k at, are.size)) in
    let (q, behind) = something_at pending j (omega (arith, slice_get_within keys j m there, are.size)) in
    let one = (key_there pending keys i p k are here).seq in
    let two = (key_there pending keys j q m are behind).seq in
    let own = ap (λ (x : Key). x.seq) (get_or_from_slice_get keys i k k at) in
    let other = ap (λ (x : Key). x.seq) (get_or_from_slice_get keys j m m there) in
    omega (arith, order_at pending i j p q order here behind less, one, two, own, other)

-- the number of a bank

pub at_number : (g : Geometry) (p : Pending) (n : ℕ) → IsSmall g → LiesIn g p.place → bank_index (bank_at p.place) ≡ n → address_of n ≡ bank_at p.place
at_number g p n small lies is =
    same_address (address_of n) (bank_at p.place) (omega (arith, is, lies.rank, lies.group, lies.bank, small.groups, small.banks)) (omega (arith, is, lies.rank, lies.group, lies.bank, small.groups, small.banks))
    (omega (arith, is, lies.rank, lies.group, lies.bank, small.groups, small.banks))

-- a seq that is noted
pub some_seq : (seq : Option ℕ) → seq ≢ None → (n : ℕ) × (seq ≡ Some n)
some_seq None some = absurd (some refl)
some_seq (Some n) some = (n, refl)
