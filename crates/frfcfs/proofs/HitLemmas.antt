-- The table of banks whose open row is hit, one request at a time.
use Rattle.std.proofs.Common.{◌≡◌, ℕ, ◌+◌, ◌<◌, ◌↔◌, List, Some, Bool, true, false, inl, inr, arith, ap, ◌∙◌, refl, sym, subst, get_or, set, length, get_or-set_other, get_or-set_same, IsTrue, replicate, slice_get}
use Rattle.std.proofs.lemmas.Bool.{cases_eq, cases_lt}
use Rattle.std.proofs.lemmas.List.{get_or-replicate}
use Rattle.std.proofs.lemmas.Option.{slice_get_within, slice_get-get_or}
use Rattle.frfcfs.proofs.Common.{AreHits, BankAddress, Geometry, HasBank, IsEligible, IsSmall, IsUnhit, Pending, Stamped, bank_at, bank_index, open_row}
use Rattle.ddr4_timing.proofs.Addresses.{has_slot, same_slot, slot_small}
use Rattle.frfcfs.proofs.Lists.{one_at, something_at}

pub one_bank : (g : Geometry) (a b : BankAddress) → IsSmall g → HasBank g a → HasBank g b → bank_index a ≡ bank_index b → a ≡ b
one_bank g a b small ha hb e =
    let sa = has_slot g a small ha in
    let sb = has_slot g b small hb in
    same_slot a b sa sb (omega (arith, slot_small a sa, slot_small b sb, e)) (omega (arith, slot_small a sa, slot_small b sb, e))

pub index_small : (g : Geometry) (a : BankAddress) → IsSmall g → HasBank g a → bank_index a < 64
index_small g a small h = let r = small.ranks in let gs = small.groups in let bs = small.banks in omega (arith, r, gs, bs, h.rank, h.group, h.bank)

-- what a flag says of the places before an index, where one more is looked at

pub kept_flag : (P : ℕ → Type 0) (before after : Bool) (i : ℕ) → after ≡ before → ¬ P i → (IsTrue before ↔ ((k : ℕ) × (k < i) × P k)) → (IsTrue after ↔ ((k : ℕ) × (k < i + 1) × P k))
kept_flag P before after i is never seen = rw is (
  λ t. let (k, l, p) = seen.0 t in (k, omega (arith, l), p),
  λ h. elim (cases_lt h.0 i) [
    | inl l ↦ seen.1 (h.0, l, h.2)
    | inr g ↦ absurd (never (subst P (omega (arith, h.1, g)) h.2))
  ],
)

pub set_flag : (P : ℕ → Type 0) (after : Bool) (i : ℕ) → after ≡ true → P i → (IsTrue after ↔ ((k : ℕ) × (k < i + 1) × P k))
set_flag P after i is here = (λ _. (i, omega arith, here), λ _. is)

-- the request at a place is eligible, and hits the bank
abbrev pub HitsAt : List Stamped → List Pending → BankAddress → ℕ → Type 0
HitsAt list pending bank i = (q : Pending) × IsEligible pending i q × (bank_at q.place ≡ bank) × (open_row bank list ≡ Some q.place.row)

-- it is eligible, and the geometry has its bank
abbrev pub WaitsAt : Geometry → List Pending → ℕ → Type 0
WaitsAt g pending i = (p : Pending) × IsEligible pending i p × HasBank g (bank_at p.place)

-- the flags of the banks say which of them a request before a place hits
abbrev pub AreFlags : Geometry → List Stamped → List Pending → ℕ → List Bool → Type 0
AreFlags g list pending end flags = (bank : BankAddress) → HasBank g bank → (IsTrue (get_or flags (bank_index bank) false) ↔ ((k : ℕ) × (k < end) × HitsAt list pending bank k))

pub flags_none : (g : Geometry) (list : List Stamped) (pending : List Pending) → IsSmall g → AreFlags g list pending 0 (replicate 64 false)
flags_none g list pending small bank has = (λ e. absurd (cc (e, get_or-replicate 64 (bank_index bank) false false (index_small g bank small has))), λ h. absurd (omega (arith, h.1)))

pub flags_kept : (g : Geometry) (list : List Stamped) (pending : List Pending) (flags after : List Bool) (i : ℕ) → after ≡ flags → ((bank : BankAddress) → HasBank g bank → ¬ HitsAt list pending bank i) →
    AreFlags g list pending i flags → AreFlags g list pending (i + 1) after
flags_kept g list pending flags after i is never before bank has = kept_flag (HitsAt list pending bank) _ _ i (ap (λ x. get_or x (bank_index bank) false) is) (never bank has) (before bank has)

-- at the end
pub flags_hits : (g : Geometry) (list : List Stamped) (pending : List Pending) (end : ℕ) (flags : List Bool) → AreFlags g list pending end flags → AreHits g list pending end flags
flags_hits g list pending end flags are bank has = (
  λ t. let (k, l, h) = (are bank has).0 t in (k, h.0, l, h.1, h.2, h.3),
  λ h. (are bank has).1 (h.0, h.2, (h.1, h.3, h.4, h.5)),
)

-- a bank whose flag is clear has no hit
pub clear_unhit : (g : Geometry) (list : List Stamped) (pending : List Pending) (hits : List Bool) (bank : BankAddress) → AreHits g list pending (length pending) hits → HasBank g bank → get_or hits (bank_index bank) false ≡ false → IsUnhit list pending bank
clear_unhit g list pending hits bank h has clear j q el same row = absurd (cc ((h bank has).1 (j, q, slice_get_within pending j q el.here, el, same, row), clear))

-- and one whose flag is set has one
pub set_hit : (g : Geometry) (list : List Stamped) (pending : List Pending) (hits : List Bool) (bank : BankAddress) → AreHits g list pending (length pending) hits → HasBank g bank → get_or hits (bank_index bank) false ≡ true → ¬ IsUnhit list pending bank
set_hit g list pending hits bank h has flag unhit = let e = (h bank has).0 flag in unhit e.0 e.1 e.3 e.4 e.5

-- what a look at the request at a place says
abbrev pub IsLook : Geometry → List Pending → ℕ → Bool → Type 0
IsLook g pending i b = (p : Pending) → slice_get pending i ≡ Some p → (IsTrue b ↔ (IsEligible pending i p × HasBank g (bank_at p.place)))

pub eligible_there : (g : Geometry) (pending : List Pending) (i : ℕ) (d : Pending) → i < length pending → IsLook g pending i true → IsEligible pending i (get_or pending i d) × HasBank g (bank_at (get_or pending i d).place)
eligible_there g pending i d within look = (look (get_or pending i d) (slice_get-get_or pending i d within)).0 refl

pub waits_there : (g : Geometry) (pending : List Pending) (i : ℕ) → i < length pending → IsLook g pending i true → WaitsAt g pending i
waits_there g pending i within look = let (p, at) = something_at pending i within in let (el, has) = (look p at).0 refl in (p, el, has)

pub none_waits : (g : Geometry) (pending : List Pending) (i : ℕ) → IsLook g pending i false → ¬ WaitsAt g pending i
none_waits g pending i look (p, el, has) = absurd (cc ((look p el.here).1 (el, has)))

-- after the look at one more request
pub flags_there : (g : Geometry) (list : List Stamped) (pending : List Pending) (flags after : List Bool) (i n : ℕ) (d : Pending) (bank : BankAddress) → IsSmall g → length flags ≡ 64 → i < length pending → IsLook g pending i true →
    after ≡ set flags n true → n ≡ bank_index bank → bank ≡ bank_at (get_or pending i d).place → (IsTrue true ↔ (open_row (bank_at (get_or pending i d).place) list ≡ Some (get_or pending i d).place.row)) →
    AreFlags g list pending i flags → AreFlags g list pending (i + 1) after
flags_there g list pending flags after i n d own small size within look is at named hit before bank has =
    let p = get_or pending i d in
    let (el, lies) = eligible_there g pending i d within look in
    let index : n ≡ bank_index (bank_at p.place) = at ∙ ap (λ (b : BankAddress). bank_index b) named in
    elim (cases_eq (bank_index bank) n) [
      | inl same ↦
          let here : bank_at p.place ≡ bank = one_bank g (bank_at p.place) bank small lies has (sym index ∙ sym same) in
          let flag = get_or-set_same flags n true false (let l = index_small g (bank_at p.place) small lies in omega (arith, size, index, l)) in
          set_flag (HitsAt list pending bank) _ i (rw (is, same) flag) (p, el, here, subst (λ (b : BankAddress). open_row b list ≡ Some p.place.row) here (hit.0 refl))
      | inr other ↦
          kept_flag (HitsAt list pending bank) _ _ i (rw is (get_or-set_other flags n (bank_index bank) true false other))
          (λ w. other (sym (index ∙ ap (λ (q : Pending). bank_index (bank_at q.place)) (one_at pending i i p w.0 el.here w.1.here refl) ∙ ap (λ (b : BankAddress). bank_index b) w.2))) (before bank has)
    ]

pub none_hits : (list : List Stamped) (pending : List Pending) (i : ℕ) (d : Pending) (bank : BankAddress) → i < length pending →
    (IsTrue false ↔ (open_row (bank_at (get_or pending i d).place) list ≡ Some (get_or pending i d).place.row)) → ¬ HitsAt list pending bank i
none_hits list pending i d bank within miss (q, el, at, row) =
    let e : q ≡ get_or pending i d = one_at pending i i q (get_or pending i d) el.here (slice_get-get_or pending i d within) refl in
    absurd (cc (miss.1 (rw (← e, at) row)))
