-- What an opening finds.
use Rattle.std.proofs.Common.{◌≡◌, ◌≢◌, ◌⊎◌, ⊎_elim, inl, inr, ℕ, ◌+◌, ◌-◌, ◌*◌, ◌<◌, ◌≤◌, Bool, true, false, List, length, take, drop, get_or, length-drop, sym, ◌∙◌, ap, subst, arith}
use Rattle.std.specs.Prelude.{◌==◌, IsTrue, if◌then◌else◌, nat_lt, not, slice_range}
use Rattle.std.proofs.lemmas.Bool.{and_from, and_left, and_right, cases_Bool, cases_lt, eq-eqb, eqb-false, eqb-true, le-ltb, lt-ltb, ne_eqb, not_from_false, not_from_true}
use Rattle.std.proofs.lemmas.Grind.{same_number_lists}
use Rattle.std.proofs.lemmas.List.{get_or-drop, get_or-take, get_or_past, length-take-le}
use Rattle.save_device.specs.Device.{Moment}
use Rattle.save_device.specs.Rows.{overwritten, DiffersOnlyAt}
use Rattle.save_device.proofs.Rows.{holds-after, holds-before, holds-length, holds-within}
use Rattle.sector_device.specs.Sectors.{IsInSector}
use Rattle.sector_device.specs.Spare.{found_in, is_open, spare_content, spare_number}
use Rattle.sector_device.specs.Backing.{FindsLeft, HasSectors}

-- a part of a row
pub length-part : (row : List ℕ) (from to : ℕ) → to ≤ length row → length (slice_range row from to) ≡ to - from
length-part row from to fits = length-take-le (to - from) (drop from row) (omega (arith, length-drop from row, fits))

pub part_at : (row : List ℕ) (from to k : ℕ) → from + k < to → get_or (slice_range row from to) k 0 ≡ get_or row (from + k) 0
part_at row from to k less = get_or-take (to - from) (drop from row) k 0 (omega (arith, less)) ∙ get_or-drop from row k 0

pub same_part : (a b : List ℕ) (from to : ℕ) → to ≤ length a → to ≤ length b → ((k : ℕ) → from ≤ k → k < to → get_or a k 0 ≡ get_or b k 0) → slice_range a from to ≡ slice_range b from to
same_part a b from to fits room same =
    let long = length-part a from to fits in
    same_number_lists (slice_range a from to) (slice_range b from to) (long ∙ sym (length-part b from to room))
    (λ k less. let within : from + k < to = omega (arith, less, long) in part_at a from to k within ∙ same (from + k) (omega arith) within ∙ sym (part_at b from to k within))

-- where the gate is shut, and where it is opened for no sector of the device, the device's own bytes are found
pub found_own : (size : ℕ) (bytes : List ℕ) → is_open size bytes ≡ false → found_in size bytes ≡ take size bytes
found_own size bytes not_so = ap (λ (opened : Bool). if opened then overwritten (take size bytes) (512 * spare_number size bytes) (spare_content size bytes) else take size bytes) not_so

pub found_shut : (size : ℕ) (bytes : List ℕ) → get_or bytes (size + 1024) 0 ≡ 0 → found_in size bytes ≡ take size bytes
found_shut size bytes shut =
    found_own size bytes (and_left (not (get_or bytes (size + 1024) 0 == 0)) (nat_lt (512 * spare_number size bytes) size) (not_from_true (get_or bytes (size + 1024) 0 == 0) (eq-eqb (get_or bytes (size + 1024) 0) 0 shut)))

pub found_none : (size : ℕ) (bytes : List ℕ) → size ≤ 512 * spare_number size bytes → found_in size bytes ≡ take size bytes
found_none size bytes none =
    found_own size bytes (and_right (not (get_or bytes (size + 1024) 0 == 0)) (nat_lt (512 * spare_number size bytes) size) (le-ltb (512 * spare_number size bytes) size none))

pub found_open : (size : ℕ) (bytes : List ℕ) → get_or bytes (size + 1024) 0 ≢ 0 → 512 * spare_number size bytes < size
    → found_in size bytes ≡ overwritten (take size bytes) (512 * spare_number size bytes) (spare_content size bytes)
found_open size bytes opened less =
    let yes : is_open size bytes ≡ true = and_from (not (get_or bytes (size + 1024) 0 == 0)) (nat_lt (512 * spare_number size bytes) size)
    (not_from_false (get_or bytes (size + 1024) 0 == 0) (ne_eqb (get_or bytes (size + 1024) 0) 0 opened)) (lt-ltb (512 * spare_number size bytes) size less) in
    ap (λ (opened : Bool). if opened then overwritten (take size bytes) (512 * spare_number size bytes) (spare_content size bytes) else take size bytes) yes

module _ (moment : Moment) where
  abbrev pub size : ℕ
  size = length moment.bytes

  -- a row whose first bytes are the device's settled ones
  pub settled_row : (places : ℕ → Type 0) (row : List ℕ) → size ≤ length row → ((k : ℕ) → k < size → ¬ places k → get_or row k 0 ≡ get_or moment.bytes k 0) → DiffersOnlyAt places moment.bytes (take size row)
  settled_row places row fits same =
      let long = length-take-le size row fits in
      record {
        size = long;
        outside = λ place out. elim (cases_lt place size) [
          | inl less ↦ get_or-take size row place 0 less ∙ same place less out
          | inr past ↦ get_or_past (take size row) place 0 (omega (arith, long, past)) ∙ sym (get_or_past moment.bytes place 0 past)
        ];
      }

  pub finds_own : (image : List ℕ) → size ≤ length image → found_in size image ≡ take size image → ((k : ℕ) → k < size → ¬ IsTrue (moment.unsettled k) → get_or image k 0 ≡ get_or moment.bytes k 0)
      → FindsLeft moment image
  finds_own image fits own same =
      subst (λ (row : List ℕ). DiffersOnlyAt (λ place. IsTrue (moment.unsettled place)) moment.bytes row) (sym own) (settled_row (λ place. IsTrue (moment.unsettled place)) image fits same)

  pub finds_held : (number : ℕ) (image : List ℕ) → length image ≡ size + 1536 → get_or image (size + 1024) 0 ≢ 0 → 512 * number + 512 ≤ size → spare_number size image ≡ number
      → ((k : ℕ) → k < 512 → ¬ IsTrue (moment.unsettled (512 * number + k)) → get_or image (size + k) 0 ≡ get_or moment.bytes (512 * number + k) 0)
      → ((k : ℕ) → k < size → ¬ IsTrue (moment.unsettled k) → ¬ IsInSector number k → get_or image k 0 ≡ get_or moment.bytes k 0) → FindsLeft moment image
  finds_held number image sized opened inside named content beside =
      let at = 512 * number in let own : List ℕ = take size image in let spare : List ℕ = spare_content size image in
      let found : found_in size image ≡ overwritten own at spare =
      found_open size image opened (subst (λ (k : ℕ). 512 * k < size) (sym named) (omega (arith, inside)))
      ∙ ap (λ (k : ℕ). overwritten own (512 * k) spare) named in
      let long : 512 ≡ length spare = sym (length-part image size (size + 512) (omega (arith, sized)) ∙ omega arith) in
      let own_long : length own ≡ size = length-take-le size image (omega (arith, sized)) in
      let room : at + 512 ≤ length own = omega (arith, own_long, inside) in
      let outer : (k : ℕ) → ¬ IsTrue (moment.unsettled k) → ¬ IsInSector number k → get_or own k 0 ≡ get_or moment.bytes k 0 =
      λ k still out. (settled_row (λ place. IsTrue (moment.unsettled place) ⊎ IsInSector number place) image (omega (arith, sized)) (λ k less out. beside k less (λ up. out (inl up)) (λ w. out (inr w)))).outside k
      (λ either. ⊎_elim still out either) in
      record {
        size = holds-length own (found_in size image) spare at 512 long room found ∙ own_long;
        outside = λ place still. elim (cases_lt place at) [
          | inl before ↦ holds-before own (found_in size image) spare at 512 long room found place 0 before ∙ outer place still (λ w. let bad : ⊥ = omega (arith, w.0, before) in bad)
          | inr least ↦ elim (cases_lt place (at + 512)) [
            | inl less ↦
                let k = place - at in let same : at + k ≡ place = omega (arith, least) in let low : k < 512 = omega (arith, least, less) in
                holds-within own (found_in size image) spare at 512 long room found place 0 least less ∙ part_at image size (size + 512) k (omega (arith, low))
                ∙ content k low (λ up. still (subst (λ (p : ℕ). IsTrue (moment.unsettled p)) same up)) ∙ ap (λ (p : ℕ). get_or moment.bytes p 0) same
            | inr after ↦ holds-after own (found_in size image) spare at 512 long room found place 0 after ∙ outer place still (λ w. let bad : ⊥ = omega (arith, w.1, after) in bad)
          ]
        ];
      }

  -- whether the gate is found shut or not
  pub finds_either : (number : ℕ) (image : List ℕ) → HasSectors size → length image ≡ size + 1536 → spare_number size image ≡ number
      → ((k : ℕ) → k < 512 → 512 * number + k < size → ¬ IsTrue (moment.unsettled (512 * number + k)) → get_or image (size + k) 0 ≡ get_or moment.bytes (512 * number + k) 0)
      → ((k : ℕ) → k < size → ¬ IsTrue (moment.unsettled k) → get_or image k 0 ≡ get_or moment.bytes k 0) → FindsLeft moment image
  finds_either number image sectors sized named content same = elim (cases_Bool (get_or image (size + 1024) 0 == 0)) [
    | inl shut ↦ finds_own image (omega (arith, sized)) (found_shut size image (eqb-true (get_or image (size + 1024) 0) 0 shut)) same
    | inr opened ↦ elim (cases_lt (512 * number) size) [
      | inl less ↦
          let inside : 512 * number + 512 ≤ size = omega (arith, less, sectors) in
          finds_held number image sized (eqb-false (get_or image (size + 1024) 0) 0 opened) inside named (λ k low still. content k low (omega (arith, low, inside)) still) (λ k less still out. same k less still)
      | inr past ↦ finds_own image (omega (arith, sized)) (found_none size image (subst (λ (k : ℕ). size ≤ 512 * k) (sym named) past)) same
    ]
  ]
