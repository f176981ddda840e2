-- What an opening makes of a file.
use Rattle.std.proofs.Common.{◌≡◌, ◌≢◌, inl, inr, ℕ, ◌+◌, ◌-◌, ◌*◌, ◌<◌, ◌≤◌, Bool, true, false, List, ◌++◌, length, take, get_or, length-append, refl, sym, ◌∙◌, ap, ap₂, subst, arith, drop, length-drop, Option, Some, None}
use Rattle.std.specs.Prelude.{◌==◌, ◌&&◌, IfSome, IsNone, if◌then◌else◌, nat_lt, not}
use Rattle.std.proofs.lemmas.Bool.{cases_lt, eq-eqb, ltb-false, ne_eqb, not_from_false, not_from_true, and_left}
use Rattle.std.proofs.lemmas.List.{append-nil, drop_all, get_or-take, length-take-le, take-append-le, take_all}
use borrow.Rule.Slice.PartMut.{put_mid}
use Rattle.save_device.specs.Device.{Moment}
use Rattle.save_device.specs.Rows.{overwritten}
use Rattle.save_device.proofs.Rows.{holds-after, holds-before, holds-within}
use Rattle.file_device.specs.Kept.{Kept, IsAtRest}
use Rattle.sector_device.specs.declared.device.Gate.{Gate}
use Rattle.sector_device.specs.declared.device.Gate.TheVariants.{Shut, Ajar, Open}
use Rattle.sector_device.specs.Sectors.{IsOnDisk}
use Rattle.sector_device.specs.Spare.{found_in, is_open, spare_content, spare_number}
use Rattle.sector_device.specs.Backing.{IsAjar, IsForSector, IsFoundGate, IsOpenFor, IsShut, Stands}
use Rattle.sector_device.proofs.Finding.{found_own, found_shut, length-part, part_at}
use Rattle.sector_device.proofs.Steps.{stands_ajar, stands_open, stands_shut}

-- an open gate isn't shut
pub open_gate : (size : ℕ) (bytes : List ℕ) → is_open size bytes ≡ true → get_or bytes (size + 1024) 0 ≢ 0
open_gate size bytes so shut =
    let shut_so : is_open size bytes ≡ false = and_left (not (get_or bytes (size + 1024) 0 == 0)) (nat_lt (512 * spare_number size bytes) size)
    (not_from_true (get_or bytes (size + 1024) 0 == 0) (eq-eqb (get_or bytes (size + 1024) 0) 0 shut)) in
    let bad : true ≡ false = sym so ∙ shut_so in let never : ⊥ = cc in never

-- where the gate isn't shut and no sector is to be put back, the number is of none
idle_number : (x y : Bool) → (x && y) ≡ false → x ≡ true → y ≡ false
idle_number true y none is = none
idle_number false y none is = let bad : ⊥ = cc in absurd bad

-- what is found where the gate is open for this sector
found_held : (size number : ℕ) (bytes : List ℕ) → is_open size bytes ≡ true → number ≡ spare_number size bytes
    → found_in size bytes ≡ overwritten (take size bytes) (512 * number) (spare_content size bytes)
found_held size number bytes so is =
    ap (λ (opened : Bool). if opened then overwritten (take size bytes) (512 * spare_number size bytes) (spare_content size bytes) else take size bytes) so
    ∙ ap (λ (k : ℕ). overwritten (take size bytes) (512 * k) (spare_content size bytes)) (sym is)

module _ (moment : Moment) (kept : Kept) (rest : IsAtRest kept) (long : length kept.bytes ≡ length moment.bytes + 1536) (is : moment.bytes ≡ found_in (length moment.bytes) kept.bytes) where
  abbrev size : ℕ
  size = length moment.bytes

  there : (place byte : ℕ) → get_or kept.bytes place 0 ≡ byte → IsOnDisk kept place byte
  there place byte has = record { settled = rest.settled place; put = record { fresh = rest.fresh place; is = has } }

  own_there : moment.bytes ≡ take size kept.bytes → (place : ℕ) → place < size → IsOnDisk kept place (get_or moment.bytes place 0)
  own_there own place less = there place (get_or moment.bytes place 0) (sym (ap (λ (row : List ℕ). get_or row place 0) own ∙ get_or-take size kept.bytes place 0 less))

  -- the gate is open for a sector
  pub opened_held : (number : ℕ) → is_open size kept.bytes ≡ true → number ≡ spare_number size kept.bytes → 512 * number + 512 ≤ size → IsOpenFor number moment kept
  opened_held number so named inside =
      let at = 512 * number in let own : List ℕ = take size kept.bytes in let content : List ℕ = spare_content size kept.bytes in
      let now : moment.bytes ≡ overwritten own at content = is ∙ found_held size number kept.bytes so named in
      let width : length content ≡ 512 = length-part kept.bytes size (size + 512) (omega (arith, long)) ∙ omega arith in
      let own_long : length own ≡ size = length-take-le size kept.bytes (omega (arith, long)) in
      let fits : at + 512 ≤ length own = omega (arith, own_long, inside) in
      record {
        size = long;
        inside = inside;
        opens = open_gate size kept.bytes so;
        gate = there (size + 1024) (get_or kept.bytes (size + 1024) 0) refl;
        holds = record {
          rests = λ place w. there place (get_or kept.bytes place 0) refl;
          number_is = sym named;
          content = λ k low less still.
              let same : at + k - at ≡ k = omega arith in
              sym (holds-within own moment.bytes content at 512 (sym width) fits now (at + k) 0 (omega arith) (omega (arith, low)) ∙ ap (λ (i : ℕ). get_or content i 0) same
              ∙ part_at kept.bytes size (size + 512) k (omega (arith, low)));
        };
        beside = λ place out less still. there place (get_or moment.bytes place 0) (sym (elim (cases_lt place at) [
          | inl before ↦ holds-before own moment.bytes content at 512 (sym width) fits now place 0 before ∙ get_or-take size kept.bytes place 0 less
          | inr least ↦ elim (cases_lt place (at + 512)) [
            | inl high ↦ absurd (out (least, high))
            | inr after ↦ holds-after own moment.bytes content at 512 (sym width) fits now place 0 after ∙ get_or-take size kept.bytes place 0 less
          ]
        ]));
      }

  -- it isn't shut, and open for none
  pub opened_idle : get_or kept.bytes (size + 1024) 0 ≢ 0 → is_open size kept.bytes ≡ false → IsAjar moment kept
  opened_idle ajar none =
      let past : size ≤ 512 * spare_number size kept.bytes = ltb-false (512 * spare_number size kept.bytes) size
      (idle_number (not (get_or kept.bytes (size + 1024) 0 == 0)) (nat_lt (512 * spare_number size kept.bytes) size) none
      (not_from_false (get_or kept.bytes (size + 1024) 0 == 0) (ne_eqb (get_or kept.bytes (size + 1024) 0) 0 ajar))) in
      record {
        size = long;
        holds = record {
          rests = λ place w. there place (get_or kept.bytes place 0) refl;
          number_is = refl;
          content = λ k low less still. let bad : ⊥ = omega (arith, less, past) in absurd bad;
        };
        settled = λ place less still. own_there (is ∙ found_own size kept.bytes none) place less;
      }

  -- it is shut
  pub opened_shut : get_or kept.bytes (size + 1024) 0 ≡ 0 → IsShut moment kept
  opened_shut shut = record {
    size = long;
    gate = there (size + 1024) 0 shut;
    settled = λ place less still. own_there (is ∙ found_shut size kept.bytes shut) place less;
  }

  -- however it stands
  pub opened_stands : (held : Option ℕ) (gate : Gate) → IfSome held (λ number. (is_open size kept.bytes ≡ true) × (number ≡ spare_number size kept.bytes))
      → (IsNone held → is_open size kept.bytes ≡ false) → IfSome held (λ number. 512 * number + 512 ≤ size) → IsFoundGate size kept.bytes held gate → Stands gate moment kept
  opened_stands (Some number) gate some none inside finds = subst (λ (g : Gate). Stands g moment kept) (sym finds) (stands_open number moment kept (opened_held number some.0 some.1 inside))
  opened_stands None Shut some none inside finds = stands_shut moment kept (opened_shut finds)
  opened_stands None Ajar some none inside finds = stands_ajar moment kept (opened_idle finds (none refl))
  opened_stands None (Open number) some none inside finds = absurd finds

pub found_sector : (n : ℕ) (bytes : List ℕ) (held : Option ℕ) (gate : Gate) → IfSome held (λ number. 512 * number + 512 ≤ n) → IsFoundGate n bytes held gate → IsForSector gate n
found_sector n bytes (Some number) gate inside finds other is = let opened : Open number ≡ Open other = sym finds ∙ is in let same : number ≡ other = cc in subst (λ (k : ℕ). 512 * k + 512 ≤ n) same inside
found_sector n bytes None Shut inside finds other is = absurd (let none : ⊥ = cc in none)
found_sector n bytes None Ajar inside finds other is = absurd (let none : ⊥ = cc in none)
found_sector n bytes None (Open number) inside finds other is = absurd finds

-- the first part of two
pub first_part : (a b : List ℕ) (n : ℕ) → length a ≡ n → take n (a ++ b) ≡ a
first_part a b n long = take-append-le n a b (omega (arith, long)) ∙ ap (λ (k : ℕ). take k a) (sym long) ∙ take_all (length a) a (omega arith)

-- two parts that fill a row
pub spared : (sector zeros word : List ℕ) → length sector ≡ 512 → length zeros ≡ 8 → put_mid 512 8 (sector ++ zeros) word ≡ sector ++ word
spared sector zeros word long eight =
    ap₂ (λ (u v : List ℕ). u ++ (word ++ v)) (first_part sector zeros 512 long) (drop_all 8 (drop 512 (sector ++ zeros)) (omega (arith, length-drop 512 (sector ++ zeros), length-append sector zeros, long, eight)))
    ∙ ap (λ (l : List ℕ). sector ++ l) (append-nil word)
