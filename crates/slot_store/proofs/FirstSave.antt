-- What stands while a store is made.
use Rattle.std.proofs.Common.{OnErr, OnOk}
use Rattle.std.proofs.lemmas.List.{drop-replicate, replicate-append-replicate, take-replicate}
use Rattle.std.specs.List.{concat}
use Rattle.std.specs.Prelude.{replicate}
use Rattle.line_memory.specs.Memory.{zero_line, zero_lines}
use Rattle.save_image.specs.Body.{page_of}
use Rattle.save_image.specs.declared.reading.Version.TheVariants.{Two}
use Rattle.slot_store.specs.Formatted.{HasShutGates, IsFormatted}
use Rattle.slot_store.specs.Outcomes.{first_image}
use Rattle.slot_store.proofs.Common.{[], ℕ, ◌*◌, ◌++◌, ◌+◌, ◌-◌, ◌<◌, ◌∙◌, ◌∷◌, ◌≡◌, ◌≤◌, Bool, DeviceState, DiffersOnlyAt, Done, Err, First, Full, GateShut, HasSize, Image, IsAtRestOn, IsInRange, IsMemory, IsSettled, List, Ok, Plan, Result, Second, Slot, SlotHas, ap, arith, arm_byte, device_size, differs_within, false, gate_of, get_or, holds-within, image_bytes, image_of, length, overwritten, refl, slice_index, slice_range, slot_size, slot_state, start_of, subst, suc, sym, take, true, zero, zero_lines-IsMemory}
use Rattle.slot_store.proofs.Gates.{closed_gate}
use Rattle.slot_store.proofs.ImageBytes.{written_bytes}
use Rattle.slot_store.proofs.Resting.{nothing, rest_alone}
use Rattle.slot_store.proofs.Torn.{holds_new}

-- the first image is planned, in the first slot
pub record IsFirstPlan (lines : ℕ) (plan : Plan) : Type 0 where
  pub slot : plan.slot ≡ First
  pub generation : plan.generation ≡ 1
  pub count : plan.count ≡ 0
  pub clear : plan.armed ≡ false
  pub lines_are : plan.lines ≡ lines

-- the second slot's gate is closed, and its rest is as it was
pub record KeepsSecond (lines : ℕ) (old new : List ℕ) : Type 0 where
  pub size : length new ≡ length old
  pub shut : slice_index new (slot_size lines) ≡ 0
  pub rest : (k : ℕ) → slot_size lines < k → slice_index new k ≡ slice_index old k

concat_zeros : (m : ℕ) → concat (replicate m zero_line) ≡ replicate (64 * m) 0
unfolding zero_line
concat_zeros zero = refl
concat_zeros (suc m) =
    ap (λ (bytes : List ℕ). zero_line ++ bytes) (concat_zeros m) ∙ replicate-append-replicate 64 (64 * m) 0
    ∙ ap (λ (n : ℕ). replicate n 0) (let e : 64 + 64 * m ≡ 64 * suc m = omega arith in e)

-- what closing both gates keeps of the second slot
pub gates_keep : (lines : ℕ) (old new : List ℕ) → HasShutGates lines old new → KeepsSecond lines old new
gates_keep lines old new gates = record { size = gates.size; shut = gates.second; rest = λ k less. gates.rest k (λ e. omega (arith, e, less)) (λ e. omega (arith, e, less)) }

-- any page of a memory of zero lines
pub page_of-zero_lines : (k lines : ℕ) → 64 * (k + 1) ≤ lines → page_of k (zero_lines lines) ≡ replicate 4096 0
unfolding zero_lines
page_of-zero_lines k lines within =
    ap (λ (rest : List (List ℕ)). concat (take 64 rest)) (drop-replicate (64 * k) lines zero_line)
    ∙ ap concat (take-replicate 64 (lines - 64 * k) zero_line (omega arith)) ∙ concat_zeros 64

module _ (lines : ℕ) (plan : Plan) (is : IsFirstPlan lines plan) where
  gate_is : gate_of plan ≡ 0
  gate_is = ap (start_of plan.lines) is.slot

  -- the first save leaves the second slot
  pub keeps_second : (old mid new : List ℕ) → DiffersOnlyAt (IsInRange (gate_of plan) (slot_size plan.lines)) mid new → KeepsSecond lines old mid → KeepsSecond lines old new
  keeps_second old mid new d keeps =
      let out : (k : ℕ) → slot_size lines ≤ k → IsInRange (gate_of plan) (slot_size plan.lines) k → ⊥ = λ k least w. omega (arith, w.1, gate_is, is.lines_are) in
      record {
        size = d.size ∙ keeps.size;
        shut = d.outside (slot_size lines) (out (slot_size lines) (omega arith)) ∙ keeps.shut;
        rest = λ k less. d.outside k (out k (omega arith)) ∙ keeps.rest k less;
      }

  -- behind gates that are closed and settled it may begin
  pub shut_first : (state : DeviceState) → slice_index state.bytes 0 ≡ 0 → IsSettled state → GateShut plan state
  shut_first state zero_at settled = record {
    shut = λ is_open. let wrong : 0xA5 ≡ 0 = sym is_open ∙ ap (λ (i : ℕ). slice_index state.bytes i) gate_is ∙ zero_at in absurd (omega (arith, wrong));
    fixed = settled (gate_of plan);
  }

  image_is : image_of plan (zero_lines lines) ≡ first_image lines
  image_is = let arm : arm_byte plan.armed ≡ 0 = ap arm_byte is.clear in let same : image_of plan (zero_lines lines) ≡ first_image lines = cc (is.generation, is.count) in same

  memory_is : IsMemory plan.lines (zero_lines lines)
  memory_is = subst (λ (n : ℕ). IsMemory n (zero_lines lines)) (sym is.lines_are) (zero_lines-IsMemory lines)

  module _ (tried : Bool) (old new : DeviceState) (size : HasSize lines old) (done : SlotHas plan (zero_lines lines) Done tried new) (keeps : KeepsSecond lines old.bytes new.bytes) where
    is_full : slot_state lines First new.bytes ≡ Full (first_image lines)
    is_full =
        let full : slot_state plan.lines plan.slot new.bytes ≡ Full (image_of plan (zero_lines lines)) = holds_new plan (zero_lines lines) new.bytes memory_is done.0 done.1.is_open in
        ap (λ (s : Slot). slot_state lines s new.bytes) (sym is.slot) ∙ ap (λ (n : ℕ). slot_state n plan.slot new.bytes) (sym is.lines_are) ∙ full ∙ ap (λ (i : Image). Full i) image_is

    pub formatted_rest : IsAtRestOn First (first_image lines) lines true new
    formatted_rest =
        rest_alone lines First (first_image lines) true new (keeps.size ∙ size) done.2 is_full
        (nothing refl (closed_gate lines Second new.bytes (λ e. let wrong : 0xA5 ≡ 0 = sym e ∙ keeps.shut in absurd (omega (arith, wrong)))))

    pub formatted_bytes : IsFormatted lines old.bytes new.bytes
    formatted_bytes = record {
      size = keeps.size;
      first =
          let bytes : slice_range new.bytes (gate_of plan) (gate_of plan + slot_size plan.lines) ≡ image_bytes plan.lines Two (image_of plan (zero_lines lines)) = written_bytes plan (zero_lines lines) new.bytes memory_is done.0 done.1.is_open (omega (arith, keeps.size, size, gate_is, is.lines_are)) in
          let start : gate_of plan + slot_size plan.lines ≡ slot_size lines = omega (arith, gate_is, is.lines_are) in
          ap (λ (to : ℕ). slice_range new.bytes 0 to) (sym start) ∙ ap (λ (from : ℕ). slice_range new.bytes from (gate_of plan + slot_size plan.lines)) (sym gate_is) ∙ bytes
          ∙ ap (λ (n : ℕ). image_bytes n Two (image_of plan (zero_lines lines))) is.lines_are ∙ ap (image_bytes lines Two) image_is;
      second = keeps.shut;
      rest = keeps.rest;
    }

-- both gates after they were closed
pub both_shut : (lines : ℕ) (old one two : List ℕ) → length old ≡ device_size lines → one ≡ overwritten old 0 (0 ∷ []) → two ≡ overwritten one (slot_size lines) (0 ∷ []) → HasShutGates lines old two
both_shut lines old one two size first second =
    let d1 = differs_within old one (0 ∷ []) 0 (omega (arith, size)) first in
    let d2 = differs_within one two (0 ∷ []) (slot_size lines) (omega (arith, d1.size, size)) second in
    let gate : slot_size lines - slot_size lines ≡ 0 = omega arith in
    record {
      size = d2.size ∙ d1.size;
      first = d2.outside 0 (λ w. omega (arith, w.0)) ∙ holds-within old one (0 ∷ []) 0 1 refl (omega (arith, size)) first 0 0 (omega arith) (omega arith);
      second = holds-within one two (0 ∷ []) (slot_size lines) 1 refl (omega (arith, d1.size, size)) second (slot_size lines) 0 (omega arith) (omega arith) ∙ ap (λ (i : ℕ). get_or (0 ∷ []) i 0) gate;
      rest = λ k other_first other_second. d2.outside k (λ w. other_second (omega (arith, w.0, w.1))) ∙ d1.outside k (λ w. other_first (omega (arith, w.0, w.1)));
    }

pub on_any_err : {T E : Type 0} (r : Result T E) (P : Type 0) → P → OnErr r P
on_any_err (Ok v) P p = tt
on_any_err (Err e) P p = p

pub on_any_ok : {T E : Type 0} (r : Result T E) (P : Type 0) → P → OnOk r P
on_any_ok (Ok v) P p = p
on_any_ok (Err e) P p = tt
