-- Which slot's image two readings pick.
use Rattle.std.proofs.Common.{if◌then◌else◌}
use Rattle.slot_store.specs.Outcomes.{restored}
use Rattle.slot_store.specs.Told.{IsChosen, IsFailure, IsHeadOf, image_of_head, NamesOutcome, Refuses, memory_in, state_other}
use Rattle.slot_store.specs.declared.head.Head.{Head}
use Rattle.slot_store.specs.declared.restoring.RestoreError.TheVariants as errors
use Rattle.slot_store.proofs.Common.{ℕ, ◌∙◌, ◌≡◌, ◌≢◌, Bool, Err, First, Found, List, Ok, Outcome, RestoreError, Result, Second, Slot, SlotState, WrongSize, ap, body_in, chosen, device_size, is_closed, length, other, refl, slot_state, sym}
use Rattle.slot_store.proofs.Gates.{by_states, not_equal}

memory_of : (lines : ℕ) (slot : Slot) (bytes : List ℕ) → memory_in slot (body_in lines First bytes) (body_in lines Second bytes) ≡ body_in lines slot bytes
memory_of lines First bytes = refl
memory_of lines Second bytes = refl

other_of : (lines : ℕ) (slot : Slot) (bytes : List ℕ) (s t : SlotState) → slot_state lines First bytes ≡ s → slot_state lines Second bytes ≡ t → state_other slot s t ≡ slot_state lines (other slot) bytes
other_of lines First bytes s t p q = sym q
other_of lines Second bytes s t p q = sym p

pub refuses : (e : RestoreError) (o u : Outcome) → u ≡ o → NamesOutcome e o → Refuses e u
refuses errors.NoImage o u same n = same ∙ n
refuses (errors.Damaged slot) o u same n = same ∙ n
refuses errors.WrongSize o u same n = same ∙ n
refuses errors.Device o u same n = tt
refuses errors.Memory o u same n = tt

-- of the bytes of a device, the newest image's head or the error
abbrev pub IsNewestIn : Result Head RestoreError → ℕ → List ℕ → Type 0
IsNewestIn (Ok head) lines bytes =
    IsHeadOf head (body_in lines head.newest.slot bytes) (restored lines bytes) (slot_state lines (other head.newest.slot) bytes)
IsNewestIn (Err error) lines bytes = Refuses error (restored lines bytes)

pub picked : (r : Result Head RestoreError) (lines : ℕ) (bytes : List ℕ) (s t : SlotState) → length bytes ≡ device_size lines
    → slot_state lines First bytes ≡ s → slot_state lines Second bytes ≡ t → IsChosen r (body_in lines First bytes) (body_in lines Second bytes) s t → IsNewestIn r lines bytes
picked (Ok head) lines bytes s t size one two c = record {
  arm = c.arm;
  newest = by_states lines bytes s t size one two ∙ c.newest ∙ ap (λ (m : List (List ℕ)). Found head.newest.slot (image_of_head head c.arm m)) (memory_of lines head.newest.slot bytes);
  judged = c.judged;
  shut = c.shut ∙ ap is_closed (other_of lines head.newest.slot bytes s t one two);
}
picked (Err e) lines bytes s t size one two c = refuses e (chosen s t) (restored lines bytes) (by_states lines bytes s t size one two) c

pub wrong_size : (lines : ℕ) (bytes : List ℕ) → length bytes ≢ device_size lines → restored lines bytes ≡ WrongSize
unfolding restored
wrong_size lines bytes differ = ap (λ (b : Bool). if b then chosen (slot_state lines First bytes) (slot_state lines Second bytes) else WrongSize) (not_equal (length bytes) (device_size lines) differ)

pub failed : (e : RestoreError) (o : Outcome) → IsFailure e → Refuses e o
failed errors.NoImage o f = absurd f
failed (errors.Damaged slot) o f = absurd f
failed errors.WrongSize o f = absurd f
failed errors.Device o f = tt
failed errors.Memory o f = tt
