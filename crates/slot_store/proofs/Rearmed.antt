-- An image whose arm byte is written.
use Rattle.std.proofs.lemmas.Bool.{cases_eq}
use Rattle.save_image.specs.Header.{fields, header}
use Rattle.save_image.specs.Image.{image_bytes}
use Rattle.save_image.specs.declared.reading.Version.{Version}
use Rattle.slot_store.specs.Rest.{IsAtRestRearmed, with_any_arm}
use Rattle.slot_store.proofs.Common.{[], ℕ, ◌+◌, ◌-◌, ◌<◌, ◌∙◌, ◌∷◌, ◌≡◌, ◌≢◌, ◌≤◌, ◌⊎◌, Bool, DeviceState, DiffersOnlyAt, First, Found, Full, Image, IsAmong, IsAtRestOn, IsInRange, IsSettled, IsShut, IsTrue, LeavesOnly, List, Makes, MayLeave, Put, Second, Settle, Slot, and_then, ap, arith, device_size, differs_within, drop, false, get_or, get_or-drop, get_or-take, holds-within, inl, inr, is_closed, length, length-drop, length-take, other, overwritten, present, rearmed, refl, restored, same_number_lists, slice_index, slot_size, slot_state, start_of, suc, sym, take, true, within_call, zero, ⊎_elim}
use Rattle.slot_store.proofs.Gates.{the_newer}
use Rattle.slot_store.proofs.ImageBytes.{full_from_image, image_from_full}
use Rattle.slot_store.proofs.Resting.{Behind, alone_in, among_only, found_only, nothing, older, restored_finds}
use Rattle.slot_store.proofs.Same.{state_same}
use Rattle.slot_store.proofs.Stops.{more, within}

-- the place of the arm byte
abbrev arm_of : ℕ → Slot → ℕ
arm_of lines slot = start_of lines slot + 1

-- an image's bytes but for the arm byte
bytes_rearmed : (lines : ℕ) (version : Version) (image : Image) (arm k : ℕ) → k ≢ 1 → get_or (image_bytes lines version (rearmed image arm)) k 0 ≡ get_or (image_bytes lines version image) k 0
unfolding image_bytes header fields
bytes_rearmed lines version image arm zero differs = refl
bytes_rearmed lines version image arm (suc zero) differs = absurd (differs refl)
bytes_rearmed lines version image arm (suc (suc k)) differs = refl

byte_rearmed : (lines : ℕ) (version : Version) (image : Image) (arm : ℕ) → get_or (image_bytes lines version (rearmed image arm)) 1 0 ≡ arm
unfolding image_bytes header fields
byte_rearmed lines version image arm = refl

length_rearmed : (lines : ℕ) (version : Version) (image : Image) (arm : ℕ) → length (image_bytes lines version (rearmed image arm)) ≡ length (image_bytes lines version image)
unfolding image_bytes header fields
length_rearmed lines version image arm = refl

-- a slot whose arm byte was written
full_rearmed : (lines : ℕ) (slot : Slot) (old new : List ℕ) (image : Image) → length old ≡ device_size lines → slot_state lines slot old ≡ Full image
    → DiffersOnlyAt (λ k. k ≡ arm_of lines slot) old new → slot_state lines slot new ≡ Full (rearmed image (slice_index new (arm_of lines slot)))
full_rearmed lines slot old new image size full d =
    let start : ℕ = start_of lines slot in let arm : ℕ = slice_index new (arm_of lines slot) in let n : ℕ = start + slot_size lines - start in
    let was = image_from_full lines slot old image size full in let version : Version = was.1.0 in let bytes_are = was.1.1 in
    let fits = within lines slot in
    let long_old : length (take n (drop start old)) ≡ slot_size lines = omega (arith, length-take n (drop start old), length-drop start old, size, fits) in
    let long_new : length (take n (drop start new)) ≡ slot_size lines = omega (arith, length-take n (drop start new), length-drop start new, d.size, size, fits) in
    let long_image : length (image_bytes lines version (rearmed image arm)) ≡ slot_size lines = length_rearmed lines version image arm ∙ sym (ap length bytes_are) ∙ long_old in
    full_from_image lines slot new (rearmed image arm) (d.size ∙ size) (
      record { fits = was.0.fits; memory = was.0.memory },
      (
        version,
        same_number_lists (take n (drop start new)) (image_bytes lines version (rearmed image arm)) (long_new ∙ sym long_image) (λ k less.
            let small : k < n = omega (arith, long_new, less) in
            let here : get_or (take n (drop start new)) k 0 ≡ get_or new (start + k) 0 = get_or-take n (drop start new) k 0 small ∙ get_or-drop start new k 0 in
            let there : get_or (take n (drop start old)) k 0 ≡ get_or old (start + k) 0 = get_or-take n (drop start old) k 0 small ∙ get_or-drop start old k 0 in
            ⊎_elim
            (λ (at : k ≡ 1). here ∙ ap (λ (i : ℕ). get_or new (start + i) 0) at ∙ sym (byte_rearmed lines version image arm) ∙ ap (λ (i : ℕ). get_or (image_bytes lines version (rearmed image arm)) i 0) (sym at))
            (λ (off : k ≢ 1).
            here ∙ d.outside (start + k) (λ at. off (omega (arith, at))) ∙ sym there ∙ ap (λ (bytes : List ℕ). get_or bytes k 0) bytes_are ∙ sym (bytes_rearmed lines version image arm k off))
            (cases_eq k 1)),
      ),
    )

-- the arm byte isn't in the other slot
arm_apart : (lines : ℕ) (slot : Slot) (k : ℕ) → k ≡ arm_of lines slot → IsInRange (start_of lines (other slot)) (slot_size lines) k → ⊥
arm_apart lines First k at there = omega (arith, at, there.0, there.1)
arm_apart lines Second k at there = omega (arith, at, there.0, there.1)

-- what is found where the arm byte of the newest image was written
restored_rearmed : (lines : ℕ) (slot : Slot) (old new : List ℕ) (image : Image) → length old ≡ device_size lines → restored lines old ≡ Found slot image
    → DiffersOnlyAt (λ k. k ≡ arm_of lines slot) old new → restored lines new ≡ Found slot (rearmed image (slice_index new (arm_of lines slot)))
restored_rearmed lines slot old new image size finds d =
    let in_slots = restored_finds lines slot image old size finds in
    let here = full_rearmed lines slot old new image size in_slots.full d in
    let there : slot_state lines (other slot) new ≡ slot_state lines (other slot) old = state_same lines (other slot) old new (record { size = d.size; each = λ k least most. d.outside k (λ at. arm_apart lines slot k at (least, most)) }) in
    by_behind here there in_slots.behind
  where
    by_behind : slot_state lines slot new ≡ Full (rearmed image (slice_index new (arm_of lines slot))) → slot_state lines (other slot) new ≡ slot_state lines (other slot) old
        → Behind (is_closed (slot_state lines (other slot) old)) image (slot_state lines (other slot) old) → restored lines new ≡ Found slot (rearmed image (slice_index new (arm_of lines slot)))
    by_behind here there (nothing shut is) = alone_in lines slot new (rearmed image (slice_index new (arm_of lines slot))) (d.size ∙ size) here (there ∙ is)
    by_behind here there (older before shut is less) = the_newer lines slot new before (rearmed image (slice_index new (arm_of lines slot))) (d.size ∙ size) (there ∙ is) here less

module _ (lines : ℕ) (slot : Slot) (newest : Image) (closed : Bool) (old : DeviceState) (rest : IsAtRestOn slot newest lines closed old) where
  -- whatever is torn and whatever the arm byte is
  pub finds_rearmed : (image : List ℕ) → DiffersOnlyAt (λ k. (IsTrue (old.unsettled k) ⊎ ((closed ≡ false) × (k ≡ start_of lines (other slot)))) ⊎ (k ≡ arm_of lines slot)) old.bytes image
      → restored lines image ≡ Found slot (rearmed newest (slice_index image (arm_of lines slot)))
  finds_rearmed image m =
      let at : ℕ = arm_of lines slot in let byte : ℕ = slice_index old.bytes at in
      let fits : at + 1 ≤ length image = omega (arith, m.size, rest.size, within lines slot) in
      let back : List ℕ = overwritten image at (byte ∷ []) in
      let d = differs_within image back (byte ∷ []) at fits refl in
      let nil : at - at ≡ 0 = omega arith in
      let set : slice_index back at ≡ byte = holds-within image back (byte ∷ []) at 1 refl fits refl at 0 (omega arith) (omega arith) ∙ ap (λ (i : ℕ). get_or (byte ∷ []) i 0) nil in
      let torn : DiffersOnlyAt (λ k. IsTrue (old.unsettled k) ⊎ ((closed ≡ false) × (k ≡ start_of lines (other slot)))) old.bytes back = record {
        size = d.size ∙ m.size;
        outside = λ k none. ⊎_elim
            (λ (here : k ≡ at). ap (λ (i : ℕ). slice_index back i) here ∙ set ∙ ap (λ (i : ℕ). slice_index old.bytes i) (sym here))
            (λ (off : k ≢ at). d.outside k (λ w. off (omega (arith, w.0, w.1))) ∙ m.outside k (⊎_elim none off))
            (cases_eq k at);
      } in
      let found : restored lines back ≡ Found slot newest = found_only slot newest (restored lines back) (rest.harmless back torn) in
      restored_rearmed lines slot back image newest (torn.size ∙ rest.size) found (record { size = sym d.size; outside = λ k off. sym (d.outside k (λ w. off (omega (arith, w.0, w.1)))) })

  among_any : (image : List ℕ) → restored lines image ≡ Found slot (rearmed newest (slice_index image (arm_of lines slot))) → IsAmong (with_any_arm slot newest) (restored lines image)
  among_any image is = inl (record { arm = slice_index image (arm_of lines slot); own = λ none. absurd (let bad : ⊥ = cc in bad); found = is })

  -- before the call
  pub leaves_before : (image : List ℕ) → MayLeave (present old) image → IsAmong (with_any_arm slot newest) (restored lines image)
  leaves_before image m = among_any image (finds_rearmed image (more (λ k u. inl (inl u)) m))

  module _ (new : DeviceState) (d : DiffersOnlyAt (λ k. k ≡ arm_of lines slot) old.bytes new.bytes) (u : (k : ℕ) → IsTrue (new.unsettled k) → IsTrue (old.unsettled k) ⊎ (k ≡ arm_of lines slot)) where
    later_torn : (image : List ℕ) → DiffersOnlyAt (λ k. IsTrue (new.unsettled k) ⊎ ((closed ≡ false) × (k ≡ start_of lines (other slot)))) new.bytes image
        → DiffersOnlyAt (λ k. (IsTrue (old.unsettled k) ⊎ ((closed ≡ false) × (k ≡ start_of lines (other slot)))) ⊎ (k ≡ arm_of lines slot)) old.bytes image
    later_torn image m = record {
      size = m.size ∙ d.size;
      outside = λ k none. m.outside k (⊎_elim (λ l. ⊎_elim (λ v. none (inl (inl v))) (λ at. none (inr at)) (u k l)) (λ gate. none (inl (inr gate)))) ∙ d.outside k (λ at. none (inr at));
    }

    full_after : slot_state lines slot new.bytes ≡ Full (rearmed newest (slice_index new.bytes (arm_of lines slot)))
    full_after = full_rearmed lines slot old.bytes new.bytes newest rest.size rest.full d

    gate_apart : (k : ℕ) → k ≡ start_of lines (other slot) → k ≡ arm_of lines slot → ⊥
    gate_apart k gate at = arm_apart lines slot k at (omega (arith, gate), omega (arith, gate))

    shut_after : closed ≡ true → IsShut lines (other slot) new
    shut_after is =
        let was = rest.shut is in
        record {
          shut = λ e. was.shut (sym (d.outside (start_of lines (other slot)) (gate_apart (start_of lines (other slot)) refl)) ∙ e);
          fixed = λ l. ⊎_elim was.fixed (gate_apart (start_of lines (other slot)) refl) (u (start_of lines (other slot)) l);
        }

    -- after a fault
    pub rest_rearmed : IsAtRestRearmed slot newest lines closed new
    rest_rearmed = record {
      arm = slice_index new.bytes (arm_of lines slot);
      rest = record {
        size = d.size ∙ rest.size;
        full = full_after;
        harmless = λ image m. among_any image (finds_rearmed image (later_torn image m));
        shut = shut_after;
      };
    }

    -- within and after
    pub leaves_after : (image : List ℕ) → MayLeave (present new) image → IsAmong (with_any_arm slot newest) (restored lines image)
    leaves_after image m = among_any image (finds_rearmed image (later_torn image (more (λ k l. inl l) m)))

    -- at the end
    pub rest_armed : (arm : ℕ) → slice_index new.bytes (arm_of lines slot) ≡ arm → IsSettled new → IsAtRestOn slot (rearmed newest arm) lines closed new
    rest_armed arm is settled = record {
      size = d.size ∙ rest.size;
      full = full_after ∙ ap (λ (byte : ℕ). Full (rearmed newest byte)) is;
      harmless = λ image m.
          let kept : slice_index image (arm_of lines slot) ≡ arm = m.outside (arm_of lines slot) (⊎_elim (settled (arm_of lines slot)) (λ gate. gate_apart (arm_of lines slot) gate.1 refl)) ∙ is in
          among_only slot (rearmed newest arm) (restored lines image) (finds_rearmed image (later_torn image m) ∙ ap (λ (byte : ℕ). Found slot (rearmed newest byte)) kept);
      shut = shut_after;
    }

-- the call that writes the byte, and the sync behind it
module _ (lines : ℕ) (slot : Slot) (old mid : DeviceState) (place byte : ℕ) (at : place ≡ arm_of lines slot) (good : Bool) (wrote : Makes (Put place (byte ∷ [])) good old mid) where
  pub arm_alone : DiffersOnlyAt (λ k. k ≡ arm_of lines slot) old.bytes mid.bytes
  arm_alone = more (λ k w. omega (arith, w.0, w.1, at)) wrote.outside

  unsettled_alone : (k : ℕ) → IsTrue (mid.unsettled k) → IsTrue (old.unsettled k) ⊎ (k ≡ arm_of lines slot)
  unsettled_alone k l = ⊎_elim (λ v. inl v) (λ w. inr (omega (arith, w.0, w.1, at))) (wrote.unsettled k l)

  module _ (newest : Image) (closed : Bool) (rest : IsAtRestOn slot newest lines closed old) where
    pub write_leaves : LeavesOnly old mid (λ image. IsAmong (with_any_arm slot newest) (restored lines image))
    write_leaves = within_call old mid wrote.call.time (leaves_before lines slot newest closed old rest) (leaves_after lines slot newest closed old rest mid arm_alone unsettled_alone)

    pub write_failed : IsAtRestRearmed slot newest lines closed mid
    write_failed = rest_rearmed lines slot newest closed old rest mid arm_alone unsettled_alone

  module _ (new : DeviceState) (fine : Bool) (synced : Makes Settle fine mid new) where
    pub both_alone : DiffersOnlyAt (λ k. k ≡ arm_of lines slot) old.bytes new.bytes
    both_alone = record { size = synced.outside.size ∙ arm_alone.size; outside = λ k off. synced.outside.outside k (λ w. w) ∙ arm_alone.outside k off }

    both_unsettled : (k : ℕ) → IsTrue (new.unsettled k) → IsTrue (old.unsettled k) ⊎ (k ≡ arm_of lines slot)
    both_unsettled k l = ⊎_elim (unsettled_alone k) (λ w. absurd w) (synced.unsettled k l)

    module _ (newest : Image) (closed : Bool) (rest : IsAtRestOn slot newest lines closed old) where
      pub both_leave : LeavesOnly old new (λ image. IsAmong (with_any_arm slot newest) (restored lines image))
      both_leave =
          and_then old mid new (write_leaves newest closed rest)
          (within_call mid new synced.call.time (leaves_after lines slot newest closed old rest mid arm_alone unsettled_alone) (leaves_after lines slot newest closed old rest new both_alone both_unsettled))

      pub both_failed : IsAtRestRearmed slot newest lines closed new
      both_failed = rest_rearmed lines slot newest closed old rest new both_alone both_unsettled

      pub both_armed : mid.bytes ≡ overwritten old.bytes place (byte ∷ []) → new.bytes ≡ mid.bytes → IsSettled new → IsAtRestOn slot (rearmed newest byte) lines closed new
      both_armed done same settled =
          let fits : place + 1 ≤ length old.bytes = omega (arith, at, rest.size, within lines slot) in
          let nil : place - place ≡ 0 = omega arith in
          let set : slice_index mid.bytes place ≡ byte = holds-within old.bytes mid.bytes (byte ∷ []) place 1 refl fits done place 0 (omega arith) (omega arith) ∙ ap (λ (i : ℕ). get_or (byte ∷ []) i 0) nil in
          rest_armed lines slot newest closed old rest new both_alone both_unsettled byte
          (ap (λ (bytes : List ℕ). slice_index bytes (arm_of lines slot)) same ∙ ap (λ (i : ℕ). slice_index mid.bytes i) (sym at) ∙ set) settled
