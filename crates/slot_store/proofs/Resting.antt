-- A device between two saves.
use Rattle.save_image.specs.Image.{IsImage}
use Rattle.slot_store.specs.Outcomes.{newer}
use Rattle.slot_store.specs.Slots.{Broken}
use Rattle.slot_store.proofs.Common.{[], if◌then◌else◌, ℕ, ◌+◌, ◌-◌, ◌<◌, ◌∙◌, ◌∷◌, ◌≡◌, ◌≤◌, ◌⊎◌, Bool, Candidates, Closed, Damaged, DeviceState, DiffersOnlyAt, First, Found, Full, HasSize, Image, IsAmong, IsAtRest, IsAtRestOn, IsSettled, IsShut, IsTrue, List, MayLeave, Outcome, Second, Slot, SlotState, ap, arith, chosen, device_size, differs_within, eqb_tells, false, get_or, holds-within, inl, inr, is_closed, length, nat_lt, only, other, overwritten, present, rearmed, refl, restored, slice_index, slot_size, slot_state, start_of, subst, sym, true, ⊎_elim}
use Rattle.slot_store.proofs.Gates.{by_states, closed_gate, gate_open, shut_gate, the_newer}
use Rattle.slot_store.proofs.ImageBytes.{image_from_full}
use Rattle.slot_store.proofs.Same.{state_same}
use Rattle.slot_store.proofs.Standing.{below_or_not}
use Rattle.slot_store.proofs.Stops.{more, within}

pub other_other : (slot : Slot) → other (other slot) ≡ slot
other_other First = refl
other_other Second = refl

-- one slot is full, and the other one closed
pub alone_in : (lines : ℕ) (slot : Slot) (c : List ℕ) (image : Image) → length c ≡ device_size lines → slot_state lines slot c ≡ Full image → slot_state lines (other slot) c ≡ Closed → restored lines c ≡ Found slot image
alone_in lines First c image size here there = by_states lines c (Full image) Closed size here there
alone_in lines Second c image size here there = by_states lines c Closed (Full image) size there here

-- what the other slot of the newest image holds: nothing, or an older image
pub data Behind (closed : Bool) (image : Image) (state : SlotState) : Type 0 where
  nothing : closed ≡ true → state ≡ Closed → Behind closed image state
  older : (old : Image) → closed ≡ false → state ≡ Full old → old.generation < image.generation → Behind closed image state

-- the other slot's gate isn't in this one
apart_from_gate : (lines : ℕ) (slot : Slot) (k : ℕ) → start_of lines slot ≤ k → k < start_of lines slot + slot_size lines → k ≡ start_of lines (other slot) → ⊥
apart_from_gate lines First k least most is = omega (arith, least, most, is)
apart_from_gate lines Second k least most is = omega (arith, least, most, is)

pub among_only : (slot : Slot) (image : Image) (outcome : Outcome) → outcome ≡ Found slot image → IsAmong (only slot image) outcome
among_only slot image outcome is = inl (record { arm = image.arm; own = λ _. refl; found = is })

module _ (lines : ℕ) (slot : Slot) (image : Image) (closed : Bool) (state : DeviceState) (size : HasSize lines state)
    (settled : IsSettled state) (full : slot_state lines slot state.bytes ≡ Full image) where
  still_full : (c : List ℕ) → DiffersOnlyAt (λ k. IsTrue (state.unsettled k) ⊎ ((closed ≡ false) × (k ≡ start_of lines (other slot)))) state.bytes c → slot_state lines slot c ≡ Full image
  still_full c m =
      state_same lines slot state.bytes c (record { size = m.size; each = λ k least most. m.outside k (⊎_elim (settled k) (λ torn. apart_from_gate lines slot k least most torn.1)) }) ∙ full

  same_elsewhere : (c : List ℕ) → DiffersOnlyAt (λ k. IsTrue (state.unsettled k) ⊎ ((closed ≡ false) × (k ≡ start_of lines (other slot)))) state.bytes c
      → (closed ≡ true) ⊎ (slice_index c (start_of lines (other slot)) ≡ slice_index state.bytes (start_of lines (other slot))) → slot_state lines (other slot) c ≡ slot_state lines (other slot) state.bytes
  same_elsewhere c m (inl is_closed) = state_same lines (other slot) state.bytes c (record { size = m.size; each = λ k least most. m.outside k (⊎_elim (settled k) (λ torn. let bad : ⊥ = cc (torn.0, is_closed) in bad)) })
  same_elsewhere c m (inr same) =
      state_same lines (other slot) state.bytes c (record {
        size = m.size;
        each = λ k least most. ⊎_elim
            (λ at. ap (λ (i : ℕ). slice_index c i) at.1 ∙ same ∙ ap (λ (i : ℕ). slice_index state.bytes i) (sym at.1))
            (λ off. m.outside k (⊎_elim (settled k) (λ torn. off.1 torn.1)))
            (eqb_tells k (start_of lines (other slot)));
      })

  found_alone : Behind closed image (slot_state lines (other slot) state.bytes) → (c : List ℕ) → DiffersOnlyAt (λ k. IsTrue (state.unsettled k) ⊎ ((closed ≡ false) × (k ≡ start_of lines (other slot)))) state.bytes c → restored lines c ≡ Found slot image
  found_alone (nothing is_closed there) c m = alone_in lines slot c image (m.size ∙ size) (still_full c m) (same_elsewhere c m (inl is_closed) ∙ there)
  found_alone (older old is_open there less) c m =
      ⊎_elim
      (λ open_now. the_newer lines slot c old image (m.size ∙ size) (same_elsewhere c m (inr (open_now.1 ∙ sym (gate_open lines (other slot) state.bytes old there))) ∙ there) (still_full c m) less)
      (λ shut_now. alone_in lines slot c image (m.size ∙ size) (still_full c m) (closed_gate lines (other slot) c shut_now.1))
      (eqb_tells (slice_index c (start_of lines (other slot))) 0xA5)

  shut_behind : Behind closed image (slot_state lines (other slot) state.bytes) → closed ≡ true → IsShut lines (other slot) state
  shut_behind (nothing is_closed there) closed_now = record { shut = shut_gate lines (other slot) state.bytes there; fixed = settled (start_of lines (other slot)) }
  shut_behind (older old is_open there less) closed_now = absurd (let bad : ⊥ = cc in bad)

  -- a settled device whose newest image this is
  pub rest_alone : Behind closed image (slot_state lines (other slot) state.bytes) → IsAtRestOn slot image lines closed state
  rest_alone behind = record {
    size = size;
    full = full;
    harmless = λ c m. among_only slot image (restored lines c) (found_alone behind c m);
    shut = shut_behind behind;
  }

-- Which states of the slots restore to an image in one of them.
pub record FindsIn (closed : Bool) (slot : Slot) (image : Image) (here there : SlotState) : Type 0 where
  pub full : here ≡ Full image
  pub behind : Behind closed image there

abbrev pub here_of : Slot → SlotState → SlotState → SlotState
here_of First s t = s
here_of Second s t = t

abbrev pub there_of : Slot → SlotState → SlotState → SlotState
there_of First s t = t
there_of Second s t = s

newer_finds : (slot : Slot) (image one two : Image) → newer one two ≡ Found slot image → FindsIn false slot image (here_of slot (Full one) (Full two)) (there_of slot (Full one) (Full two))
newer_finds slot image one two is =
    elim (eqb_tells one.generation two.generation) [
      | inl equal ↦ let none : Damaged Second ≡ Found slot image = sym (ap (λ (b : Bool). if b then Damaged Second else if nat_lt one.generation two.generation then Found Second two else Found First one) equal.0) ∙ is in absurd (let bad : ⊥ = cc in bad)
      | inr differ ↦
          let rest : (if nat_lt one.generation two.generation then Found Second two else Found First one) ≡ Found slot image = sym (ap (λ (b : Bool). if b then Damaged Second else if nat_lt one.generation two.generation then Found Second two else Found First one) differ.0) ∙ is in
          elim (below_or_not one.generation two.generation) [
            | inl below ↦ finds_second slot image one two below.1 (sym (ap (λ (b : Bool). if b then Found Second two else Found First one) below.0) ∙ rest)
            | inr above ↦
                let less : two.generation < one.generation = omega (arith, above.1, differ.1) in
                finds_first slot image one two less (sym (ap (λ (b : Bool). if b then Found Second two else Found First one) above.0) ∙ rest)
          ]
    ]
  where
    finds_second : (slot : Slot) (image one two : Image) → one.generation < two.generation → Found Second two ≡ Found slot image → FindsIn false slot image (here_of slot (Full one) (Full two)) (there_of slot (Full one) (Full two))
    finds_second First image one two less is = absurd (let bad : ⊥ = cc in bad)
    finds_second Second image one two less is =
        let same : two ≡ image = cc in
        record { full = ap (λ (i : Image). Full i) same; behind = older one refl refl (subst (λ (i : Image). one.generation < i.generation) same less) }

    finds_first : (slot : Slot) (image one two : Image) → two.generation < one.generation → Found First one ≡ Found slot image → FindsIn false slot image (here_of slot (Full one) (Full two)) (there_of slot (Full one) (Full two))
    finds_first First image one two less is =
        let same : one ≡ image = cc in
        record { full = ap (λ (i : Image). Full i) same; behind = older two refl refl (subst (λ (i : Image). two.generation < i.generation) same less) }
    finds_first Second image one two less is = absurd (let bad : ⊥ = cc in bad)

pub chosen_finds : (slot : Slot) (image : Image) (s t : SlotState) → chosen s t ≡ Found slot image → FindsIn (is_closed (there_of slot s t)) slot image (here_of slot s t) (there_of slot s t)
chosen_finds slot image Broken t is = absurd (let bad : ⊥ = cc in bad)
chosen_finds slot image Closed Broken is = absurd (let bad : ⊥ = cc in bad)
chosen_finds slot image Closed Closed is = absurd (let bad : ⊥ = cc in bad)
chosen_finds First image Closed (Full two) is = absurd (let bad : ⊥ = cc in bad)
chosen_finds Second image Closed (Full two) is = record { full = let same : Full two ≡ Full image = cc in same; behind = nothing refl refl }
chosen_finds slot image (Full one) Broken is = absurd (let bad : ⊥ = cc in bad)
chosen_finds First image (Full one) Closed is = record { full = let same : Full one ≡ Full image = cc in same; behind = nothing refl refl }
chosen_finds Second image (Full one) Closed is = absurd (let bad : ⊥ = cc in bad)
chosen_finds First image (Full one) (Full two) is = newer_finds First image one two is
chosen_finds Second image (Full one) (Full two) is = newer_finds Second image one two is

pub restored_finds : (lines : ℕ) (slot : Slot) (image : Image) (bytes : List ℕ) → length bytes ≡ device_size lines → restored lines bytes ≡ Found slot image
    → FindsIn (is_closed (slot_state lines (other slot) bytes)) slot image (slot_state lines slot bytes) (slot_state lines (other slot) bytes)
restored_finds lines First image bytes size is = chosen_finds First image (slot_state lines First bytes) (slot_state lines Second bytes) (sym (by_states lines bytes (slot_state lines First bytes) (slot_state lines Second bytes) size refl refl) ∙ is)
restored_finds lines Second image bytes size is = chosen_finds Second image (slot_state lines First bytes) (slot_state lines Second bytes) (sym (by_states lines bytes (slot_state lines First bytes) (slot_state lines Second bytes) size refl refl) ∙ is)

-- a settled device is at rest on the image that it restores to
pub rest_restored : (lines : ℕ) (slot : Slot) (image : Image) (closed : Bool) (state : DeviceState) → HasSize lines state → IsSettled state
    → restored lines state.bytes ≡ Found slot image → closed ≡ is_closed (slot_state lines (other slot) state.bytes) → IsAtRestOn slot image lines closed state
rest_restored lines slot image closed state size settled is shut =
    let finds = restored_finds lines slot image state.bytes size is in
    rest_alone lines slot image closed state size settled finds.full (subst (λ (b : Bool). Behind b image (slot_state lines (other slot) state.bytes)) (sym shut) finds.behind)

-- what a device restores to is an image of its size
pub found_image : (lines : ℕ) (slot : Slot) (image : Image) (bytes : List ℕ) → length bytes ≡ device_size lines → restored lines bytes ≡ Found slot image → IsImage lines image
found_image lines slot image bytes size is = (image_from_full lines slot bytes image size (restored_finds lines slot image bytes size is).full).0

-- what a stop leaves of a device at rest
pub rest_leaves : {candidates : Candidates} {newest : Image} {slot : Slot} {lines : ℕ} {closed : Bool} (state : DeviceState) (image : List ℕ) → IsAtRest candidates newest slot lines closed state
    → MayLeave (present state) image → IsAmong candidates (restored lines image)
rest_leaves state image rest left = rest.harmless image (more (λ k u. inl u) left)

-- what a device at rest restores to now
pub rest_finds : {candidates : Candidates} {newest : Image} {slot : Slot} {lines : ℕ} {closed : Bool} (state : DeviceState) → IsAtRest candidates newest slot lines closed state → IsAmong candidates (restored lines state.bytes)
rest_finds state rest = rest_leaves state state.bytes rest (record { size = refl; outside = λ k none. refl })

pub found_only : (slot : Slot) (image : Image) (outcome : Outcome) → IsAmong (only slot image) outcome → outcome ≡ Found slot image
found_only slot image outcome (inl is) =
    let own : is.arm ≡ image.arm = is.own refl in
    is.found ∙ ap (λ (arm : ℕ). Found slot (rearmed image arm)) own
found_only slot image outcome (inr none) = absurd none

-- The newest image of a device at rest is one of the candidates: it is found where the gate of the other slot is closed.
pub newest_among : (candidates : Candidates) (newest : Image) (slot : Slot) (lines : ℕ) (closed : Bool) (state : DeviceState) → IsAtRest candidates newest slot lines closed state → IsAmong candidates (Found slot newest)
newest_among candidates newest slot lines true state rest =
    subst (IsAmong candidates) (alone_in lines slot state.bytes newest rest.size rest.full (closed_gate lines (other slot) state.bytes (rest.shut refl).shut)) (rest_finds state rest)
newest_among candidates newest slot lines false state rest =
    let gate : ℕ = start_of lines (other slot) in
    let shut : List ℕ = overwritten state.bytes gate (0 ∷ []) in
    let fits : gate + 1 ≤ length state.bytes = omega (arith, rest.size, within lines (other slot)) in
    let d = differs_within state.bytes shut (0 ∷ []) gate fits refl in
    let zero_at : slice_index shut gate ≡ get_or (0 ∷ []) (gate - gate) 0 = holds-within state.bytes shut (0 ∷ []) gate 1 refl fits refl gate 0 (omega arith) (omega arith) in
    let nil : gate - gate ≡ 0 = omega arith in
    let is_shut : slice_index shut gate ≡ 0 = zero_at ∙ ap (λ (i : ℕ). get_or (0 ∷ []) i 0) nil in
    let full : slot_state lines slot shut ≡ Full newest = state_same lines slot state.bytes shut (record { size = d.size; each = λ k least most. d.outside k (λ w. let at : k ≡ gate = omega (arith, w.0, w.1) in apart_from_gate lines slot k least most at) }) ∙ rest.full in
    subst (IsAmong candidates)
    (alone_in lines slot shut newest (d.size ∙ rest.size) full (closed_gate lines (other slot) shut (λ open_now. let wrong : 0xA5 ≡ 0 = sym open_now ∙ is_shut in absurd (omega (arith, wrong)))))
    (rest.harmless shut (more (λ k w. inr (refl, omega (arith, w.0, w.1))) d))
