-- What a device restores to where the lines of its slots were checked against their digests.
use Rattle.std.specs.Prelude.{◌==◌, None, Option}
use Rattle.save_image.proofs.Again.{version_again}
use Rattle.save_image.specs.Reading.{version_in}
use Rattle.save_image.specs.declared.reading.Header.{Header}
use Rattle.slot_store.specs.Outcomes.{NoImage}
use Rattle.slot_store.specs.Slots.{Broken}
use Rattle.slot_store.specs.Told.{AreReadings, IsChosen, IsHeadOf, IsOfHeaders, NamesOutcome, Refuses, claimed, damaged_of, first_damaged, header_at, header_in_page, header_of_reading, in_slot, is_device, is_sound, pages_checked, version_said}
use Rattle.slot_store.specs.declared.head.Head.{Head}
use Rattle.slot_store.specs.declared.headers.Reading.{Reading}
use Rattle.slot_store.specs.declared.headers.Reading.TheVariants as readings
use Rattle.slot_store.specs.declared.headers.Readings.{Readings}
use Rattle.slot_store.specs.declared.restoring.RestoreError.TheVariants as errors
use Rattle.slot_store.proofs.Common.{if◌then◌else◌, ℕ, ◌*◌, ◌+◌, ◌/◌, ◌∙◌, ◌≡◌, Bool, Closed, Damaged, Err, First, Found, Full, Image, List, Ok, Outcome, RestoreError, Second, Slot, SlotState, Some, WrongSize, ap, body_in, chosen, device_size, drop, false, header_in, length, lines_in, nat_lt, other, page_in, refl, restored, slice_index, slot_state, start_of, sym, told, true}
use Rattle.slot_store.proofs.Gates.{by_states, gate_in_page, not_equal, shut_gate}
use Rattle.slot_store.proofs.Picked.{picked, refuses}
use Rattle.slot_store.proofs.Resting.{chosen_finds, here_of}

-- the lines that were read of these bytes are the slot's
pub lines_read : (lines start : ℕ) (slot : Slot) (seen bytes : List ℕ) (memory : List (List ℕ)) → 64 * (lines / 64) ≡ lines → start ≡ start_of lines slot → seen ≡ bytes
    → memory ≡ lines_in (64 * (lines / 64)) (drop (start + 4096) seen) → memory ≡ body_in lines slot bytes
lines_read lines start slot seen bytes memory whole at same read =
    read
    ∙ ap (λ (n : ℕ). lines_in n (drop (start + 4096) seen)) whole
    ∙ ap (λ (i : ℕ). lines_in lines (drop (i + 4096) seen)) at
    ∙ ap (λ (row : List ℕ). body_in lines slot row) same

told_sound : (reading : Reading) (memory : List (List ℕ)) → is_sound reading memory ≡ true → told reading memory ≡ claimed reading memory
told_sound reading memory sound = ap (λ (b : Bool). if b then claimed reading memory else Broken) sound

told_unsound : (reading : Reading) (memory : List (List ℕ)) → is_sound reading memory ≡ false → told reading memory ≡ Broken
told_unsound reading memory unsound = ap (λ (b : Bool). if b then claimed reading memory else Broken) unsound

-- where an image is found, a damaged second slot is named
second_broken : (s t : SlotState) (slot : Slot) (image : Image) → chosen s t ≡ Found slot image → chosen s Broken ≡ Damaged Second
second_broken Broken t slot image is = absurd (let bad : ⊥ = cc in bad)
second_broken Closed t slot image is = refl
second_broken (Full one) t slot image is = refl

newer_by : (same less : Bool) (one two : Image) (slot : Slot) → (if same then Damaged Second else if less then Found Second two else Found First one) ≡ Damaged slot → slot ≡ Second
newer_by true less one two slot is = let e : Damaged Second ≡ Damaged slot = is in (let e : slot ≡ Second = cc in e)
newer_by false true one two slot is = let e : Found Second two ≡ Damaged slot = is in absurd (let bad : ⊥ = cc in bad)
newer_by false false one two slot is = let e : Found First one ≡ Damaged slot = is in absurd (let bad : ⊥ = cc in bad)

never_none : (same less : Bool) (one two : Image) → (if same then Damaged Second else if less then Found Second two else Found First one) ≡ NoImage → ⊥
never_none true less one two is = let e : Damaged Second ≡ NoImage = is in (let bad : ⊥ = cc in bad)
never_none false true one two is = let e : Found Second two ≡ NoImage = is in (let bad : ⊥ = cc in bad)
never_none false false one two is = let e : Found First one ≡ NoImage = is in (let bad : ⊥ = cc in bad)

never_wrong : (same less : Bool) (one two : Image) → (if same then Damaged Second else if less then Found Second two else Found First one) ≡ WrongSize → ⊥
never_wrong true less one two is = let e : Damaged Second ≡ WrongSize = is in (let bad : ⊥ = cc in bad)
never_wrong false true one two is = let e : Found Second two ≡ WrongSize = is in (let bad : ⊥ = cc in bad)
never_wrong false false one two is = let e : Found First one ≡ WrongSize = is in (let bad : ⊥ = cc in bad)

-- an error stays the same where an image in the second slot is damaged
named_still : (error : RestoreError) (s : SlotState) (image : Image) → NamesOutcome error (chosen s (Full image)) → NamesOutcome error (chosen s Broken)
named_still error Broken image names = names
named_still errors.NoImage Closed image names = absurd (let bad : ⊥ = cc in bad)
named_still (errors.Damaged slot) Closed image names = absurd (let bad : ⊥ = cc in bad)
named_still errors.WrongSize Closed image names = absurd (let bad : ⊥ = cc in bad)
named_still errors.Device Closed image names = absurd names
named_still errors.Memory Closed image names = absurd names
named_still errors.NoImage (Full one) image names = absurd (never_none (one.generation == image.generation) (nat_lt one.generation image.generation) one image names)
named_still (errors.Damaged slot) (Full one) image names = ap (λ (s : Slot). Damaged s) (sym (newer_by (one.generation == image.generation) (nat_lt one.generation image.generation) one image slot names))
named_still errors.WrongSize (Full one) image names = absurd (never_wrong (one.generation == image.generation) (nat_lt one.generation image.generation) one image names)
named_still errors.Device (Full one) image names = absurd names
named_still errors.Memory (Full one) image names = absurd names

-- the same of a slot that was read
named_behind : (error : RestoreError) (s : SlotState) (reading : Reading) (memory : List (List ℕ)) → is_sound reading memory ≡ false → NamesOutcome error (chosen s (claimed reading memory)) → NamesOutcome error (chosen s Broken)
named_behind error s readings.Shut memory unsound names = absurd (let bad : ⊥ = cc in bad)
named_behind error s readings.Broken memory unsound names = names
named_behind error s (readings.Image header) memory unsound names = named_still error s (record { generation = header.generation; count = header.count; arm = header.arm; memory = memory }) names

chosen_wrong : (s t : SlotState) → chosen s t ≡ WrongSize → ⊥
chosen_wrong Broken t is = cc
chosen_wrong Closed Broken is = cc
chosen_wrong Closed Closed is = cc
chosen_wrong Closed (Full two) is = cc
chosen_wrong (Full one) Broken is = cc
chosen_wrong (Full one) Closed is = cc
chosen_wrong (Full one) (Full two) is = never_wrong (one.generation == two.generation) (nat_lt one.generation two.generation) one two is

-- what two slots name is what headers may be refused for, and no fault
pub named_headers : (error : RestoreError) (s t : SlotState) → NamesOutcome error (chosen s t) → IsOfHeaders error
named_headers errors.NoImage s t names = tt
named_headers (errors.Damaged slot) s t names = tt
named_headers errors.WrongSize s t names = absurd (chosen_wrong s t names)
named_headers errors.Device s t names = absurd names
named_headers errors.Memory s t names = absurd names

pub named_no_fault : (error : RestoreError) (outcome : Outcome) → NamesOutcome error outcome → is_device error ≡ false
named_no_fault errors.NoImage outcome names = refl
named_no_fault (errors.Damaged slot) outcome names = refl
named_no_fault errors.WrongSize outcome names = refl
named_no_fault errors.Device outcome names = absurd names
named_no_fault errors.Memory outcome names = refl

-- no slot is damaged where the lines of both are sound
pub none_damaged : (slot : Slot) (here there : Bool) → damaged_of slot here there ≡ None → (here ≡ true) × (there ≡ true)
none_damaged First true true none = (refl, refl)
none_damaged First true false none = absurd (let bad : ⊥ = cc in bad)
none_damaged First false there none = absurd (let bad : ⊥ = cc in bad)
none_damaged Second true true none = (refl, refl)
none_damaged Second true false none = absurd (let bad : ⊥ = cc in bad)
none_damaged Second false true none = absurd (let bad : ⊥ = cc in bad)
none_damaged Second false false none = absurd (let bad : ⊥ = cc in bad)

chosen_none : (s t : SlotState) → chosen s t ≡ NoImage → s ≡ Closed
chosen_none Broken t is = absurd (let bad : ⊥ = cc in bad)
chosen_none Closed t is = refl
chosen_none (Full one) Broken is = absurd (let bad : ⊥ = cc in bad)
chosen_none (Full one) Closed is = absurd (let bad : ⊥ = cc in bad)
chosen_none (Full one) (Full two) is = absurd (never_none (one.generation == two.generation) (nat_lt one.generation two.generation) one two is)

-- a closed slot has no header
header_none : (lines : ℕ) (slot : Slot) (bytes : List ℕ) → slot_state lines slot bytes ≡ Closed → header_at lines slot bytes ≡ None
header_none lines slot bytes closed =
    let page : List ℕ = page_in lines slot bytes in
    let test : (slice_index page 0 == 0xA5) ≡ false = not_equal (slice_index page 0) 0xA5 (λ e. shut_gate lines slot bytes closed (sym (gate_in_page lines slot bytes) ∙ e)) in
    ap (λ (b : Bool). let o : Option Header = if b then header_in lines page else None in o) test

header_there : (b : Bool) (o : Option Header) (h : Header) → (if b then o else None) ≡ Some h → o ≡ Some h
header_there true o h is = is
header_there false o h is = absurd (let bad : ⊥ = let e : None ≡ Some h = is in cc in bad)

said_by : (lines : ℕ) (page : List ℕ) (reading : Reading) (memory : List (List ℕ)) (image : Image) → header_in_page lines page ≡ header_of_reading reading → claimed reading memory ≡ Full image → version_said reading ≡ version_in page
said_by lines page readings.Shut memory image header full = absurd (let bad : ⊥ = cc in bad)
said_by lines page readings.Broken memory image header full = absurd (let bad : ⊥ = cc in bad)
said_by lines page (readings.Image h) memory image header full = version_again lines page h (header_there (slice_index page 0 == 0xA5) (header_in lines page) h header)

module _ (lines : ℕ) (bytes : List ℕ) (size : length bytes ≡ device_size lines) (readings : Readings) (are : AreReadings lines bytes readings) where
  one : List (List ℕ)
  one = body_in lines First bytes

  two : List (List ℕ)
  two = body_in lines Second bytes

  pub no_pages : restored lines bytes ≡ NoImage → pages_checked lines (header_of_reading readings.first) ≡ 0
  no_pages is =
      let closed : slot_state lines First bytes ≡ Closed = chosen_none (slot_state lines First bytes) (slot_state lines Second bytes) (sym (by_states lines bytes (slot_state lines First bytes) (slot_state lines Second bytes) size refl refl) ∙ is) in
      ap (pages_checked lines) (sym (are.header First) ∙ header_none lines First bytes closed)

  damaged_first : is_sound readings.first one ≡ false → restored lines bytes ≡ Damaged First
  unfolding one
  damaged_first unsound =
      by_states lines bytes Broken (told readings.second (body_in lines Second bytes)) size (are.state First ∙ told_unsound readings.first (body_in lines First bytes) unsound) (are.state Second)

  module _ (error : RestoreError) (chosen_so : IsChosen (Err error) (body_in lines First bytes) (body_in lines Second bytes) (claimed readings.first (body_in lines First bytes)) (claimed readings.second (body_in lines Second bytes))) where
    -- why nothing is restored where the headers name no image
    pub refused_by : (sound : Bool) → sound ≡ is_sound readings.first (body_in lines First bytes) → Refuses (if sound then error else errors.Damaged First) (restored lines bytes)
    unfolding one two
    refused_by false is = damaged_first (sym is)
    refused_by true is = by_second (is_sound readings.second two) refl
      where
        first : slot_state lines First bytes ≡ claimed readings.first one
        first = are.state First ∙ told_sound readings.first one (sym is)

        by_second : (b : Bool) → is_sound readings.second two ≡ b → Refuses error (restored lines bytes)
        by_second true sound =
            refuses error (chosen (claimed readings.first one) (claimed readings.second two)) (restored lines bytes)
            (by_states lines bytes (claimed readings.first one) (claimed readings.second two) size first (are.state Second ∙ told_sound readings.second two sound)) chosen_so
        by_second false unsound =
            refuses error (chosen (claimed readings.first one) Broken) (restored lines bytes)
            (by_states lines bytes (claimed readings.first one) Broken size first (are.state Second ∙ told_unsound readings.second two unsound))
            (named_behind error (claimed readings.first one) readings.second two unsound chosen_so)

  module _ (head : Head) (chosen_so : IsChosen (Ok head) (body_in lines First bytes) (body_in lines Second bytes) (claimed readings.first (body_in lines First bytes)) (claimed readings.second (body_in lines Second bytes))) where
    damaged_second : is_sound readings.first one ≡ true → is_sound readings.second two ≡ false → restored lines bytes ≡ Damaged Second
    unfolding one two
    damaged_second sound unsound =
        by_states lines bytes (claimed readings.first one) Broken size (are.state First ∙ told_sound readings.first one sound) (are.state Second ∙ told_unsound readings.second two unsound)
        ∙ second_broken (claimed readings.first one) (claimed readings.second two) _ _ chosen_so.newest

    -- the first damaged slot is the outcome
    by_first : (a b : Bool) (bad : Slot) → is_sound readings.first one ≡ a → is_sound readings.second two ≡ b → first_damaged a b ≡ Some bad → restored lines bytes ≡ Damaged bad
    by_first false b bad first second is = (let same : First ≡ bad = cc in damaged_first first ∙ ap (λ (s : Slot). Damaged s) same)
    by_first true false bad first second is = (let same : Second ≡ bad = cc in damaged_second first second ∙ ap (λ (s : Slot). Damaged s) same)
    by_first true true bad first second is = absurd (let none : ⊥ = cc in none)

    pub damaged_slot : (slot bad : Slot) → damaged_of slot (is_sound (in_slot readings slot) (body_in lines slot bytes)) (is_sound (in_slot readings (other slot)) (body_in lines (other slot) bytes)) ≡ Some bad → restored lines bytes ≡ Damaged bad
    unfolding one two
    damaged_slot First bad is = by_first (is_sound readings.first one) (is_sound readings.second two) bad refl refl is
    damaged_slot Second bad is = by_first (is_sound readings.first one) (is_sound readings.second two) bad refl refl is

    both_sound : (slot : Slot) → is_sound (in_slot readings slot) (body_in lines slot bytes) ≡ true → is_sound (in_slot readings (other slot)) (body_in lines (other slot) bytes) ≡ true
        → (is_sound readings.first (body_in lines First bytes) ≡ true) × (is_sound readings.second (body_in lines Second bytes) ≡ true)
    both_sound First here there = (here, there)
    both_sound Second here there = (there, here)

    -- the head is the newest image's where both are sound
    pub sound_head : (slot : Slot) → is_sound (in_slot readings slot) (body_in lines slot bytes) ≡ true → is_sound (in_slot readings (other slot)) (body_in lines (other slot) bytes) ≡ true
        → IsHeadOf head (body_in lines head.newest.slot bytes) (restored lines bytes) (slot_state lines (other head.newest.slot) bytes)
    sound_head slot here there =
        let both = both_sound slot here there in
        picked (Ok head) lines bytes (claimed readings.first (body_in lines First bytes)) (claimed readings.second (body_in lines Second bytes)) size
        (are.state First ∙ told_sound readings.first (body_in lines First bytes) both.0) (are.state Second ∙ told_sound readings.second (body_in lines Second bytes) both.1) chosen_so

    here_claimed : (slot : Slot) → here_of slot (claimed readings.first (body_in lines First bytes)) (claimed readings.second (body_in lines Second bytes)) ≡ claimed (in_slot readings slot) (body_in lines slot bytes)
    here_claimed First = refl
    here_claimed Second = refl

    -- the version is the page's
    pub head_version : version_said (in_slot readings head.newest.slot) ≡ version_in (page_in lines head.newest.slot bytes)
    head_version =
        let slot = head.newest.slot in
        let found = chosen_finds slot _ (claimed readings.first (body_in lines First bytes)) (claimed readings.second (body_in lines Second bytes)) chosen_so.newest in
        said_by lines (page_in lines slot bytes) (in_slot readings slot) (body_in lines slot bytes) _ (are.header slot) (sym (here_claimed slot) ∙ found.full)
