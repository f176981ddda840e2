-- A closed gate hides its slot, and an open one shows it.
use Rattle.std.proofs.lemmas.Bool.Decides.{Decides-eqb, Decides-ltb, nat_tests}
use Rattle.std.specs.Prelude.{◌==◌, None, Option}
use Rattle.std.proofs.lemmas.Slice.Eq.{bytes_eq-Decides}
use Rattle.save_image.specs.Image.{digest_for, digest_of}
use Rattle.save_image.specs.declared.reading.Header.{Header}
use Rattle.save_image.specs.declared.reading.Version.{Version}
use Rattle.save_image.specs.declared.reading.Version.TheVariants.{One, Two}
use Rattle.slot_store.specs.Outcomes.{newer, restored}
use Rattle.slot_store.specs.Slots.{Broken, digest_fits, opened, slot_state}
use Rattle.slot_store.proofs.Common.{if◌then◌else◌, ℕ, ◌+◌, ◌-◌, ◌<◌, ◌∙◌, ◌≡◌, ◌≢◌, Bool, Closed, Damaged, First, Found, Full, Image, List, Second, Slot, SlotState, Some, WrongSize, ap, arith, body_in, chosen, device_size, drop, eqb_tells, false, get_or, get_or-drop, get_or-take, header_in, image_with, length, nat_lt, other, page_in, refl, slice_index, start_of, sym, true, ⊎_elim}

pub gate_in_page : (lines : ℕ) (slot : Slot) (c : List ℕ) → slice_index (page_in lines slot c) 0 ≡ slice_index c (start_of lines slot)
gate_in_page lines slot c =
    let start = start_of lines slot in
    get_or-take (start + 4096 - start) (drop start c) 0 0 (omega arith) ∙ get_or-drop start c 0 0 ∙ ap (λ (i : ℕ). get_or c i 0) (let e : start + 0 ≡ start = omega arith in e)

pub not_equal : (a b : ℕ) → a ≢ b → (a == b) ≡ false
not_equal a b ne = ⊎_elim (λ yes. absurd (ne yes.1)) (λ no. no.0) (eqb_tells a b)

pub equal : (a b : ℕ) → a ≡ b → (a == b) ≡ true
equal a b e = (Decides-eqb a b).1 e

pub closed_gate : (lines : ℕ) (slot : Slot) (c : List ℕ) → slice_index c (start_of lines slot) ≢ 0xA5 → slot_state lines slot c ≡ Closed
unfolding slot_state
closed_gate lines slot c shut =
    let test : (slice_index (page_in lines slot c) 0 == 0xA5) ≡ false = not_equal (slice_index (page_in lines slot c) 0) 0xA5 (λ e. shut (sym (gate_in_page lines slot c) ∙ e)) in
    ap (λ (b : Bool). if b then opened (header_in lines (page_in lines slot c)) (body_in lines slot c) else Closed) test

pub open_gate : (lines : ℕ) (slot : Slot) (c : List ℕ) (h : Header) → slice_index c (start_of lines slot) ≡ 0xA5 → header_in lines (page_in lines slot c) ≡ Some h → slot_state lines slot c ≡ opened (Some h) (body_in lines slot c)
unfolding slot_state
open_gate lines slot c h is_open said =
    let test : (slice_index (page_in lines slot c) 0 == 0xA5) ≡ true = equal (slice_index (page_in lines slot c) 0) 0xA5 (gate_in_page lines slot c ∙ is_open) in
    ap (λ (b : Bool). if b then opened (header_in lines (page_in lines slot c)) (body_in lines slot c) else Closed) test
    ∙ ap (λ (o : Option Header). opened o (body_in lines slot c)) said

pub by_states : (lines : ℕ) (c : List ℕ) (one two : SlotState) → length c ≡ device_size lines → slot_state lines First c ≡ one → slot_state lines Second c ≡ two → restored lines c ≡ chosen one two
unfolding restored
by_states lines c one two size p q =
    ap (λ (b : Bool). if b then chosen (slot_state lines First c) (slot_state lines Second c) else WrongSize) (equal (length c) (device_size lines) size)
    ∙ ap (λ (s : SlotState). chosen s (slot_state lines Second c)) p ∙ ap (λ (s : SlotState). chosen one s) q

-- behind a closed gate anything may stand
pub only_other : (lines : ℕ) (slot : Slot) (c : List ℕ) (old : Image) → length c ≡ device_size lines → slot_state lines (other slot) c ≡ Full old → slot_state lines slot c ≡ Closed → restored lines c ≡ Found (other slot) old
only_other lines First c old size there here = by_states lines c Closed (Full old) size here there
only_other lines Second c old size there here = by_states lines c (Full old) Closed size there here

pub chosen_newer : (one two : Image) → one.generation < two.generation → newer one two ≡ Found Second two
chosen_newer one two less =
    let differ : (one.generation == two.generation) ≡ false = not_equal one.generation two.generation (λ e. omega (arith, e)) in
    let below : nat_lt one.generation two.generation ≡ true = (Decides-ltb one.generation two.generation).1 less in
    ap (λ (b : Bool). if b then Damaged Second else if nat_lt one.generation two.generation then Found Second two else Found First one) differ
    ∙ ap (λ (b : Bool). if b then Found Second two else Found First one) below

not_below : (a b : ℕ) → b < a → nat_lt a b ≡ false
not_below a b less = grind (arith, nat_tests)

pub chosen_older : (one two : Image) → two.generation < one.generation → newer one two ≡ Found First one
chosen_older one two less =
    let differ : (one.generation == two.generation) ≡ false = not_equal one.generation two.generation (λ e. omega (arith, e)) in
    ap (λ (b : Bool). if b then Damaged Second else if nat_lt one.generation two.generation then Found Second two else Found First one) differ
    ∙ ap (λ (b : Bool). if b then Found Second two else Found First one) (not_below one.generation two.generation less)

pub the_newer : (lines : ℕ) (slot : Slot) (c : List ℕ) (old new : Image) → length c ≡ device_size lines → slot_state lines (other slot) c ≡ Full old → slot_state lines slot c ≡ Full new → old.generation < new.generation → restored lines c ≡ Found slot new
the_newer lines First c old new size there here less = by_states lines c (Full new) (Full old) size here there ∙ chosen_older new old less
the_newer lines Second c old new size there here less = by_states lines c (Full old) (Full new) size there here ∙ chosen_newer old new less

-- an open slot whose lines have the digest of its header, and one whose lines don't
pub opened_fits : (h : Header) (memory : List (List ℕ)) → digest_fits h.digest memory ≡ true → opened (Some h) memory ≡ Full (image_with h memory)
opened_fits h memory fits = ap (λ (b : Bool). if b then Full (image_with h memory) else Broken) fits

-- the digest of either version fits
pub version_fits : (version : Version) (memory : List (List ℕ)) → digest_fits (digest_for version memory) memory ≡ true
version_fits One memory = refl
version_fits Two memory = (bytes_eq-Decides (digest_of memory) (digest_of memory)).1 refl

pub opened_unfit : (h : Header) (memory : List (List ℕ)) → digest_fits h.digest memory ≡ false → opened (Some h) memory ≡ Broken
opened_unfit h memory unfit = ap (λ (b : Bool). if b then Full (image_with h memory) else Broken) unfit

never_by : (b : Bool) (image : Image) → (if b then Full image else Broken) ≡ Closed → ⊥
never_by true image is = cc
never_by false image is = cc

never_closed : (o : Option Header) (memory : List (List ℕ)) → opened o memory ≡ Closed → ⊥
never_closed (Some h) memory is = never_by (digest_fits h.digest memory) (image_with h memory) is
never_closed None memory is = cc

-- a slot that is closed has a gate that isn't open
pub shut_gate : (lines : ℕ) (slot : Slot) (c : List ℕ) → slot_state lines slot c ≡ Closed → slice_index c (start_of lines slot) ≢ 0xA5
unfolding slot_state
shut_gate lines slot c closed is_open =
    let test : (slice_index (page_in lines slot c) 0 == 0xA5) ≡ true = equal (slice_index (page_in lines slot c) 0) 0xA5 (gate_in_page lines slot c ∙ is_open) in
    never_closed (header_in lines (page_in lines slot c)) (body_in lines slot c)
    (sym (ap (λ (b : Bool). if b then opened (header_in lines (page_in lines slot c)) (body_in lines slot c) else Closed) test) ∙ closed)

-- a slot that is full has an open gate
pub gate_open : (lines : ℕ) (slot : Slot) (bytes : List ℕ) (image : Image) → slot_state lines slot bytes ≡ Full image → slice_index bytes (start_of lines slot) ≡ 0xA5
gate_open lines slot bytes image full =
    ⊎_elim (λ is. is.1) (λ isnt. let closed : slot_state lines slot bytes ≡ Closed = closed_gate lines slot bytes isnt.1 in absurd (let bad : ⊥ = cc in bad)) (eqb_tells (slice_index bytes (start_of lines slot)) 0xA5)
