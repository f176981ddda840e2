-- A slot that holds an image has exactly its bytes.
use Rattle.std.proofs.Math.Seq.{take-add}
use Rattle.std.proofs.lemmas.List.{append_cancel_left, drop-drop, length-take-le, take_all, take_at}
use Rattle.std.proofs.lemmas.List.Elements.{All-cons, All-nil}
use Rattle.std.proofs.lemmas.Slice.Eq.{bytes_eq-Decides}
use Rattle.std.specs.Prelude.{◌==◌, All, None, Option}
use Rattle.save_image.proofs.Again.{again_gate, is_spelled, length-header, length-tail, read_again}
use Rattle.save_image.proofs.BodyLaws.{bytes_of-lines_in, length-lines_in, lines_in-bytes_of, lines_in-take}
use Rattle.save_image.specs.Body.{bytes_of}
use Rattle.save_image.specs.Header.{Fits}
use Rattle.save_image.specs.Image.{IsImage, digest_for, digest_of, image_bytes}
use Rattle.save_image.specs.declared.reading.Header.{Header}
use Rattle.save_image.specs.declared.reading.Version.{Version}
use Rattle.save_image.specs.declared.reading.Version.TheVariants.{One, Two}
use Rattle.slot_store.specs.Changes.{planned}
use Rattle.slot_store.specs.Slots.{Broken, digest_fits, opened, slot_state}
use Rattle.slot_store.proofs.Common.{[], if◌then◌else◌, ℕ, ◌*◌, ◌++◌, ◌+◌, ◌-◌, ◌∙◌, ◌≡◌, ◌≤◌, Bool, Closed, Full, Image, IsMemory, IsWritten, List, Plan, Slot, Some, ap, append-nil, arith, body_in, device_size, drop, false, gate_of, header, header_in, image_of, image_with, length, length-drop, length-take, lines_in, page_in, refl, slice_index, slice_range, slot_size, start_of, subst, suc, sym, take, true, zero}
use Rattle.slot_store.proofs.Gates.{equal, gate_in_page, gate_open, open_gate, opened_fits, opened_unfit, version_fits}
use Rattle.slot_store.proofs.Stops.{within}

-- a header page, and then the bytes of the lines
pub slot_split : (start n : ℕ) (c : List ℕ) → slice_range c start (start + (4096 + n)) ≡ slice_range c start (start + 4096) ++ take n (drop (start + 4096) c)
slot_split start n c =
    ap (λ (m : ℕ). take m (drop start c)) (let e : start + (4096 + n) - start ≡ 4096 + n = omega arith in e)
    ∙ take-add 4096 n (drop start c)
    ∙ ap (λ (m : ℕ). take m (drop start c) ++ take n (drop 4096 (drop start c))) (let e : 4096 ≡ start + 4096 - start = omega arith in e)
    ∙ ap (λ (rest : List ℕ). slice_range c start (start + 4096) ++ take n rest) (drop-drop 4096 start c)

pub written_bytes : (plan : Plan) (memory : List (List ℕ)) (c : List ℕ) → IsMemory plan.lines memory → IsWritten plan memory c → slice_index c (gate_of plan) ≡ 0xA5 → gate_of plan + slot_size plan.lines ≤ length c
    → slice_range c (gate_of plan) (gate_of plan + slot_size plan.lines) ≡ image_bytes plan.lines Two (image_of plan memory)
unfolding image_bytes
written_bytes plan memory c lines w is_open fits =
    let body : lines_in plan.lines (drop (gate_of plan + 4096) c) ≡ memory = w.body ∙ take_all plan.lines memory (omega (arith, lines.size)) in
    slot_split (gate_of plan) (64 * plan.lines) c
    ∙ ap (λ (page : List ℕ). page ++ take (64 * plan.lines) (drop (gate_of plan + 4096) c)) (w.header ∙ ap (planned plan (digest_of memory)) is_open)
    ∙ ap (λ (bytes : List ℕ). planned plan (digest_of memory) 0xA5 ++ bytes) (sym (bytes_of-lines_in plan.lines (drop (gate_of plan + 4096) c)) ∙ ap bytes_of body)

lines_in-IsMemory : (n : ℕ) (bytes : List ℕ) → 64 * n ≤ length bytes → IsMemory n (lines_in n bytes)
lines_in-IsMemory n bytes fits = record { size = length-lines_in n bytes; whole = each_whole n bytes fits }
  where
    each_whole : (n : ℕ) (bytes : List ℕ) → 64 * n ≤ length bytes → All (λ line. length line ≡ 64) (lines_in n bytes)
    each_whole zero bytes fits = All-nil (λ line. length line ≡ 64)
    each_whole (suc n) bytes fits =
        All-cons (λ line. length line ≡ 64) (take 64 bytes) (lines_in n (drop 64 bytes)) (length-take-le 64 bytes (omega arith)) (each_whole n (drop 64 bytes) (omega (arith, length-drop 64 bytes)))

-- a digest that fits is that of one of the versions
fits_as : (digest : Option (List ℕ)) (memory : List (List ℕ)) → digest_fits digest memory ≡ true → (version : Version) × (digest ≡ digest_for version memory)
fits_as None memory fits = (One, refl)
fits_as (Some digest) memory fits =
    let same : digest ≡ digest_of memory = (bytes_eq-Decides digest (digest_of memory)).0 fits in (Two, ap (λ (bytes : List ℕ). let d : Option (List ℕ) = Some bytes in d) same)

-- what a full slot's header and lines are
record IsFilled (lines : ℕ) (slot : Slot) (bytes : List ℕ) (image : Image) : Type 0 where
  version : Version
  page : page_in lines slot bytes ≡ header (digest_for version image.memory) 0xA5 image.arm image.generation image.count lines
  body : body_in lines slot bytes ≡ image.memory
  fits : Fits image.generation image.count

opened_full : (lines : ℕ) (slot : Slot) (bytes : List ℕ) (image : Image) (o : Option Header) → slice_index bytes (start_of lines slot) ≡ 0xA5 → header_in lines (page_in lines slot bytes) ≡ o → opened o (body_in lines slot bytes) ≡ Full image → IsFilled lines slot bytes image
opened_full lines slot bytes image (Some h) gate said full = by_fit (digest_fits h.digest (body_in lines slot bytes)) refl
  where
    by_fit : (b : Bool) → digest_fits h.digest (body_in lines slot bytes) ≡ b → IsFilled lines slot bytes image
    by_fit true fits =
        let memory : List (List ℕ) = body_in lines slot bytes in let page : List ℕ = page_in lines slot bytes in
        let whole : Full (image_with h memory) ≡ Full image = sym (opened_fits h memory fits) ∙ full in
        let same : image_with h memory ≡ image = cc in
        let spelled = is_spelled lines page h said in
        let first : h.gate ≡ 0xA5 = sym (again_gate h.digest h.gate h.arm h.generation h.count lines page spelled.0) ∙ gate_in_page lines slot bytes ∙ gate in
        let fit = fits_as h.digest memory fits in
        subst (λ (i : Image). IsFilled lines slot bytes i) same (record {
          version = fit.0;
          page = spelled.0 ∙ ap (λ (g : ℕ). header h.digest g h.arm h.generation h.count lines) first ∙ ap (λ (d : Option (List ℕ)). header d 0xA5 h.arm h.generation h.count lines) fit.1;
          body = refl;
          fits = spelled.1;
        })
    by_fit false unfit =
        let none : Broken ≡ Full image = sym (opened_unfit h (body_in lines slot bytes) unfit) ∙ full in
        absurd (let bad : ⊥ = cc in bad)
opened_full lines slot bytes image None gate said full = absurd (let bad : ⊥ = cc in bad)

full_slot : (lines : ℕ) (slot : Slot) (bytes : List ℕ) (image : Image) → slot_state lines slot bytes ≡ Full image → IsFilled lines slot bytes image
unfolding slot_state
full_slot lines slot bytes image full =
    let gate : slice_index bytes (start_of lines slot) ≡ 0xA5 = gate_open lines slot bytes image full in
    let test : (slice_index (page_in lines slot bytes) 0 == 0xA5) ≡ true = equal (slice_index (page_in lines slot bytes) 0) 0xA5 (gate_in_page lines slot bytes ∙ gate) in
    opened_full lines slot bytes image (header_in lines (page_in lines slot bytes)) gate refl
    (sym (ap (λ (b : Bool). if b then opened (header_in lines (page_in lines slot bytes)) (body_in lines slot bytes) else Closed) test) ∙ full)

module _ (lines : ℕ) (slot : Slot) (bytes : List ℕ) (image : Image) (size : length bytes ≡ device_size lines) where
  rest : List ℕ
  rest = drop (start_of lines slot + 4096) bytes

  pub image_from_full : slot_state lines slot bytes ≡ Full image → IsImage lines image × ((version : Version) × (slice_range bytes (start_of lines slot) (start_of lines slot + slot_size lines) ≡ image_bytes lines version image))
  unfolding image_bytes rest
  image_from_full full =
      let is = full_slot lines slot bytes image full in
      let room : 64 * lines ≤ length rest = omega (arith, length-drop (start_of lines slot + 4096) bytes, size, within lines slot) in (
        record { fits = is.fits; memory = subst (λ (m : List (List ℕ)). IsMemory lines m) is.body (lines_in-IsMemory lines rest room) },
        (
          is.version,
          slot_split (start_of lines slot) (64 * lines) bytes
              ∙ ap (λ (page : List ℕ). page ++ take (64 * lines) rest) is.page
              ∙ ap (λ (b : List ℕ). header (digest_for is.version image.memory) 0xA5 image.arm image.generation image.count lines ++ b) (sym (bytes_of-lines_in lines rest) ∙ ap bytes_of is.body),
        ),
      )

  pub full_from_image : IsImage lines image × ((version : Version) × (slice_range bytes (start_of lines slot) (start_of lines slot + slot_size lines) ≡ image_bytes lines version image)) → slot_state lines slot bytes ≡ Full image
  unfolding image_bytes rest
  full_from_image is =
      let page : List ℕ = page_in lines slot bytes in
      let version : Version = is.1.0 in let digest : Option (List ℕ) = digest_for version image.memory in
      let spelled : List ℕ = header digest 0xA5 image.arm image.generation image.count lines in
      let long : length page ≡ 4096 = omega (arith, length-take (start_of lines slot + 4096 - start_of lines slot) (drop (start_of lines slot) bytes), length-drop (start_of lines slot) bytes, size, within lines slot) in
      let parts : page ++ take (64 * lines) rest ≡ spelled ++ bytes_of image.memory = sym (slot_split (start_of lines slot) (64 * lines) bytes) ∙ is.1.1 in
      let same_page : page ≡ spelled = sym (take_at page (take (64 * lines) rest) 4096 long) ∙ ap (take 4096) parts ∙ take_at spelled (bytes_of image.memory) 4096 (length-header digest 0xA5 image.arm image.generation image.count lines (length-tail version image.memory)) in
      let same_rest : take (64 * lines) rest ≡ bytes_of image.memory = append_cancel_left spelled (take (64 * lines) rest) (bytes_of image.memory) (ap (λ (p : List ℕ). p ++ take (64 * lines) rest) (sym same_page) ∙ parts) in
      let body : body_in lines slot bytes ≡ image.memory =
      sym (lines_in-take lines (64 * lines) rest (omega arith)) ∙ ap (lines_in lines) (same_rest ∙ sym (append-nil (bytes_of image.memory)))
      ∙ ap (λ (n : ℕ). lines_in n (bytes_of image.memory ++ [])) (sym is.0.memory.size) ∙ lines_in-bytes_of image.memory [] is.0.memory.whole in
      let h : Header = record { gate = 0xA5; arm = image.arm; generation = image.generation; count = image.count; digest = digest } in
      let gate : slice_index bytes (start_of lines slot) ≡ 0xA5 = sym (gate_in_page lines slot bytes) ∙ again_gate digest 0xA5 image.arm image.generation image.count lines page same_page in
      open_gate lines slot bytes h gate (read_again lines page h long same_page is.0.fits) ∙ ap (λ (m : List (List ℕ)). opened (Some h) m) body ∙ opened_fits h image.memory (version_fits version image.memory)
