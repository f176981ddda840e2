-- What a row restores to where the slot that is written is shut, and where all of it but the gate is written.
use Rattle.std.proofs.Common.{drop-cons}
use Rattle.std.proofs.lemmas.List.{take_all}
use Rattle.save_image.proofs.Again.{header-gate, length-digest_of, length-header, length-tail_of, read_again}
use Rattle.save_image.specs.Image.{digest_of}
use Rattle.save_image.specs.declared.reading.Version.TheVariants.{Two}
use Rattle.save_image.specs.declared.reading.Header.{Header}
use Rattle.slot_store.specs.Changes.{planned}
use Rattle.slot_store.specs.Saving.{HasLines}
use Rattle.slot_store.specs.Slots.{opened}
use Rattle.slot_store.proofs.Common.{ℕ, ◌*◌, ◌+◌, ◌-◌, ◌<◌, ◌∙◌, ◌∷◌, ◌≡◌, ◌≢◌, ◌≤◌, ◌⊎◌, Found, Full, Image, IsInRange, IsMemory, IsWritten, List, Plan, Some, ap, arith, arm_byte, body_in, device_size, drop, eqb_tells, gate_of, get_or, get_or-drop, get_or-take, header_in, holds-within, image_of, inl, inr, length, length-drop, length-take, other, overwritten, page_in, restored, same_number_lists, slice_index, slice_range, slot_size, slot_state, start_of, suc, sym, take, ⊎_elim}
use Rattle.slot_store.proofs.Gates.{closed_gate, only_other, open_gate, opened_fits, the_newer, version_fits}
use Rattle.slot_store.proofs.Same.{Agree, lines_same, part_same, state_same}

page_split : (start : ℕ) (c : List ℕ) → start < length c → slice_range c start (start + 4096) ≡ get_or c start 0 ∷ take 4095 (drop (start + 1) c)
page_split start c less =
    let n : start + 4096 - start ≡ 4096 = omega arith in
    ap (λ (i : ℕ). take i (drop start c)) n ∙ ap (λ (xs : List ℕ). take 4096 xs) (drop-cons c start 0 less) ∙ ap (λ (i : ℕ). get_or c start 0 ∷ take 4095 (drop i c)) (let e : suc start ≡ start + 1 = omega arith in e)

-- the header of the slot is the planned one with this digest, whatever its gate
abbrev pub HasHeaderOf : Plan → List ℕ → List ℕ → Type 0
HasHeaderOf plan digest bytes = page_in plan.lines plan.slot bytes ≡ planned plan digest (slice_index bytes (gate_of plan))

module _ (plan : Plan) (digest : List ℕ) (long : length digest ≡ 32) where
  pub length-planned : (gate : ℕ) → length (planned plan digest gate) ≡ 4096
  length-planned gate = length-header (Some digest) gate (arm_byte plan.armed) plan.generation plan.count plan.lines (length-tail_of digest long)

  pub length-behind_gate : length (drop 1 (planned plan digest 0)) ≡ 4095
  length-behind_gate = length-drop 1 (planned plan digest 0) ∙ omega (arith, length-planned 0)

  header_from : (c : List ℕ) → gate_of plan < length c → take 4095 (drop (gate_of plan + 1) c) ≡ drop 1 (planned plan digest 0) → HasHeaderOf plan digest c
  header_from c less rest =
      page_split (gate_of plan) c less ∙ ap (λ (xs : List ℕ). slice_index c (gate_of plan) ∷ xs) rest
      ∙ sym (header-gate (Some digest) (slice_index c (gate_of plan)) 0 (arm_byte plan.armed) plan.generation plan.count plan.lines)

  rest_from : (c : List ℕ) → gate_of plan < length c → HasHeaderOf plan digest c → take 4095 (drop (gate_of plan + 1) c) ≡ drop 1 (planned plan digest 0)
  rest_from c less has =
      let one : slice_index c (gate_of plan) ∷ take 4095 (drop (gate_of plan + 1) c) ≡ slice_index c (gate_of plan) ∷ drop 1 (planned plan digest 0) =
      sym (page_split (gate_of plan) c less) ∙ has ∙ header-gate (Some digest) (slice_index c (gate_of plan)) 0 (arm_byte plan.armed) plan.generation plan.count plan.lines in
      ap (λ (xs : List ℕ). drop 1 xs) one

  -- the header stands where all its bytes but the gate are as they were
  pub header_but_gate : (bytes c : List ℕ) → gate_of plan < length bytes → Agree (gate_of plan + 1) 4095 bytes c → HasHeaderOf plan digest bytes → HasHeaderOf plan digest c
  header_but_gate bytes c less a has =
      header_from c (omega (arith, a.size)) (part_same (gate_of plan + 1) 4095 4095 (gate_of plan + 1) bytes c a (omega arith) (omega arith) ∙ rest_from bytes less has)

  pub header_written : (bytes c : List ℕ) → gate_of plan + 4096 ≤ length bytes → length c ≡ length bytes → c ≡ overwritten bytes (gate_of plan + 1) (drop 1 (planned plan digest 0)) → HasHeaderOf plan digest c
  header_written bytes c fits size holds =
      let at = gate_of plan + 1 in
      let n : length (drop 1 (planned plan digest 0)) ≡ 4095 = length-behind_gate in
      let l : length (take 4095 (drop at c)) ≡ 4095 = omega (arith, length-take 4095 (drop at c), length-drop at c) in
      header_from c (omega (arith, size)) (same_number_lists (take 4095 (drop at c)) (drop 1 (planned plan digest 0)) (l ∙ sym n)
      (λ k less. let small : k < 4095 = omega (arith, l) in
      get_or-take 4095 (drop at c) k 0 small ∙ get_or-drop at c k 0
      ∙ holds-within bytes c (drop 1 (planned plan digest 0)) at 4095 (sym n) (omega arith) holds (at + k) 0 (omega arith) (omega arith)
      ∙ ap (λ (i : ℕ). get_or (drop 1 (planned plan digest 0)) i 0) (let e : at + k - at ≡ k = omega arith in e)))

module _ (plan : Plan) where
  -- the first n lines stand where their bytes do
  pub lines_stand : (memory : List (List ℕ)) (n m : ℕ) (bytes c : List ℕ) → Agree (gate_of plan + 4096) m bytes c → 64 * n ≤ m → HasLines plan memory n bytes → HasLines plan memory n c
  lines_stand memory n m bytes c a fits has = lines_same (gate_of plan + 4096) m n (gate_of plan + 4096) bytes c a (omega arith) (omega arith) ∙ has

  pub written_but_gate : (memory : List (List ℕ)) (bytes c : List ℕ) → gate_of plan + slot_size plan.lines ≤ length bytes → Agree (gate_of plan + 1) (slot_size plan.lines - 1) bytes c → IsWritten plan memory bytes → IsWritten plan memory c
  written_but_gate memory bytes c fits a w =
      record {
        header = header_but_gate plan (digest_of memory) (length-digest_of memory) bytes c (omega arith) (record { size = a.size; each = λ k least most. a.each k least (omega arith) }) w.header;
        body = lines_stand memory plan.lines (64 * plan.lines) bytes c (record { size = a.size; each = λ k least most. a.each k (omega arith) (omega arith) }) (omega arith) w.body;
      }

  -- a slot that is written and has an open gate holds the image
  pub holds_new : (memory : List (List ℕ)) (c : List ℕ) → IsMemory plan.lines memory → IsWritten plan memory c → slice_index c (gate_of plan) ≡ 0xA5 → slot_state plan.lines plan.slot c ≡ Full (image_of plan memory)
  holds_new memory c lines w is_open =
      let h : Header = record { gate = slice_index c (gate_of plan); arm = arm_byte plan.armed; generation = plan.generation; count = plan.count; digest = Some (digest_of memory) } in
      let said : header_in plan.lines (page_in plan.lines plan.slot c) ≡ Some h = read_again plan.lines (page_in plan.lines plan.slot c) h (ap length w.header ∙ length-planned plan (digest_of memory) (length-digest_of memory) (slice_index c (gate_of plan))) w.header plan.numbers in
      let body : body_in plan.lines plan.slot c ≡ memory = w.body ∙ take_all plan.lines memory (omega (arith, lines.size)) in
      open_gate plan.lines plan.slot c h is_open said ∙ ap (λ (m : List (List ℕ)). opened (Some h) m) body ∙ opened_fits h memory (version_fits Two memory)

  module _ (old : Image) (bytes c : List ℕ) (size : length bytes ≡ device_size plan.lines) (same : length c ≡ length bytes)
      (newest : slot_state plan.lines (other plan.slot) bytes ≡ Full old)
      (kept : (k : ℕ) → IsInRange (start_of plan.lines (other plan.slot)) (slot_size plan.lines) k → slice_index c k ≡ slice_index bytes k) where
    newest_still : slot_state plan.lines (other plan.slot) c ≡ Full old
    newest_still = state_same plan.lines (other plan.slot) bytes c (record { size = same; each = λ k least most. kept k (least, most) }) ∙ newest

    -- whatever was torn behind a closed gate
    pub old_alone : slice_index c (gate_of plan) ≢ 0xA5 → restored plan.lines c ≡ Found (other plan.slot) old
    old_alone shut = only_other plan.lines plan.slot c old (same ∙ size) newest_still (closed_gate plan.lines plan.slot c shut)

    -- all but the gate stands
    module _ (memory : List (List ℕ)) (lines : IsMemory plan.lines memory) (rises : old.generation < plan.generation) (written : IsWritten plan memory c) where
      pub new_alone : slice_index c (gate_of plan) ≡ 0xA5 → restored plan.lines c ≡ Found plan.slot (image_of plan memory)
      new_alone is_open = the_newer plan.lines plan.slot c old (image_of plan memory) (same ∙ size) newest_still (holds_new memory c lines written is_open) rises

      pub old_or_new : (restored plan.lines c ≡ Found (other plan.slot) old) ⊎ (restored plan.lines c ≡ Found plan.slot (image_of plan memory))
      old_or_new = ⊎_elim (λ open_now. inr (new_alone open_now.1)) (λ shut_now. inl (old_alone shut_now.1)) (eqb_tells (slice_index c (gate_of plan)) 0xA5)
