-- What stands in the slot that is written after a step, one that went well or one that failed.
use Rattle.std.proofs.Math.Seq.{take-add}
use Rattle.std.proofs.lemmas.Bool.Decides.{leb_tells}
use Rattle.std.proofs.lemmas.List.{length-take-le}
use Rattle.std.proofs.lemmas.List.Elements.{All-drop, All-take}
use Rattle.std.specs.Prelude.{All}
use Rattle.save_device.specs.Changes.{changed}
use Rattle.save_image.proofs.BodyLaws.{lines_in-bytes_of, lines_in-page}
use Rattle.save_image.specs.Body.{bytes_of, page_of}
use Rattle.save_image.specs.Image.{digest_of}
use Rattle.slot_store.specs.Saving.{HasLines}
use Rattle.slot_store.proofs.Common.{[], if◌then◌else◌, ℕ, ◌*◌, ◌++◌, ◌+◌, ◌-◌, ◌<◌, ◌∙◌, ◌∷◌, ◌≡◌, ◌≢◌, ◌≤◌, ◌⊎◌, Bool, Close, DeviceState, Done, GateShut, GivesPage, HasSize, Header, IsMemory, IsTrue, IsWritten, List, Makes, Open, Page, Plan, Put, Settle, SlotHas, Step, SyncBody, SyncClosed, SyncOpen, Touches, ap, append-nil, arith, change_of, drop, false, gate_of, get_or, get_or-drop, get_or-take, holds-within, inl, inr, length, length-drop, length-take, lines_in, nat_lt, reach_of, refl, same_number_lists, slice_index, slice_range, slot_size, step_after, subst, suc, sym, take, true, ⊎_elim}
use Rattle.slot_store.proofs.Stops.{closes_gate, within}
use Rattle.slot_store.proofs.Torn.{HasHeaderOf, header_written, length-behind_gate, lines_stand, written_but_gate}

-- a test of two numbers, and what it tells
pub below_or_not : (a b : ℕ) → ((nat_lt a b ≡ true) × (a < b)) ⊎ ((nat_lt a b ≡ false) × (b ≤ a))
below_or_not a b = ⊎_elim (λ below. inl (below.0, omega (arith, below.1))) (λ above. inr (above.0, omega (arith, above.1))) (leb_tells (suc a) b)

-- the lines of a page that was written
page_lines_in : (memory : List (List ℕ)) (i : ℕ) (page : List ℕ) → All (λ line. length line ≡ 64) memory → 64 * i + 64 ≤ length memory → page ≡ page_of i memory → lines_in 64 page ≡ take 64 (drop (64 * i) memory)
page_lines_in memory i page whole fits is =
    let lines : List (List ℕ) = take 64 (drop (64 * i) memory) in
    let count : length lines ≡ 64 = length-take-le 64 (drop (64 * i) memory) (omega (arith, length-drop (64 * i) memory)) in
    let each : All (λ line. length line ≡ 64) lines = All-take (λ line. length line ≡ 64) 64 (drop (64 * i) memory) (All-drop (λ line. length line ≡ 64) (64 * i) memory whole) in
    ap (lines_in 64) (is ∙ sym (append-nil (bytes_of lines)))
    ∙ ap (λ (n : ℕ). lines_in n (bytes_of lines ++ [])) (sym count) ∙ lines_in-bytes_of lines [] each

module _ (plan : Plan) (memory : List (List ℕ)) (digest page : List ℕ) (old new : DeviceState) (d : length digest ≡ 32) (n : length page ≡ 4096) (size : HasSize plan.lines old) where
  fits : gate_of plan + slot_size plan.lines ≤ length old.bytes
  fits = omega (arith, size, within plan.lines plan.slot)

  module _ (next : Step) (good : Bool) (m : Makes (change_of plan digest next page) good old new) where
    kept_gate : ¬ Touches (change_of plan digest next page) (gate_of plan) → slice_index new.bytes (gate_of plan) ≡ slice_index old.bytes (gate_of plan)
    kept_gate out = m.outside.outside (gate_of plan) out

    kept_shut : GateShut plan old → ¬ Touches (change_of plan digest next page) (gate_of plan) → GateShut plan new
    kept_shut shut out = record { shut = λ e. shut.shut (sym (kept_gate out) ∙ e); fixed = λ l. ⊎_elim shut.fixed out (m.unsettled (gate_of plan) l) }

    kept_lines : (i : ℕ) → HasLines plan memory (64 * i) old.bytes → ((k : ℕ) → gate_of plan + 4096 ≤ k → k < gate_of plan + 4096 + 4096 * i → ¬ Touches (change_of plan digest next page) k) → HasLines plan memory (64 * i) new.bytes
    kept_lines i has out =
        lines_stand plan memory (64 * i) (4096 * i) old.bytes new.bytes (record { size = m.outside.size; each = λ k least most. m.outside.outside k (out k least most) }) (omega arith) has

    kept_written : IsWritten plan memory old.bytes → ((k : ℕ) → gate_of plan + 1 ≤ k → k < gate_of plan + slot_size plan.lines → ¬ Touches (change_of plan digest next page) k) → IsWritten plan memory new.bytes
    kept_written w out = written_but_gate plan memory old.bytes new.bytes fits (record { size = m.outside.size; each = λ k least most. m.outside.outside k (out k least (omega arith)) }) w

    -- nothing but the gate became unsettled
    kept_settled : ((k : ℕ) → IsTrue (old.unsettled k) → k ≡ gate_of plan) → ((k : ℕ) → Touches (change_of plan digest next page) k → k ≡ gate_of plan) → (k : ℕ) → IsTrue (new.unsettled k) → k ≡ gate_of plan
    kept_settled was out k l = ⊎_elim (was k) (out k) (m.unsettled k l)

  -- one page more
  grown : (i : ℕ) → 64 * (i + 1) ≤ plan.lines → IsMemory plan.lines memory → page ≡ page_of i memory → Makes (change_of plan digest (Page i) page) true old new → HasLines plan memory (64 * i) old.bytes → HasLines plan memory (64 * (i + 1)) new.bytes
  grown i reach lines is m has =
      let at : ℕ = gate_of plan + 4096 + 4096 * i in
      let before : HasLines plan memory (64 * i) new.bytes = kept_lines (Page i) true m i has (λ k least most w. omega (arith, w.0)) in
      let here : slice_range new.bytes at (at + 4096) ≡ page =
      same_number_lists (slice_range new.bytes at (at + 4096)) page (omega (arith, length-take (at + 4096 - at) (drop at new.bytes), length-drop at new.bytes, m.outside.size, fits))
      (λ k less.
      let small : k < 4096 = omega (arith, length-take (at + 4096 - at) (drop at new.bytes)) in
      get_or-take (at + 4096 - at) (drop at new.bytes) k 0 (omega arith) ∙ get_or-drop at new.bytes k 0
      ∙ holds-within old.bytes new.bytes page at 4096 (sym n) (omega (arith, fits)) m.done (at + k) 0 (omega arith) (omega arith)
      ∙ ap (λ (j : ℕ). get_or page j 0) (let e : at + k - at ≡ k = omega arith in e)) in
      lines_in-page (gate_of plan + 4096) i new.bytes
      ∙ ap (λ (l : List (List ℕ)). l ++ lines_in 64 (slice_range new.bytes at (at + 4096))) before
      ∙ ap (λ (p : List ℕ). take (64 * i) memory ++ lines_in 64 p) here
      ∙ ap (λ (l : List (List ℕ)). take (64 * i) memory ++ l) (page_lines_in memory i page lines.whole (omega (arith, lines.size)) is)
      ∙ sym (take-add (64 * i) 64 memory) ∙ ap (λ (k : ℕ). take k memory) (let e : 64 * i + 64 ≡ 64 * (i + 1) = omega arith in e)

  after_page : (i : ℕ) → 64 * (i + 1) ≤ plan.lines → GateShut plan new → HasLines plan memory (64 * (i + 1)) new.bytes → SlotHas plan memory (step_after plan.lines (Page i)) false new
  after_page i reach shut grew =
      elim (below_or_not plan.lines (64 * (i + 2))) [
        | inl last ↦
            let all : 64 * (i + 1) ≡ plan.lines = omega (arith, last.1, plan.capacity.whole) in
            subst (λ (b : Bool). SlotHas plan memory (if b then Header else Page (i + 1)) false new) (sym last.0)
            (shut, subst (λ (k : ℕ). HasLines plan memory k new.bytes) all grew)
        | inr further ↦
            subst (λ (b : Bool). SlotHas plan memory (if b then Header else Page (i + 1)) false new) (sym further.0) (shut, grew)
      ]

  -- the header is written in front of the lines
  all_kept : (good : Bool) → HasLines plan memory plan.lines old.bytes → Makes (change_of plan digest Header page) good old new → HasLines plan memory plan.lines new.bytes
  all_kept good has m =
      lines_stand plan memory plan.lines (64 * plan.lines) old.bytes new.bytes
      (record { size = m.outside.size; each = λ k least most. m.outside.outside k (λ w. omega (arith, w.1, least, length-behind_gate plan digest d)) }) (omega arith) has

  shut_after : (closed : Bool) → (closed ≡ true → GateShut plan old) → new.bytes ≡ changed (if closed then Settle else Put (gate_of plan) (0 ∷ [])) old.bytes → slice_index new.bytes (gate_of plan) ≢ 0xA5
  shut_after true shut does = λ e. (shut refl).shut (ap (λ (xs : List ℕ). slice_index xs (gate_of plan)) (sym does) ∙ e)
  shut_after false shut does = λ e.
      let zero_at : slice_index new.bytes (gate_of plan) ≡ get_or (0 ∷ []) (gate_of plan - gate_of plan) 0 = holds-within old.bytes new.bytes (0 ∷ []) (gate_of plan) 1 refl (omega (arith, fits)) does (gate_of plan) 0 (omega arith) (omega arith) in
      let nil : gate_of plan - gate_of plan ≡ 0 = omega arith in
      let wrong : 0xA5 ≡ 0 = sym e ∙ zero_at ∙ ap (λ (i : ℕ). get_or (0 ∷ []) i 0) nil in
      absurd (omega (arith, wrong))

  still_closed : (good : Bool) → Makes (change_of plan digest Close page) good old new → (plan.closed ≡ true → GateShut plan old) → plan.closed ≡ true → GateShut plan new
  still_closed good m shut closed =
      kept_shut Close good m (shut closed) (λ w. let open_now : plan.closed ≡ false = (closes_gate plan digest page (gate_of plan) w).0 in absurd (let bad : ⊥ = cc in bad))

  -- what stands after a step that went well
  pub stands_next : (next : Step) (tried : Bool) → reach_of next ≤ plan.lines → IsMemory plan.lines memory → GivesPage memory next page → (next ≡ Header → digest ≡ digest_of memory) → SlotHas plan memory next tried old → Makes (change_of plan digest next page) true old new
      → SlotHas plan memory (step_after plan.lines next) false new
  stands_next Close tried r lines is of s m = (shut_after plan.closed s m.done, still_closed true m s)
  stands_next SyncClosed tried r lines is of s m = (record { shut = λ e. s.0 (sym (kept_gate SyncClosed true m (λ w. w)) ∙ e); fixed = m.settled (gate_of plan) }, refl)
  stands_next (Page i) tried r lines is of s m =
      after_page i r (kept_shut (Page i) true m s.0 (λ w. omega (arith, w.0))) (grown i r lines is m s.1)
  stands_next Header tried r lines is of s m =
      let same : digest ≡ digest_of memory = of (let e : Header ≡ Header = refl in e) in (
        kept_shut Header true m s.0 (λ w. omega (arith, w.0)),
        record {
          header = subst (λ (x : List ℕ). HasHeaderOf plan x new.bytes) same (header_written plan digest d old.bytes new.bytes (omega (arith, fits)) m.outside.size m.done);
          body = all_kept true s.1 m;
        },
      )
  stands_next SyncBody tried r lines is of s m =
      (kept_written SyncBody true m s.1 (λ k least most w. w), (λ k l. absurd (m.settled k l)), (λ untried. kept_shut SyncBody true m s.0 (λ w. w)))
  stands_next Open tried r lines is of s m =
      let place : gate_of plan - gate_of plan ≡ 0 = omega arith in (
        kept_written Open true m s.0 (λ k least most w. omega (arith, w.1)),
        record {
          is_open = holds-within old.bytes new.bytes (0xA5 ∷ []) (gate_of plan) 1 refl (omega (arith, fits)) m.done (gate_of plan) 0 (omega arith) (omega arith) ∙ ap (λ (i : ℕ). get_or (0xA5 ∷ []) i 0) place;
          rest_settled = kept_settled Open true m s.1 (λ k w. omega (arith, w.0, w.1));
        },
      )
  stands_next SyncOpen tried r lines is of s m = (
    kept_written SyncOpen true m s.0 (λ k least most w. w),
    record { is_open = kept_gate SyncOpen true m (λ w. w) ∙ s.1.is_open; rest_settled = λ k l. absurd (m.settled k l) },
    m.settled,
  )
  stands_next Done tried r lines is of s m = (
    kept_written Done true m s.0 (λ k least most w. w),
    record { is_open = kept_gate Done true m (λ w. w) ∙ s.1.is_open; rest_settled = λ k l. absurd (m.settled k l) },
    m.settled,
  )

  -- what stands after a step that failed: the same again
  pub stands_again : (next : Step) (tried : Bool) → SlotHas plan memory next tried old → Makes (change_of plan digest next page) false old new → SlotHas plan memory next true new
  stands_again Close tried s m = still_closed false m s
  stands_again SyncClosed tried s m = ((λ e. s.0 (sym (kept_gate SyncClosed false m (λ w. w)) ∙ e)), (λ closed. kept_shut SyncClosed false m (s.1 closed) (λ w. w)))
  stands_again (Page i) tried s m = (
    kept_shut (Page i) false m s.0 (λ w. omega (arith, w.0)),
    kept_lines (Page i) false m i s.1 (λ k least most w. omega (arith, w.0)),
  )
  stands_again Header tried s m = (kept_shut Header false m s.0 (λ w. omega (arith, w.0)), all_kept false s.1 m)
  stands_again SyncBody tried s m = (kept_shut SyncBody false m s.0 (λ w. w), kept_written SyncBody false m s.1 (λ k least most w. w))
  stands_again Open tried s m = (
    kept_written Open false m s.0 (λ k least most w. omega (arith, w.1)),
    kept_settled Open false m s.1 (λ k w. omega (arith, w.0, w.1)),
    (λ untried. absurd (let bad : ⊥ = cc in bad)),
  )
  stands_again SyncOpen tried s m = (
    kept_written SyncOpen false m s.0 (λ k least most w. w),
    record { is_open = kept_gate SyncOpen false m (λ w. w) ∙ s.1.is_open; rest_settled = kept_settled SyncOpen false m s.1.rest_settled (λ k w. absurd w) },
  )
  stands_again Done tried s m = (
    kept_written Done false m s.0 (λ k least most w. w),
    record { is_open = kept_gate Done false m (λ w. w) ∙ s.1.is_open; rest_settled = kept_settled Done false m s.1.rest_settled (λ k w. absurd w) },
    (λ k l. ⊎_elim (s.2 k) (λ w. w) (m.unsettled k l)),
  )
