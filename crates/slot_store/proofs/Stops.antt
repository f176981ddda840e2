-- What a stop in a step of a save leaves.
use Rattle.save_device.specs.Device.{Elapses}
use Rattle.slot_store.specs.Saving.{FindsEither, FindsNew, FindsOld}
use Rattle.slot_store.proofs.Common.{[], if◌then◌else◌, ℕ, ◌+◌, ◌<◌, ◌∙◌, ◌∷◌, ◌≡◌, ◌≤◌, ◌⊎◌, Bool, Candidates, Close, DeviceState, DiffersOnlyAt, Done, First, Full, GateShut, HasSize, Header, Image, IsInRange, IsKept, IsTrue, IsWritten, Leaves, LeavesOnly, List, MayLeave, Open, Page, Plan, Put, SavingAt, Second, Settle, Slot, Step, SyncBody, SyncClosed, SyncOpen, Touches, arith, change_of, device_size, false, gate_of, inl, inr, length, other, present, reach_of, refl, slice_index, slot_size, slot_state, start_of, sym, true, within_call, ⊎_elim}
use Rattle.slot_store.proofs.Same.{state_same}
use Rattle.slot_store.proofs.Torn.{length-behind_gate, new_alone, old_alone, old_or_new, written_but_gate}

pub record InSlot (plan : Plan) (k : ℕ) : Type 0 where
  pub least : gate_of plan ≤ k
  pub most : k < gate_of plan + slot_size plan.lines

-- the close step writes the gate alone, and nothing where it is known closed
pub closes_gate : (plan : Plan) (digest page : List ℕ) (k : ℕ) → Touches (change_of plan digest Close page) k → (plan.closed ≡ false) × (k ≡ gate_of plan)
closes_gate plan digest page k w =
    elim plan.closed as (λ b. Touches (if b then Settle else Put (gate_of plan) (0 ∷ [])) k → (b ≡ false) × (k ≡ gate_of plan)) [ true ↦ λ none. absurd none | false ↦ λ v. (refl, omega (arith, v.0, v.1)) ] w

-- a step writes in its own slot alone
pub writes_here : (plan : Plan) (digest : List ℕ) (next : Step) (page : List ℕ) (k : ℕ) → length digest ≡ 32 → length page ≡ 4096 → reach_of next ≤ plan.lines → Touches (change_of plan digest next page) k → InSlot plan k
writes_here plan digest Close page k d n r w = let at : k ≡ gate_of plan = (closes_gate plan digest page k w).1 in record { least = omega arith; most = omega arith }
writes_here plan digest SyncClosed page k d n r w = absurd w
writes_here plan digest Header page k d n r w = record { least = omega (arith, w.0); most = omega (arith, w.1, length-behind_gate plan digest d) }
writes_here plan digest (Page i) page k d n r w = record { least = omega (arith, w.0); most = omega (arith, w.1) }
writes_here plan digest SyncBody page k d n r w = absurd w
writes_here plan digest Open page k d n r w = record { least = omega (arith, w.0); most = omega (arith, w.1) }
writes_here plan digest SyncOpen page k d n r w = absurd w
writes_here plan digest Done page k d n r w = absurd w

-- the slots don't meet
pub apart : (lines : ℕ) (slot : Slot) (k : ℕ) → start_of lines slot ≤ k → k < start_of lines slot + slot_size lines → IsInRange (start_of lines (other slot)) (slot_size lines) k → ⊥
apart lines First k a b there = omega (arith, a, b, there.0, there.1)
apart lines Second k a b there = omega (arith, a, b, there.0, there.1)

pub within : (lines : ℕ) (slot : Slot) → start_of lines slot + slot_size lines ≤ device_size lines
within lines First = omega arith
within lines Second = omega arith

-- a call that leaves the size
pub sized_within : (lines : ℕ) (old new : DeviceState) → Elapses old new → HasSize lines old → HasSize lines new → LeavesOnly old new (λ image. length image ≡ device_size lines)
sized_within lines old new time before after = within_call old new time (λ image left. left.size ∙ before) (λ image left. left.size ∙ after)

-- rows that differ at most here differ at most there
pub more : {V W : ℕ → Type 0} {bytes image : List ℕ} → ((k : ℕ) → V k → W k) → DiffersOnlyAt V bytes image → DiffersOnlyAt W bytes image
more so m = record { size = m.size; outside = λ k none. m.outside k (λ v. none (so k v)) }

-- what a step leaves outside its slot
pub in_slot : {old new : List ℕ} (plan : Plan) (digest : List ℕ) (next : Step) (page : List ℕ) → length digest ≡ 32 → length page ≡ 4096 → reach_of next ≤ plan.lines → DiffersOnlyAt (Touches (change_of plan digest next page)) old new → DiffersOnlyAt (IsInRange (gate_of plan) (slot_size plan.lines)) old new
in_slot plan digest next page d n r m = more (λ k w. let i : InSlot plan k = writes_here plan digest next page k d n r w in (i.least, i.most)) m

-- what a stop leaves after a call is what it leaves of a torn one
pub torn_after : {W : ℕ → Type 0} (old new : DeviceState) (image : List ℕ) → DiffersOnlyAt W old.bytes new.bytes → ((k : ℕ) → IsTrue (new.unsettled k) → IsTrue (old.unsettled k) ⊎ W k)
    → MayLeave (present new) image → DiffersOnlyAt (λ k. IsTrue (old.unsettled k) ⊎ W k) old.bytes image
torn_after old new image d u m = record { size = m.size ∙ d.size; outside = λ k none. m.outside k (λ l. none (u k l)) ∙ d.outside k (λ w. none (inr w)) }

module _ (candidates : Candidates) (old : Image) (plan : Plan) (memory : List (List ℕ)) (tried : Bool) (state : DeviceState) where
  -- all of the slot but the gate is written, and nothing but the gate is torn
  pub torn_gate : (next : Step) (image : List ℕ) → SavingAt candidates old plan memory next tried state → IsWritten plan memory state.bytes → DiffersOnlyAt (λ k. k ≡ gate_of plan) state.bytes image → FindsEither old plan memory image
  torn_gate next image s w m =
      old_or_new plan old state.bytes image s.size m.size s.newest
      (λ k here. m.outside k (λ (at : k ≡ gate_of plan). apart plan.lines plan.slot k (omega arith) (omega arith) here))
      memory s.lines s.rises
      (written_but_gate plan memory state.bytes image (omega (arith, s.size, within plan.lines plan.slot)) (record { size = m.size; each = λ k least most. m.outside k (λ (at : k ≡ gate_of plan). let bad : ⊥ = omega arith in bad) }) w)

  -- the gate is shut, and nothing of the other slot is torn
  pub shut_old : (next : Step) (image : List ℕ) → SavingAt candidates old plan memory next tried state → IsKept plan state → GateShut plan state → MayLeave (present state) image → FindsOld old plan image
  shut_old next image s kept shut m =
      old_alone plan old state.bytes image s.size m.size s.newest (λ k here. m.outside k (kept k here)) (λ e. shut.shut (sym (m.outside (gate_of plan) shut.fixed) ∙ e))

  module _ (digest page : List ℕ) (d : length digest ≡ 32) (n : length page ≡ 4096) where
    module _ (next : Step) (r : reach_of next ≤ plan.lines) (s : SavingAt candidates old plan memory next tried state) where
      -- a row that differs from the device's at most where it is unsettled or written has the other slot, where that is settled
      other_kept : (image : List ℕ) → IsKept plan state → DiffersOnlyAt (λ k. IsTrue (state.unsettled k) ⊎ Touches (change_of plan digest next page) k) state.bytes image
          → (k : ℕ) → IsInRange (start_of plan.lines (other plan.slot)) (slot_size plan.lines) k → slice_index image k ≡ slice_index state.bytes k
      other_kept image kept m k here =
          m.outside k (⊎_elim (kept k here) (λ w. let i : InSlot plan k = writes_here plan digest next page k d n r w in apart plan.lines plan.slot k i.least i.most here))

      -- the gate is as it was
      still_shut : (image : List ℕ) → IsKept plan state → DiffersOnlyAt (λ k. IsTrue (state.unsettled k) ⊎ Touches (change_of plan digest next page) k) state.bytes image
          → GateShut plan state → ¬ Touches (change_of plan digest next page) (gate_of plan) → FindsOld old plan image
      still_shut image kept m shut out =
          let same : slice_index image (gate_of plan) ≡ slice_index state.bytes (gate_of plan) = m.outside (gate_of plan) (⊎_elim shut.fixed out) in
          old_alone plan old state.bytes image s.size m.size s.newest (other_kept image kept m) (λ e. shut.shut (sym same ∙ e))

      new_only : (image : List ℕ) → IsKept plan state → DiffersOnlyAt (λ k. IsTrue (state.unsettled k) ⊎ Touches (change_of plan digest next page) k) state.bytes image
          → ((k : ℕ) → IsTrue (state.unsettled k) ⊎ Touches (change_of plan digest next page) k → k ≡ gate_of plan) → IsWritten plan memory state.bytes → slice_index image (gate_of plan) ≡ 0xA5 → FindsNew plan memory image
      new_only image kept m alone w gate =
          new_alone plan old state.bytes image s.size m.size s.newest (other_kept image kept m) memory s.lines s.rises
          (written_but_gate plan memory state.bytes image (omega (arith, s.size, within plan.lines plan.slot)) (record { size = m.size; each = λ k least most. m.outside k (λ u. let e : k ≡ gate_of plan = alone k u in omega arith) }) w) gate

    -- a stop before, in or after the call of a step
    pub stop_leaves : (next : Step) (image : List ℕ) → reach_of next ≤ plan.lines → SavingAt candidates old plan memory next tried state
        → DiffersOnlyAt (λ k. IsTrue (state.unsettled k) ⊎ Touches (change_of plan digest next page) k) state.bytes image → Leaves candidates old plan memory next image
    stop_leaves Close image r s m = s.guards image (more (λ k. ⊎_elim (λ u. inl u) (λ w. inr (closes_gate plan digest page k w))) m)
    stop_leaves SyncClosed image r s m = s.guards image (more (λ k. ⊎_elim (λ u. inl u) (λ w. absurd w)) m)
    stop_leaves Header image r s m = still_shut Header r s image s.guards m s.has.0 (λ w. omega (arith, w.0))
    stop_leaves (Page i) image r s m = still_shut (Page i) r s image s.guards m s.has.0 (λ w. omega (arith, w.0))
    stop_leaves SyncBody image r s m = still_shut SyncBody r s image s.guards m s.has.0 (λ w. w)
    stop_leaves Open image r s m = torn_gate Open image s s.has.0 (more (λ k. ⊎_elim (s.has.1 k) (λ w. omega (arith, w.0, w.1))) m)
    stop_leaves SyncOpen image r s m = torn_gate SyncOpen image s s.has.0 (more (λ k. ⊎_elim (s.has.1.rest_settled k) (λ w. absurd w)) m)
    stop_leaves Done image r s m =
        new_only Done r s image s.guards m (λ k. ⊎_elim (λ u. absurd (s.has.2 k u)) (λ w. absurd w)) s.has.0
        (m.outside (gate_of plan) (⊎_elim (λ u. s.has.2 (gate_of plan) u) (λ w. w)) ∙ s.has.1.is_open)

    pub stop_before : (next : Step) (image : List ℕ) → reach_of next ≤ plan.lines → SavingAt candidates old plan memory next tried state → MayLeave (present state) image → Leaves candidates old plan memory next image
    stop_before next image r s m = stop_leaves next image r s (more (λ k u. inl u) m)

    -- the other slot holds the old image after a call too
    pub newest_after : (next : Step) → reach_of next ≤ plan.lines → SavingAt candidates old plan memory next tried state → (new : List ℕ) → DiffersOnlyAt (Touches (change_of plan digest next page)) state.bytes new
        → slot_state plan.lines (other plan.slot) new ≡ Full old
    newest_after next r s new m =
        state_same plan.lines (other plan.slot) state.bytes new (record { size = m.size; each = λ k least most. m.outside k (λ w. let i : InSlot plan k = writes_here plan digest next page k d n r w in apart plan.lines plan.slot k i.least i.most (least, most)) }) ∙ s.newest

-- the other slot stays settled
pub kept_after : (plan : Plan) (digest page : List ℕ) (d : length digest ≡ 32) (n : length page ≡ 4096) (next : Step) (old new : DeviceState) → reach_of next ≤ plan.lines → IsKept plan old
    → ((k : ℕ) → IsTrue (new.unsettled k) → IsTrue (old.unsettled k) ⊎ Touches (change_of plan digest next page) k) → IsKept plan new
kept_after plan digest page d n next old new r kept u k here l =
    ⊎_elim (kept k here) (λ w. let i : InSlot plan k = writes_here plan digest next page k d n r w in apart plan.lines plan.slot k i.least i.most here) (u k l)
