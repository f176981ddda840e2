-- What the steps of a save are, taken together.
use Rattle.slot_store.specs.Finishing.{LeavesInFirst}
use Rattle.slot_store.specs.Rest.{IsAmongOr, IsAtRestStill}
use Rattle.slot_store.specs.Runs.{plan_of}
use Rattle.slot_store.specs.Saving.{candidates_before, old_and_new}
use Rattle.slot_store.specs.Whole.{FindsOldOrNew, IsReady, made_over}
use Rattle.slot_store.specs.declared.plan.Newest.{Newest}
use Rattle.slot_store.specs.declared.saving.SaveRun.{SaveRun}
use Rattle.slot_store.proofs.Common.{ℕ, ◌+◌, ◌∙◌, ◌≡◌, ◌⊎◌, Bool, Candidates, Close, DeviceState, Done, Found, Header, Image, IsAmong, IsAtRest, IsAtRestOn, Leaves, LeavesOnly, List, MayLeave, Open, Outcome, Page, Plan, Slot, Step, SyncBody, SyncClosed, SyncOpen, ap, arm_byte, closed_before, false, image_of, inl, inr, length, only, other, present, rearmed, refl, restored, step_on, subst, sym, told, true, weaker, ⊎_elim}
use Rattle.slot_store.proofs.Resting.{found_only, newest_among, other_other, rest_leaves}

module _ (candidates : Candidates) (old : Image) (plan : Plan) (memory : List (List ℕ)) (among : IsAmong candidates (Found (other plan.slot) old)) where
  old_among : (outcome : Outcome) → outcome ≡ Found (other plan.slot) old → IsAmongOr candidates plan.slot (image_of plan memory) outcome
  old_among outcome is = inl (subst (IsAmong candidates) (sym is) among)

  -- a stop in a step leaves a candidate or the new image
  pub leaves_among : (next : Step) (image : List ℕ) → Leaves candidates old plan memory next image → IsAmongOr candidates plan.slot (image_of plan memory) (restored plan.lines image)
  leaves_among Close image leaves = inl leaves
  leaves_among SyncClosed image leaves = inl leaves
  leaves_among Header image leaves = old_among (restored plan.lines image) leaves
  leaves_among (Page i) image leaves = old_among (restored plan.lines image) leaves
  leaves_among SyncBody image leaves = old_among (restored plan.lines image) leaves
  leaves_among Open image leaves = ⊎_elim (old_among (restored plan.lines image)) (λ new. inr new) leaves
  leaves_among SyncOpen image leaves = ⊎_elim (old_among (restored plan.lines image)) (λ new. inr new) leaves
  leaves_among Done image leaves = inr leaves

  both_among : (outcome : Outcome) → IsAmong (old_and_new old plan memory) outcome → IsAmongOr candidates plan.slot (image_of plan memory) outcome
  both_among outcome (inl is) =
      let own : is.arm ≡ old.arm = is.own refl in
      old_among outcome (is.found ∙ ap (λ (arm : ℕ). Found (other plan.slot) (rearmed old arm)) own)
  both_among outcome (inr is) = inr (subst (λ (slot : Slot). outcome ≡ Found slot (image_of plan memory)) (other_other plan.slot) is)

  -- and so does one after the save was given up
  pub before_among : (next : Step) (tried : Bool) (outcome : Outcome) → IsAmong (candidates_before candidates old plan memory next tried) outcome → IsAmongOr candidates plan.slot (image_of plan memory) outcome
  before_among Close tried outcome is = inl is
  before_among SyncClosed tried outcome is = inl is
  before_among Header tried outcome is = old_among outcome (found_only (other plan.slot) old outcome is)
  before_among (Page i) tried outcome is = old_among outcome (found_only (other plan.slot) old outcome is)
  before_among SyncBody tried outcome is = old_among outcome (found_only (other plan.slot) old outcome is)
  before_among Open true outcome is = both_among outcome is
  before_among Open false outcome is = old_among outcome (found_only (other plan.slot) old outcome is)
  before_among SyncOpen tried outcome is = both_among outcome is
  before_among Done tried outcome is = inr (found_only plan.slot (image_of plan memory) outcome is)

-- a plan of a save over this image
pub record IsPlanOver (newest : Newest) (closed : Bool) (count : ℕ) (armed : Bool) (lines : ℕ) (plan : Plan) : Type 0 where
  pub slot : plan.slot ≡ other newest.slot
  pub generation : plan.generation ≡ newest.generation + 1
  pub count_is : plan.count ≡ count
  pub arm : plan.armed ≡ armed
  pub shut : plan.closed ≡ closed
  pub lines_are : plan.lines ≡ lines

module _ (newest : Newest) (closed : Bool) (count : ℕ) (armed : Bool) (memory : List (List ℕ)) (plan : Plan) (is : IsPlanOver newest closed count armed (length memory) plan) where
  image_is : image_of plan memory ≡ made_over newest count armed memory
  image_is = let arm : arm_byte plan.armed ≡ arm_byte armed = ap arm_byte is.arm in let same : image_of plan memory ≡ made_over newest count armed memory = cc (is.generation, is.count_is) in same

  back : other plan.slot ≡ newest.slot
  back = ap other is.slot ∙ other_other newest.slot

  among_in : (candidates : Candidates) (outcome : Outcome) → IsAmongOr candidates plan.slot (image_of plan memory) outcome → IsAmongOr candidates (other newest.slot) (made_over newest count armed memory) outcome
  among_in candidates outcome either =
      subst (λ (image : Image). IsAmongOr candidates (other newest.slot) image outcome) image_is (subst (λ (slot : Slot). IsAmongOr candidates slot (image_of plan memory) outcome) is.slot either)

  found_in : (candidates : Candidates) (old : Image) → IsAmong candidates (Found newest.slot old) → IsAmong candidates (Found (other plan.slot) old)
  found_in candidates old among = subst (λ (slot : Slot). IsAmong candidates (Found slot old)) (sym back) among

  -- a stop in a step, in the save's words
  pub stop_in_step : (candidates : Candidates) (old : Image) (next : Step) (image : List ℕ) → IsAmong candidates (Found newest.slot old) → Leaves candidates old plan memory next image
      → IsAmongOr candidates (other newest.slot) (made_over newest count armed memory) (restored (length memory) image)
  stop_in_step candidates old next image among leaves =
      subst (λ (lines : ℕ). IsAmongOr candidates (other newest.slot) (made_over newest count armed memory) (restored lines image)) is.lines_are
      (among_in candidates (restored plan.lines image) (leaves_among candidates old plan memory (found_in candidates old among) next image leaves))

  -- at any moment of it
  pub stops_over : (candidates : Candidates) (old : Image) (run : SaveRun) (before after : DeviceState) (tried : ℕ) → plan_of run ≡ plan → IsReady candidates old newest closed memory before
      → LeavesOnly before after (λ left. MayLeave (present before) left ⊎ LeavesInFirst candidates old memory run tried left)
      → LeavesOnly before after (λ left. IsAmongOr candidates (other newest.slot) (made_over newest count armed memory) (restored (length memory) left))
  stops_over candidates old run before after tried same ready leaves = weaker before after each leaves
    where
      each : (left : List ℕ) → MayLeave (present before) left ⊎ LeavesInFirst candidates old memory run tried left → IsAmongOr candidates (other newest.slot) (made_over newest count armed memory) (restored (length memory) left)
      each left (inl may) = inl (rest_leaves before left ready.rest may)
      each left (inr first) =
          stop_in_step candidates old (step_on run first.0) left (newest_among candidates old newest.slot (length memory) closed before ready.rest)
          (subst (λ (p : Plan). Leaves candidates old p memory (step_on run first.0) left) same first.2)

  -- at its end
  pub saved_over : (state : DeviceState) → IsAtRestOn plan.slot (image_of plan memory) plan.lines false state → IsAtRestOn (other newest.slot) (made_over newest count armed memory) (length memory) false state
  saved_over state rest =
      subst (λ (lines : ℕ). IsAtRestOn (other newest.slot) (made_over newest count armed memory) lines false state) is.lines_are
      (subst (λ (image : Image). IsAtRestOn (other newest.slot) image plan.lines false state) image_is
      (subst (λ (slot : Slot). IsAtRestOn slot (image_of plan memory) plan.lines false state) is.slot rest))

  -- after a fault
  pub still_over : (candidates : Candidates) (old : Image) (next : Step) (tried : Bool) (shut : Bool) (state : DeviceState) → shut ≡ closed_before plan next tried → IsAmong candidates (Found newest.slot old)
      → IsAtRest (candidates_before candidates old plan memory next tried) old (other plan.slot) plan.lines (closed_before plan next tried) state
      → IsAtRestStill candidates old newest.slot (made_over newest count armed memory) (length memory) shut state
  still_over candidates old next tried shut state told among rest = record {
    left = candidates_before candidates old plan memory next tried;
    rest = subst (λ (b : Bool). IsAtRest (candidates_before candidates old plan memory next tried) old newest.slot (length memory) b state) (sym told)
        (subst (λ (slot : Slot). IsAtRest (candidates_before candidates old plan memory next tried) old slot (length memory) (closed_before plan next tried) state) back
        (subst (λ (lines : ℕ). IsAtRest (candidates_before candidates old plan memory next tried) old (other plan.slot) lines (closed_before plan next tried) state) is.lines_are rest));
    among = λ outcome left. among_in candidates outcome (before_among candidates old plan memory (found_in candidates old among) next tried outcome left);
  }

-- where the device rested on the old image alone
pub old_or_new : (slot : Slot) (old new : Image) (image : List ℕ) → IsAmongOr (only slot old) (other slot) new (restored (length new.memory) image) → FindsOldOrNew slot old new image
old_or_new slot old new image either = ⊎_elim (λ among. inl (found_only slot old (restored (length new.memory) image) among)) (λ is. inr is) either
