-- A save that begins, one that is given up, and one that is done.
use Rattle.slot_store.specs.Rest.{IsHarmless}
use Rattle.slot_store.specs.Saving.{FindsEither, IsSettledButGate, candidates_before, old_and_new, only_old}
use Rattle.slot_store.proofs.Common.{ℕ, ◌<◌, ◌∙◌, ◌≡◌, ◌≢◌, Bool, Candidates, Close, DeviceState, Done, Found, GateShut, Header, Image, IsAmong, IsAtRest, IsAtRestOn, IsKept, IsMemory, IsShut, IsWritten, List, Open, Page, Plan, SavingAt, Slot, Step, SyncBody, SyncClosed, SyncOpen, ap, closed_before, false, image_of, inl, inr, other, refl, restored, slot_state, subst, sym, true, ⊎_elim}
use Rattle.slot_store.proofs.Resting.{among_only, older, other_other, rest_alone}
use Rattle.slot_store.proofs.Stops.{more, shut_old, torn_gate}
use Rattle.slot_store.proofs.Torn.{holds_new}

-- a save over the newest image stands at its first step
pub saving_begins : (candidates : Candidates) (newest : Image) (plan : Plan) (memory : List (List ℕ)) (slot : Slot) (state : DeviceState) → plan.slot ≡ other slot → newest.generation < plan.generation
    → IsMemory plan.lines memory → IsAtRest candidates newest slot plan.lines plan.closed state → SavingAt candidates newest plan memory Close false state
saving_begins candidates newest plan memory slot state is rises lines rest =
    record {
      size = rest.size;
      lines = lines;
      rises = rises;
      newest = ap (λ (s : Slot). slot_state plan.lines (other s) state.bytes) is ∙ ap (λ (s : Slot). slot_state plan.lines s state.bytes) (other_other slot) ∙ rest.full;
      guards = subst (λ (s : Slot). IsHarmless candidates plan.lines s plan.closed state) (sym is) rest.harmless;
      has = λ closed. subst (λ (s : Slot). IsShut plan.lines s state) (sym is) (rest.shut closed);
    }

-- a save that is done
pub save_done : (candidates : Candidates) (old : Image) (plan : Plan) (memory : List (List ℕ)) (tried : Bool) (state : DeviceState) → SavingAt candidates old plan memory Done tried state
    → IsAtRestOn plan.slot (image_of plan memory) plan.lines false state
save_done candidates old plan memory tried state s =
    rest_alone plan.lines plan.slot (image_of plan memory) false state s.size s.has.2 (holds_new plan memory state.bytes s.lines s.has.0 s.has.1.is_open) (older old refl s.newest s.rises)

module _ (candidates : Candidates) (old : Image) (plan : Plan) (memory : List (List ℕ)) (tried : Bool) (state : DeviceState) where
  shut_again : (closed : Bool) → (closed ≡ true → GateShut plan state) → closed ≡ true → IsShut plan.lines (other (other plan.slot)) state
  shut_again closed shut is = subst (λ (slot : Slot). IsShut plan.lines slot state) (sym (other_other plan.slot)) (shut is)

  -- before the gate was settled closed
  rest_closing : (next : Step) → SavingAt candidates old plan memory next tried state → IsHarmless candidates plan.lines plan.slot plan.closed state → (plan.closed ≡ true → GateShut plan state)
      → IsAtRest candidates old (other plan.slot) plan.lines plan.closed state
  rest_closing next s harmless shut = record {
    size = s.size;
    full = s.newest;
    harmless = subst (λ (slot : Slot). IsHarmless candidates plan.lines slot plan.closed state) (sym (other_other plan.slot)) harmless;
    shut = shut_again plan.closed shut;
  }

  -- while it is closed
  rest_old : (next : Step) → SavingAt candidates old plan memory next tried state → IsKept plan state → GateShut plan state → IsAtRest (only_old old plan) old (other plan.slot) plan.lines true state
  rest_old next s kept shut = record {
    size = s.size;
    full = s.newest;
    harmless = λ image m.
        among_only (other plan.slot) old (restored plan.lines image)
        (shut_old candidates old plan memory tried state next image s kept shut (more (λ k. ⊎_elim (λ l. l) (λ torn. absurd (let bad : ⊥ = cc (torn.0) in bad))) m));
    shut = shut_again true (λ _. shut);
  }

  either_among : (image : List ℕ) → FindsEither old plan memory image → IsAmong (old_and_new old plan memory) (restored plan.lines image)
  either_among image (inl is) = inl (record { arm = old.arm; own = λ _. refl; found = is })
  either_among image (inr is) = inr (subst (λ (slot : Slot). restored plan.lines image ≡ Found slot (image_of plan memory)) (sym (other_other plan.slot)) is)

  -- while it is opened
  rest_opening : (next : Step) → SavingAt candidates old plan memory next tried state → IsWritten plan memory state.bytes → IsSettledButGate plan state
      → IsAtRest (old_and_new old plan memory) old (other plan.slot) plan.lines false state
  rest_opening next s w settled = record {
    size = s.size;
    full = s.newest;
    harmless = subst (λ (slot : Slot). IsHarmless (old_and_new old plan memory) plan.lines slot false state) (sym (other_other plan.slot))
        (λ image m. either_among image (torn_gate candidates old plan memory tried state next image s w (more (λ k. ⊎_elim (settled k) (λ g. g.1)) m)));
    shut = λ closed. absurd (let bad : ⊥ = cc in bad);
  }

-- a save that is given up, at any time before it is done
pub given_up : (candidates : Candidates) (old : Image) (plan : Plan) (memory : List (List ℕ)) (next : Step) (tried : Bool) (state : DeviceState) → next ≢ Done → SavingAt candidates old plan memory next tried state
    → IsAtRest (candidates_before candidates old plan memory next tried) old (other plan.slot) plan.lines (closed_before plan next tried) state
given_up candidates old plan memory Close tried state going s = rest_closing candidates old plan memory tried state Close s s.guards s.has
given_up candidates old plan memory SyncClosed tried state going s = rest_closing candidates old plan memory tried state SyncClosed s s.guards s.has.1
given_up candidates old plan memory Header tried state going s = rest_old candidates old plan memory tried state Header s s.guards s.has.0
given_up candidates old plan memory (Page i) tried state going s = rest_old candidates old plan memory tried state (Page i) s s.guards s.has.0
given_up candidates old plan memory SyncBody tried state going s = rest_old candidates old plan memory tried state SyncBody s s.guards s.has.0
given_up candidates old plan memory Open true state going s = rest_opening candidates old plan memory true state Open s s.has.0 s.has.1
given_up candidates old plan memory Open false state going s = rest_old candidates old plan memory false state Open s s.guards (s.has.2 refl)
given_up candidates old plan memory SyncOpen tried state going s = rest_opening candidates old plan memory tried state SyncOpen s s.has.0 s.has.1.rest_settled
given_up candidates old plan memory Done tried state going s = absurd (going refl)
