-- How a save goes on, after a step that went well or one that failed.
use Rattle.save_image.specs.Image.{digest_of}
use Rattle.slot_store.specs.Rest.{IsHarmless}
use Rattle.slot_store.specs.Saving.{GuardsCandidates}
use Rattle.slot_store.proofs.Common.{if◌then◌else◌, ℕ, ◌*◌, ◌+◌, ◌∙◌, ◌≡◌, ◌≤◌, Bool, Candidates, Close, DeviceState, Done, GivesPage, Header, Image, IsKept, Leaves, LeavesOnly, List, Makes, Open, Page, Plan, SavingAt, Step, SyncBody, SyncClosed, SyncOpen, Touches, change_of, false, gate_of, inl, inr, length, nat_lt, reach_of, step_after, true, within_call, ⊎_elim}
use Rattle.slot_store.proofs.Standing.{stands_again, stands_next}
use Rattle.slot_store.proofs.Stops.{closes_gate, kept_after, newest_after, stop_before, stop_leaves, torn_after}

module _ (candidates : Candidates) (old : Image) (plan : Plan) (memory : List (List ℕ)) (digest page : List ℕ) (before after : DeviceState) (d : length digest ≡ 32) (n : length page ≡ 4096) where
  module _ (next : Step) (good : Bool) (m : Makes (change_of plan digest next page) good before after) where
    -- a write of the gate alone leaves what it left while the gate was written
    harmless_after : ((k : ℕ) → Touches (change_of plan digest next page) k → (plan.closed ≡ false) × (k ≡ gate_of plan))
        → IsHarmless candidates plan.lines plan.slot plan.closed before → IsHarmless candidates plan.lines plan.slot plan.closed after
    harmless_after gate_alone harmless image left =
        harmless image (record {
          size = left.size ∙ m.outside.size;
          outside = λ k none. left.outside k (⊎_elim (λ l. ⊎_elim (λ v. none (inl v)) (λ w. none (inr (gate_alone k w))) (m.unsettled k l)) (λ g. none (inr g))) ∙ m.outside.outside k (λ w. none (inr (gate_alone k w)));
        })

    kept : reach_of next ≤ plan.lines → IsKept plan before → IsKept plan after
    kept r was = kept_after plan digest page d n next before after r was m.unsettled

  guards_next : (next : Step) → reach_of next ≤ plan.lines → GuardsCandidates candidates plan next before → Makes (change_of plan digest next page) true before after → GuardsCandidates candidates plan (step_after plan.lines next) after
  guards_next Close r guards m = harmless_after Close true m (closes_gate plan digest page) guards
  guards_next SyncClosed r guards m = λ k here. m.settled k
  guards_next (Page i) r guards m =
      let still : IsKept plan after = kept (Page i) true m r guards in
      elim (nat_lt plan.lines (64 * (i + 2))) as (λ b. GuardsCandidates candidates plan (if b then Header else Page (i + 1)) after) [ true ↦ still | false ↦ still ]
  guards_next Header r guards m = kept Header true m r guards
  guards_next SyncBody r guards m = λ k here. m.settled k
  guards_next Open r guards m = kept Open true m r guards
  guards_next SyncOpen r guards m = λ k here. m.settled k
  guards_next Done r guards m = λ k here. m.settled k

  guards_again : (next : Step) → reach_of next ≤ plan.lines → GuardsCandidates candidates plan next before → Makes (change_of plan digest next page) false before after → GuardsCandidates candidates plan next after
  guards_again Close r guards m = harmless_after Close false m (closes_gate plan digest page) guards
  guards_again SyncClosed r guards m = harmless_after SyncClosed false m (λ k w. absurd w) guards
  guards_again Header r guards m = kept Header false m r guards
  guards_again (Page i) r guards m = kept (Page i) false m r guards
  guards_again SyncBody r guards m = kept SyncBody false m r guards
  guards_again Open r guards m = kept Open false m r guards
  guards_again SyncOpen r guards m = kept SyncOpen false m r guards
  guards_again Done r guards m = kept Done false m r guards

  -- a step went well
  pub saving_next : (next : Step) (tried : Bool) → reach_of next ≤ plan.lines → GivesPage memory next page → (next ≡ Header → digest ≡ digest_of memory) → SavingAt candidates old plan memory next tried before → Makes (change_of plan digest next page) true before after
      → SavingAt candidates old plan memory (step_after plan.lines next) false after
  saving_next next tried r gives of s m = record {
    size = m.outside.size ∙ s.size;
    lines = s.lines;
    rises = s.rises;
    newest = newest_after candidates old plan memory tried before digest page d n next r s after.bytes m.outside;
    guards = guards_next next r s.guards m;
    has = stands_next plan memory digest page before after d n s.size next tried r s.lines gives of s.has m;
  }

  -- a step failed
  pub saving_again : (next : Step) (tried : Bool) → reach_of next ≤ plan.lines → SavingAt candidates old plan memory next tried before → Makes (change_of plan digest next page) false before after
      → SavingAt candidates old plan memory next true after
  saving_again next tried r s m = record {
    size = m.outside.size ∙ s.size;
    lines = s.lines;
    rises = s.rises;
    newest = newest_after candidates old plan memory tried before digest page d n next r s after.bytes m.outside;
    guards = guards_again next r s.guards m;
    has = stands_again plan memory digest page before after d n s.size next tried s.has m;
  }

  -- a stop at any moment of a step
  pub stop_within : (next : Step) (tried good : Bool) → reach_of next ≤ plan.lines → SavingAt candidates old plan memory next tried before → Makes (change_of plan digest next page) good before after
      → LeavesOnly before after (Leaves candidates old plan memory next)
  stop_within next tried good r s m =
      within_call before after m.call.time
      (λ image left. stop_before candidates old plan memory tried before digest page d n next image r s left)
      (λ image left. stop_leaves candidates old plan memory tried before digest page d n next image r s (torn_after before after image m.outside m.unsettled left))
