-- A save that is finished, of whose steps some may be made again where the device fails in them.
use Rattle.std.specs.Prelude.{◌≡◌, ◌≢◌, ℕ, suc, ◌+◌, ◌≤◌, Bool, true, false, List, [], ◌∷◌, ◌++◌, Result, Ok, Err, MatchResult}
use Rattle.slot_store.specs.declared.plan.Step.{Step}
use Rattle.slot_store.specs.declared.plan.Step.TheVariants.{Done}
use Rattle.slot_store.specs.declared.source.Refused.{Refused}
use Rattle.slot_store.specs.declared.source.BrokenOff.TheVariants as broken
use Rattle.slot_store.specs.declared.source.SaveSource.{Ghosts}
use Rattle.slot_store.specs.Finishing.{Underway, Finish, StandsAfter, TriesFirst, calls_to_come, step_on, steps_to_come}
use Rattle.slot_store.specs.Runs.{next_of, tried_of}
use Rattle.slot_store.specs.Tries.{goods, fails, is_failed, steps_reached, StepsBelow, calls_tried}

-- the device failed in no more of the tries than may be made again, or in the last one too, which broke the save off
abbrev pub FailsWithin : ℕ → Finish → List Bool → Type 0
FailsWithin repeats (Err broken.Fault) tries = (fails tries ≡ repeats + 1) × (is_failed false tries ≡ true)
FailsWithin repeats finish tries = fails tries ≤ repeats

module _ {S : Type 0} (asks : S → Step → Result (Unit {0}) Refused → S → Type 0) (step : ℕ → Step) where
  -- each try, from the n-th step on, was asked for in turn, also one that was made again, and each was granted
  abbrev pub GrantsTries : List Bool → ℕ → S → S → Type 0
  GrantsTries [] n old new = new ≡ old
  GrantsTries (true ∷ tries) n old new = (mid : S) × asks old (step n) (Ok tt) mid × GrantsTries tries (suc n) mid new
  GrantsTries (false ∷ tries) n old new = (mid : S) × asks old (step n) (Ok tt) mid × GrantsTries tries n mid new

  -- and no further one was asked for but one that was refused
  abbrev pub AsksForTries : Finish → List Bool → S → S → Type 0
  AsksForTries (Err broken.Refused) tries old new =
      (mid : S) × (refused : Refused) × GrantsTries tries 0 old mid × asks mid (step (goods tries)) (Err refused) new
  AsksForTries finish tries old new = GrantsTries tries 0 old new

-- The steps that were to come were made in turn, each asked for before each try: all of them, so that the save is done, or
-- those before one that was refused or in which the device failed once more than may be made again.
pub record FinishesRepeating {S : Type 0} (G : Ghosts S) (repeats : ℕ) (finish : Finish) (old new : Underway S) : Type 0 where
  pub tries : List Bool
  pub few : FailsWithin repeats finish tries
  pub below : StepsBelow (steps_to_come old.run) tries 0
  pub stands : StandsAfter (goods tries) (is_failed (tried_of old.run) tries) old.run new.run
  pub ends : MatchResult finish (λ done. next_of new.run ≡ Done) (λ why. next_of new.run ≢ Done)
  pub asks : AsksForTries G.asks (step_on old.run) finish tries old.source new.source
  pub calls : new.device.calls ≡ old.device.calls ++ calls_tried (calls_to_come old.run) tries
  pub memory : G.memory new.source ≡ G.memory old.source
  pub steps : TriesFirst (G.memory old.source) (steps_reached tries) old.run old.device new.run new.device
