-- What a stop leaves of a life.
use Rattle.std.proofs.Common.{drop}
use Rattle.std.proofs.Math.Seq.{drop-append_seam}
use Rattle.std.proofs.lemmas.List.Elements.{All-contains}
use Rattle.save_device.specs.Device.{LeavesOnly, Moment, StopsWithin, moments_of, present}
use Rattle.slot_store.specs.Outcomes.{restored}
use Rattle.nv_machine.specs.Headline.{AnyGauge, Happens, RunBy}
use Rattle.nv_machine.specs.Lives.{IsLeftAt, Unanswered, moments_since, stop_moments}
use Rattle.nv_machine.specs.Opening.{new_life}
use Rattle.nv_machine.specs.Survival.{HasCauseAt, MayBeNewest}
use Rattle.nv_machine.proofs.Common.{All, List, [], ap, append_assoc, inl, length, refl, subst, sym, ℕ, ◌++◌, ◌∙◌, ◌∷◌, ◌≡◌, None, Option, Some, All-cons, All-nil, ForSome, DeviceState, Outcome, IsGuarded, Recovers, RecoversAfterwards, Gauge, IsLived, Lived, Machine, Setup, World, Event, Reply}
use Rattle.nv_machine.proofs.Guarded.{guarded_new}
use Rattle.nv_machine.proofs.Leaving.{left_after}

-- at whichever moment it came: an image that may be the newest, and that recovers what was acknowledged
pub record RecoversAt (unanswered : Option Unanswered) (m : Machine) (outcome : Outcome) : Type 0 where
  pub newest : MayBeNewest unanswered m outcome
  pub recovers : Recovers m (HasCauseAt unanswered m) outcome

-- the first machine of a life is guarded
pub guarded_first : (life : Lived) → IsLived life → IsGuarded life.first.machine
guarded_first life lived = rw lived.begins (guarded_new life.slot life.closed life.image)

-- the moments of a device since an earlier state, where these came after it
pub since_is : (old new : DeviceState) (since : List Moment) → moments_of new ≡ moments_of old ++ since → moments_since old new ≡ present old ∷ since
since_is old new since keeps =
    ap (drop (length old.earlier)) (keeps ∙ append_assoc old.earlier (present old ∷ []) since) ∙ drop-append_seam old.earlier (present old ∷ since)

-- what each stop of these moments leaves is so
left_at : (P : List ℕ → Type 0) (moments : List Moment) (bytes : List ℕ) → All (StopsWithin P) moments → IsLeftAt moments bytes → P bytes
left_at P moments bytes each stop = All-contains (StopsWithin P) moments stop.moment each stop.among bytes stop.left

-- at a moment since the last event
left_since : (P : List ℕ → Type 0) (old new : DeviceState) (bytes : List ℕ) → LeavesOnly old new P → IsLeftAt (moments_since old new) bytes → P bytes
left_since P old new bytes leaves stop =
    left_at P (moments_since old new) bytes (rw (since_is old new leaves.since leaves.keeps) (All-cons (StopsWithin P) (present old) leaves.since leaves.first leaves.each)) stop

-- a stop at a moment between two events
abbrev pub StopsRecover : Setup → World → Type 0
StopsRecover setup point = StopsWithin (λ bytes. RecoversAfterwards point.machine (restored setup.shape.lines bytes)) (present point.device)

-- a cut of what is stored changes nothing of it
pub recovers_cut : (m : Machine) (cut : ℕ) (outcome : Outcome) → RecoversAfterwards m outcome → RecoversAfterwards (record m { cut = cut }) outcome
recovers_cut m cut outcome it = record {
  among = it.among;
  recovers = record {
    slot = it.recovers.slot;
    image = it.recovers.image;
    found = it.recovers.found;
    prefix = record { from = it.recovers.prefix.from; to = it.recovers.prefix.to; memory = it.recovers.prefix.memory };
    complete = it.recovers.complete;
    cause = it.recovers.cause;
    holds_all = it.recovers.holds_all;
  };
}

-- what it leaves at the end of a run
pub left_along : (G : Gauge → Gauge → Type 0) (setup : Setup) (events : List Event) (replies : List Reply) (old new : World) → RunBy G setup events replies old new → StopsRecover setup old → StopsRecover setup new
left_along G setup [] [] old new run left =
    subst (StopsRecover setup) (sym run.is) (λ bytes stop. recovers_cut old.machine new.machine.cut (restored setup.shape.lines bytes) (left bytes stop))
left_along G setup (event ∷ events) (reply ∷ replies) old new run left = left_along G setup events replies run.0 new run.2 run.1.happens.at_end
left_along G setup _ _ old new none left = absurd none

-- before the first event it leaves the image that the life was opened with
left_first : (life : Lived) → IsLived life → StopsRecover life.setup life.first
left_first life lived = rw lived.begins
    (λ bytes left. left_after (new_life life.slot life.closed life.image) (guarded_new life.slot life.closed life.image) (restored life.setup.shape.lines bytes)
    (inl (record { arm = life.image.arm; own = λ none. refl; found = lived.opened bytes left })))

-- after the last event, or within the one that was left unanswered
recovered_at : (setup : Setup) (unanswered : Option Unanswered) (last : World) (bytes : List ℕ) → ForSome unanswered (λ it. Happens setup it.event it.reply last it.next) → StopsRecover setup last
    → IsLeftAt (stop_moments unanswered last.device) bytes → RecoversAt unanswered last.machine (restored setup.shape.lines bytes)
recovered_at setup None last bytes happens left stop =
    let P : List ℕ → Type 0 = λ b. RecoversAfterwards last.machine (restored setup.shape.lines b) in
    let is = left_at P (present last.device ∷ []) bytes (All-cons (StopsWithin P) (present last.device) [] left (All-nil (StopsWithin P))) stop in
    record { newest = is.among; recovers = is.recovers }
recovered_at setup (Some unanswered) last bytes happens left stop =
    let is = left_since _ last.device unanswered.next.device bytes (happens unanswered refl).meanwhile stop in
    record { newest = is.among; recovers = is.recovers }

-- what a restore finds after a life
pub recovered : (life : Lived) → IsLived life → RecoversAt life.unanswered life.last.machine (restored life.setup.shape.lines life.bytes)
recovered life lived =
    recovered_at life.setup life.unanswered life.last life.bytes lived.unanswered (left_along AnyGauge life.setup life.events life.replies life.first life.last lived.run (left_first life lived)) lived.left
