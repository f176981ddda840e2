-- What a stop leaves recovers what was acknowledged.
use Rattle.std.proofs.Common.{◌⊎◌}
use Rattle.slot_store.specs.Rest.{IsAmong, IsSaved, rearmed}
use Rattle.slot_store.specs.Slots.{other}
use Rattle.nv_machine.specs.Headline.{HasCauseMeanwhile, MayFindMeanwhile, RecoversMeanwhile}
use Rattle.nv_machine.proofs.Common.{Bool, List, [], ap, arith, false, inl, inr, refl, true, ℕ, ⊎_elim, ◌++◌, ◌∙◌, ◌≡◌, ◌≤◌, None, Option, Some, append-nil, ForSome, Write, Image, Found, Outcome, Slot, Guards, HasCause, IsGood, IsGuarded, IsPrefix, would_lose_acknowledged, Recovers, RecoversAfterwards, marks, MachineStep, added, Machine, Setup, World, newest_of, Event, Reply}
use Rattle.nv_machine.proofs.EachEvent.{KeepsLife, guarded_event, event_keeps}

-- a good image that a restore finds
of_good : (m : Machine) (Why : Image → Type 0) → ((image : Image) → HasCause m image → Why image) → (slot : Slot) (image : Image) (outcome : Outcome) → outcome ≡ Found slot image → IsGood m image
    → Recovers m Why outcome
of_good m Why so slot image outcome found good = record { slot = slot; image = image; found = found; prefix = good.prefix; complete = good.complete; cause = λ set. so image (good.cause set); holds_all = good.holds_all }

-- the newest image, with its own arm byte or another one
rearmed_good : (m : Machine) → Guards m → (arm : ℕ) → (m.store.maybe.any_arm ≡ false → arm ≡ (newest_of m).arm) → IsGood m (rearmed (newest_of m) arm)
rearmed_good m guarded arm own = by_kind m.store.maybe.any_arm refl
  where
    by_kind : (b : Bool) → m.store.maybe.any_arm ≡ b → IsGood m (rearmed (newest_of m) arm)
    by_kind true any = let persisted : m.life.persisted ≤ (newest_of m).count = guarded.failed_arm_holds_all any in let cause : HasCause m (rearmed (newest_of m) arm) = inr (inl any) in search (guarded.good_newest)
    by_kind false none = rw (own none) guarded.good_newest

-- each image that a stop may leave recovers, with a reason that comes of each cause
recovers : (m : Machine) (Why : Image → Type 0) → ((image : Image) → HasCause m image → Why image) → Guards m → (outcome : Outcome) → IsAmong m.store.maybe outcome → Recovers m Why outcome
recovers m Why so guarded outcome (inl is) = of_good m Why so m.store.maybe.slot _ outcome is.found (rearmed_good m guarded is.arm is.own)
recovers m Why so guarded outcome (inr is) = of_saved m.store.maybe.saved guarded.good_saved is
  where
    of_saved : (saved : Option Image) → ForSome saved (IsGood m) → IsSaved saved (other m.store.maybe.slot) outcome → Recovers m Why outcome
    of_saved (Some image) good is = of_good m Why so (other m.store.maybe.slot) image outcome is (good image refl)
    of_saved None good none = absurd none

-- a stop at an event's end
pub left_after : (m : Machine) → IsGuarded m → (outcome : Outcome) → IsAmong m.store.maybe outcome → RecoversAfterwards m outcome
unfolding IsGuarded
left_after m guarded outcome among = record { among = among; recovers = recovers m (HasCause m) (λ i x. x) guarded outcome among }

-- a stop at the moment before an event
pub left_before : (reply : Reply) (old new : Machine) → IsGuarded old → (outcome : Outcome) → IsAmong old.store.maybe outcome → MayFindMeanwhile reply old.store.maybe new.store.maybe outcome
    → RecoversMeanwhile reply old new outcome
unfolding IsGuarded
left_before reply old new guarded outcome was among = record { among = among; recovers = recovers old (HasCauseMeanwhile reply old new) (λ i x. inr (inl x)) guarded outcome was }

-- what recovers after an event that adds no write and doesn't arm recovers what was acknowledged before it
earlier : (event : Event) (reply : Reply) (old new : Machine) → KeepsLife event reply old new → marks reply ≡ false → added event reply ≡ [] → (outcome : Outcome)
    → Recovers new (HasCause new) outcome → Recovers old (HasCauseMeanwhile reply old new) outcome
earlier event reply old new keeps unmarked silent outcome r =
    let writes : new.life.writes ≡ old.life.writes = keeps.writes ∙ ap (λ (more : List Write). old.life.writes ++ more) silent ∙ append-nil old.life.writes in
    record {
      slot = r.slot;
      image = r.image;
      found = r.found;
      prefix = record { from = rw (keeps.opened) at r.prefix.from; to = rw (keeps.opened, writes) at r.prefix.to; memory = rw (keeps.opened, writes) at r.prefix.memory };
      complete = λ clear. omega (arith, r.complete clear, keeps.persisted);
      cause = λ set. inr (inr (r.cause set));
      holds_all = λ calm. omega (arith, r.holds_all (keeps.calm unmarked calm), keeps.persisted);
    }

-- a stop within an event that adds no write and doesn't arm
pub left_within : (setup : Setup) (event : Event) (reply : Reply) (old new : World) → MachineStep setup event reply old new → IsGuarded old.machine → marks reply ≡ false → added event reply ≡ [] → (outcome : Outcome)
    → IsAmong old.machine.store.maybe outcome ⊎ IsAmong new.machine.store.maybe outcome → RecoversMeanwhile reply old.machine new.machine outcome
unfolding IsGuarded
left_within setup event reply old new done guarded unmarked silent outcome either =
    let m : Machine = old.machine in let n : Machine = new.machine in
    let among : MayFindMeanwhile reply m.store.maybe n.store.maybe outcome = rw unmarked either in
    ⊎_elim (λ was. left_before reply m n guarded outcome was among)
    (λ is.
    let later : Recovers n (HasCause n) outcome = recovers n (HasCause n) (λ i x. x) (guarded_event setup event reply old new done guarded) outcome is in
    let r : RecoversMeanwhile reply m n outcome = record { among = among; recovers = earlier event reply m n (event_keeps setup event reply old new done guarded) unmarked silent outcome later } in r)
    either

-- a stop within an arm call: the newest image has any arm byte
pub left_marking : (reply : Reply) (old new : Machine) → marks reply ≡ true → would_lose_acknowledged old ≡ false → IsGuarded old → (outcome : Outcome)
    → IsAmong (record old.store.maybe { any_arm = true }) outcome → RecoversMeanwhile reply old new outcome
unfolding IsGuarded
left_marking reply old new marked calm guarded outcome (inl is) =
    let whole : old.life.persisted ≤ (newest_of old).count = guarded.good_newest.holds_all calm in let prefix : IsPrefix old (rearmed (newest_of old) is.arm) = search (guarded.good_newest) in
    record {
      among = inl (rw marked (inl is));
      recovers = record { slot = old.store.maybe.slot; image = rearmed (newest_of old) is.arm; found = is.found; prefix = prefix; complete = λ clear. whole; cause = λ set. inl marked; holds_all = λ calm. whole };
    }
left_marking reply old new marked calm guarded outcome (inr is) = left_before reply old new guarded outcome (inr is) (inl (rw marked (inr is)))
