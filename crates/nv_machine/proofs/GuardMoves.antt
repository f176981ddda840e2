-- What the machine keeps in each of its moves.
use Rattle.nv_machine.specs.Moves.{arm_failed, closed_unsaved, saved_in}
use Rattle.nv_machine.specs.State.{begun_save}
use Rattle.nv_machine.proofs.Common.{Bool, [], ap, arith, false, inl, inr, length, refl, sym, true, ℕ, ⊎_elim, ◌++◌, ◌+◌, ◌-◌, ◌∙◌, ◌∷◌, ◌≡◌, ◌≢◌, ◌≤◌, None, Some, if◌then◌else◌, is_some, length-append, take-append-le, ForSome, after, Write, arm_byte, Image, Step, has_ended, is_armed, is_backed, is_disarming, mode_after, Loss, Mode, Move, Waits, HasCause, IsGood, Guards, IsPrefix, is_broken_off, would_lose_acknowledged, armed, begun, disarming, finished, persisted_at_end, written, Machine, RunningSave, Store, all_of, base_of_life, made_of, newest_of, start_of_life}
use Rattle.nv_machine.proofs.GuardLaws.{for_none, for_one, never, carry, made_good, armed_set}
use Rattle.nv_machine.proofs.Proceeding.{with_saved, Proceeds}

-- another reading, and other reads and writes that wait
pub guarded_same : (m : Machine) (reading : ℕ) (waits : Waits) → Guards m → Guards (record m { reading = reading; waits = waits })
guarded_same m reading waits guarded =
    let n : Machine = record m { reading = reading; waits = waits } in
    let keeps : (image : Image) → IsGood m image → IsGood n image = carry m n (λ i x. x) (λ x. x) in
    search (keeps, guarded.good_saved, guarded.good_made)

-- a save is begun
pub guarded_begun : (m : Machine) → has_ended m.mode ≡ false → Guards m → Guards (begun m)
guarded_begun m runs guarded =
    let keeps : (image : Image) → IsGood m image → IsGood (begun m) image = carry m (begun m) (λ i x. x) (λ x. x) in
    let made : IsGood (begun m) (made_of (is_armed m.mode) m) = made_good m (begun m) (is_armed m.mode) guarded (λ on. inl (grind arith)) in
    let set : is_armed m.mode ≡ true → ForSome (Some (begun_save (made_of (is_armed m.mode) m))) (λ save. save.made.arm ≢ 0) = λ on. for_one _ _ (armed_set (is_armed m.mode) on) in
    let clear : is_armed m.mode ≡ false → arm_byte (is_armed m.mode) ≡ 0 = ap arm_byte in
    let rises : (newest_of m).count ≤ all_of m = guarded.good_newest.prefix.to in
    search (never, keeps, guarded.good_saved, made, clear, rises)

-- an armed machine begins the disarming
pub guarded_disarming : (m : Machine) → is_armed m.mode ≡ true → Guards m → Guards (disarming m)
guarded_disarming m on guarded =
    let keeps : (image : Image) → IsGood m image → IsGood (disarming m) image = carry m (disarming m) (λ i x. inl refl) (λ x. cc) in
    let made : IsGood (disarming m) (made_of false m) = made_good m (disarming m) false guarded (λ on. cc) in
    let runs : has_ended m.mode ≡ false = grind arith in let backed : is_backed m.mode ≡ true = grind arith in
    let rises : (newest_of m).count ≤ all_of m = guarded.good_newest.prefix.to in
    search (never, keeps, guarded.good_saved, made, guarded.mains_last, guarded.backed_persisted, rises)

-- all is persistent, and the newest image is armed
pub guarded_armed : (m : Machine) → m.store.saving ≡ None → m.lost ≡ None → Guards m → Guards (armed m)
guarded_armed m none running guarded =
    let newest : IsGood (armed m) (newest_of (armed m)) = record {
      prefix = record { from = guarded.good_newest.prefix.from; to = guarded.good_newest.prefix.to; memory = guarded.good_newest.prefix.memory };
      complete = λ clear. absurd (omega (arith, clear));
      cause = λ set. inl refl;
      holds_all = λ calm. cc;
    } in
    search arith

-- the arm byte may be any
pub guarded_arm_failed : (m : Machine) → m.store.saving ≡ None → m.mode ≡ Mode.Disarmed → m.lost ≡ None → Guards m → Guards (arm_failed m)
guarded_arm_failed m none disarmed running guarded =
    let calm : would_lose_acknowledged m ≡ false = grind arith in let off : is_armed m.mode ≡ false = ap is_armed disarmed in
    let keeps : (image : Image) → IsGood m image → IsGood (arm_failed m) image = carry m (arm_failed m) (λ i x. inr (inl refl)) (λ x. x) in
    search (never, keeps, guarded.good_saved, guarded.good_newest.holds_all)

-- mains were lost while disarmed
pub guarded_unsaved : (m : Machine) → m.mode ≡ Mode.Disarmed → m.lost ≡ None → Guards m → Guards (closed_unsaved m)
guarded_unsaved m disarmed running guarded =
    let calm : would_lose_acknowledged m ≡ false = grind arith in
    let keeps : (image : Image) → IsGood m image → IsGood (closed_unsaved m) image = carry m (closed_unsaved m) (λ i x. ⊎_elim (λ is. cc) inr x) (λ x. calm) in
    search (never, keeps, guarded.good_saved)

-- The machine with one write more. While armed each image is armed, so that it needn't hold the write.
module _ (m : Machine) (guarded : Guards m) (write : Write) (persisted : ℕ) (waits : Waits) where
  abbrev longer : Machine
  longer = record m { life = record m.life { writes = m.life.writes ++ write ∷ []; persisted = persisted }; waits = waits }

  more : all_of longer ≡ all_of m + 1
  more = let size : length (m.life.writes ++ write ∷ []) ≡ length m.life.writes + 1 = length-append m.life.writes (write ∷ []) in omega (arith, size)

  longer_prefix : (image : Image) → IsPrefix m image → IsPrefix longer image
  longer_prefix image p = record {
    from = p.from;
    to = omega (arith, p.to, more);
    memory = p.memory ∙ ap (after (base_of_life m.life)) (sym (take-append-le (image.count - start_of_life m.life) m.life.writes (write ∷ []) (omega (arith, p.to))));
  }

  guarded_more_armed : is_armed m.mode ≡ true → persisted ≡ all_of m + 1 → Guards longer
  guarded_more_armed on is =
      let lacks : would_lose_acknowledged longer ≡ true = grind arith in let calm : is_disarming m.mode ≡ false = grind arith in
      let keeps : (image : Image) → image.arm ≢ 0 → IsGood m image → IsGood longer image =
      λ image set good. record { prefix = longer_prefix image good.prefix; complete = λ clear. absurd (set clear); cause = λ armed. inl lacks; holds_all = λ calm. cc } in
      let least : start_of_life m.life ≤ persisted = omega (arith, guarded.opened_persisted, guarded.persisted_accepted, is) in
      let all : persisted ≡ all_of longer = is ∙ sym more in let most : persisted ≤ all_of longer = omega (arith, all) in
      search (never, keeps, guarded.armed_newest, guarded.good_saved, guarded.armed_saved, guarded.good_made, guarded.armed_made, guarded.no_arm_failed)

  guarded_more : is_armed m.mode ≡ false → is_disarming m.mode ≡ false → persisted ≡ m.life.persisted → Guards longer
  guarded_more off calm is =
      let unbacked : is_backed m.mode ≡ false = grind arith in
      let keeps : (image : Image) → IsGood m image → IsGood longer image =
      λ image good. record { prefix = longer_prefix image good.prefix; complete = λ clear. omega (arith, is, good.complete clear); cause = good.cause; holds_all = λ calm. omega (arith, is, good.holds_all calm) } in
      let least : start_of_life m.life ≤ persisted = omega (arith, guarded.opened_persisted, is) in let most : persisted ≤ all_of longer = omega (arith, guarded.persisted_accepted, is, more) in
      let any : m.store.maybe.any_arm ≡ true → persisted ≤ (newest_of m).count = λ any. omega (arith, is, guarded.failed_arm_holds_all any) in
      search (never, keeps, guarded.good_saved, guarded.good_made)

-- a write was accepted
pub guarded_written : (m : Machine) (write : Write) (waits : Waits) → is_disarming m.mode ≡ false → Guards m → Guards (record m { life = written m.mode m.life write; waits = waits })
guarded_written m write waits calm guarded = by_kind (is_armed m.mode) refl
  where
    by_kind : (b : Bool) → is_armed m.mode ≡ b → Guards (record m { life = record m.life { writes = m.life.writes ++ write ∷ []; persisted = if b then all_of m + 1 else m.life.persisted }; waits = waits })
    by_kind true on = guarded_more_armed m guarded write (all_of m + 1) waits on refl
    by_kind false off = guarded_more m guarded write m.life.persisted waits off calm refl

-- the machine with a store to which its own goes on
module _ (m : Machine) (guarded : Guards m) (save : RunningSave) (runs : m.store.saving ≡ Some save) (s : Store) (goes : Proceeds save.made m.store s) where
  good : IsGood m save.made
  good = guarded.good_made save runs

  saved : ForSome goes.saved (IsGood m)
  saved = goes.may (IsGood m) guarded.good_saved good

  armed_saved : is_armed m.mode ≡ true → ForSome goes.saved (λ i. i.arm ≢ 0)
  armed_saved on = goes.may (λ i. i.arm ≢ 0) (guarded.armed_saved on) (guarded.armed_made on save runs)

  refuses : m.store.maybe.any_arm ≡ true → s.unsettled ≡ true
  refuses any = goes.unsettled (guarded.failed_arm_unsettled any)

  rises : ForSome goes.saved (λ i. (newest_of m).count ≤ i.count)
  rises = goes.may (λ i. (newest_of m).count ≤ i.count) guarded.newest_saved (guarded.newest_made save runs)

  -- the save that runs has made a step, or is to make it again
  pub guarded_did : (step : Step) (repeats : ℕ) → has_ended m.mode ≡ false → Guards (record m { store = record s { saving = Some (record save { next = step; repeats = repeats }) } })
  guarded_did step repeats active =
      let next : RunningSave = record save { next = step; repeats = repeats } in let n : Machine = record m { store = record (with_saved m.store s goes.saved) { saving = Some next } } in
      let keeps : (image : Image) → IsGood m image → IsGood n image = carry m n (λ i x. x) (λ x. x) in
      let armed : is_armed m.mode ≡ true → ForSome (Some next) (λ save. save.made.arm ≢ 0) = λ on. for_one _ _ (guarded.armed_made on save runs) in
      let more : ForSome (Some next) (λ save. (newest_of m).count ≤ save.made.count) = for_one _ _ (guarded.newest_made save runs) in
      let again : Guards n = search (never, keeps, good, saved, refuses, armed_saved, guarded.disarming_holds_all, guarded.unarmed_made, rises, more) in
      rw goes.is again

  -- it failed in its step
  pub guarded_failed : s.saving ≡ None → s.unsettled ≡ true → Guards (record m { mode = mode_after Move.FailSave m.mode; store = s })
  guarded_failed none settled =
      let n : Machine = record m { mode = mode_after Move.FailSave m.mode; store = with_saved m.store s goes.saved } in
      let arms : is_armed n.mode ≡ true → is_armed m.mode ≡ true = grind arith in let backs : is_backed n.mode ≡ true → is_backed m.mode ≡ true = grind arith in
      let active : has_ended n.mode ≡ false → has_ended m.mode ≡ false = grind arith in let stops : n.mode ≡ Mode.Disarming → is_some s.saving ≡ true = grind arith in
      let lacks : would_lose_acknowledged n ≡ would_lose_acknowledged m = grind arith in let idle : ForSome s.saving (λ save. save.made.arm ≢ 0) = for_none s.saving _ none in
      let keeps : (image : Image) → IsGood m image → IsGood n image = carry m n (λ i x. ⊎_elim (λ is. inl (lacks ∙ is)) inr x) (λ x. sym lacks ∙ x) in
      let again : Guards n = search (never, keeps, saved, refuses, armed_saved, guarded.backed_persisted, guarded.armed_newest, guarded.no_arm_failed, guarded.mains_last, arms, backs, active, stops, rises) in
      rw goes.is again

-- a closing save of all accepted writes was broken off
pub guarded_broken : (m : Machine) (reading : ℕ) (reply : Loss) (waits : Waits) (s : Store) → Guards m → is_broken_off (Some reply) ≡ true → Proceeds (made_of false m) m.store s → s.saving ≡ None
    → Guards (record { mode = Mode.Closing; reading = reading; lost = Some reply; life = m.life; cut = m.cut; waits = waits; store = s })
guarded_broken m reading reply waits s guarded broken goes none =
    let n : Machine = record { mode = Mode.Closing; reading = reading; lost = Some reply; life = m.life; cut = m.cut; waits = waits; store = with_saved m.store s goes.saved } in
    let keeps : (image : Image) → IsGood m image → IsGood n image = carry m n (λ i x. inl broken) (λ calm. cc) in
    let made : IsGood n (made_of false m) = made_good m n false guarded (λ on. cc) in
    let saved : ForSome goes.saved (IsGood n) = goes.may (IsGood n) (λ x some. keeps x (guarded.good_saved x some)) made in
    let refuses : m.store.maybe.any_arm ≡ true → s.unsettled ≡ true = λ any. goes.unsettled (guarded.failed_arm_unsettled any) in
    let rises : ForSome goes.saved (λ i. (newest_of m).count ≤ i.count) = goes.may (λ i. (newest_of m).count ≤ i.count) guarded.newest_saved guarded.good_newest.prefix.to in
    let again : Guards n = search (never, keeps, refuses, rises) in
    rw goes.is again

-- all was saved
pub guarded_saved : (m : Machine) (reading generation count : ℕ) (waits : Waits) → Guards m
    → Guards (record { mode = Mode.Saved; reading = reading; lost = Some (Loss.Saved generation count); life = m.life; cut = m.cut; waits = waits; store = saved_in m.store (made_of false m) })
guarded_saved m reading generation count waits guarded =
    let n : Machine = record { mode = Mode.Saved; reading = reading; lost = Some (Loss.Saved generation count); life = m.life; cut = m.cut; waits = waits; store = saved_in m.store (made_of false m) } in
    let made : IsGood n (made_of false m) = made_good m n false guarded (λ on. cc) in
    let kept : m.cut ≤ all_of m = omega (arith, guarded.cut_newest, guarded.good_newest.prefix.to) in
    search (never, kept)

-- a save has ended
pub guarded_finished : (m : Machine) (save : RunningSave) → Guards m → m.store.saving ≡ Some save → has_ended m.mode ≡ false → Guards (finished save m)
guarded_finished m save guarded runs active = by_mode m.mode refl
  where
    good : IsGood m save.made
    good = guarded.good_made save runs

    running : m.lost ≡ None
    running = guarded.mains_last active

    kept : m.cut ≤ save.made.count
    kept = omega (arith, guarded.cut_newest, guarded.newest_made save runs)

    disarmed : is_armed m.mode ≡ false → Guards (record m { mode = Mode.Disarmed; life = record m.life { persisted = save.made.count }; store = saved_in m.store save.made })
    disarmed off =
        let n : Machine = record m { mode = Mode.Disarmed; life = record m.life { persisted = save.made.count }; store = saved_in m.store save.made } in
        let cause : save.made.arm ≢ 0 → HasCause n save.made = λ set. absurd (set (guarded.unarmed_made off save runs)) in
        let least : save.made.count ≤ save.made.count = omega arith in
        let newest : IsGood n save.made = search good in
        search (never, good, running, kept)

    by_mode : (mode : Mode) → m.mode ≡ mode
        → Guards (record m { mode = mode_after Move.EndSave mode; life = record m.life { persisted = persisted_at_end mode m.life.persisted save.made.count }; store = saved_in m.store save.made })
    by_mode Mode.Armed is =
        let n : Machine = record m { mode = Mode.Armed; store = saved_in m.store save.made } in let newest : IsGood n save.made = carry m n (λ i x. inl refl) (λ calm. cc) save.made good in
        let set : save.made.arm ≢ 0 = guarded.armed_made (ap is_armed is) save runs in let backed : m.life.persisted ≡ all_of m = guarded.backed_persisted (ap is_backed is) in
        search (never, running, kept)
    by_mode Mode.Closing is = grind arith
    by_mode Mode.Saved is = grind arith
    by_mode _ is = disarmed (ap is_armed is)
