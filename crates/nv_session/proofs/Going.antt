-- How the life of a session goes on.
use Rattle.std.proofs.Common.{◌≡◌, ◌∙◌, ℕ, List, ap, refl, sym, subst, Option, Some, None}
use Rattle.std.proofs.Math.Logic.{∥∥₁_map}
use Rattle.std.specs.Prelude.{MatchOption}
use Rattle.nv_session.proofs.Common.{Assembly, Comes, ComesAlone, ComesTo, DeviceState, Event, Ghosts, GoesOnAlone, GoesOnBy}
use Rattle.nv_session.proofs.Common.{HasDevice, HasLife, IsCutToSaved, IsLiving, IsShapeFor, LivesOn, Machine, Module, Profile, Reply, SessionAt}
use Rattle.nv_session.proofs.Common.{Setup, Tale, assembly, life_charged, life_on, lines_of, session_at, setup_of}
use Rattle.slot_store.specs.Slots.{HasSize}
use Rattle.energy_budget.specs.Charging.{RisesTo}
use Rattle.energy_budget.specs.Gauge.{Gauge}
use Rattle.module_core.specs.ModuleLives.{LifeSoFar}
use Rattle.nv_session.proofs.Coming.{comes_retold}

module _ {K : Type 0} (L : Ghosts K) where
  pub goes_on_by : (Told : Setup → Tale) (old new : SessionAt L) (it later : Module K L) → old.life ≡ Some it → new.life ≡ Some later
      → Comes L (Told (setup_of L it)) (assembly it old.device old.gauge) (assembly later new.device new.gauge) → setup_of L later ≡ setup_of L it → GoesOnBy L Told old new
  goes_on_by Told old new it later was runs comes same =
      subst (λ (life : Option (Module K L)). MatchOption life (new ≡ old) (λ it. LivesOn L Told it old new)) (sym was) (record { it = later; runs = runs; over = same; holds = comes })

  -- the same events, of which something else is told too
  pub goes_retold : (Told Next : Setup → Tale) (old new : SessionAt L) → ((setup : Setup) (es : List Event) (rs : List Reply) (m n : Machine) → Told setup es rs m n → Next setup es rs m n)
      → GoesOnBy L Told old new → GoesOnBy L Next old new
  goes_retold Told Next old new tells goes = of_life old.life goes
    where
      lives_retold : (it : Module K L) → LivesOn L Told it old new → LivesOn L Next it old new
      lives_retold it lives = record {
        it = lives.it;
        runs = lives.runs;
        over = lives.over;
        holds = comes_retold L (Told (setup_of L it)) (Next (setup_of L it)) (assembly it old.device old.gauge) (assembly lives.it new.device new.gauge) lives.holds (tells (setup_of L it));
      }

      of_life : (life : Option (Module K L)) → MatchOption life (new ≡ old) (λ it. LivesOn L Told it old new) → MatchOption life (new ≡ old) (λ it. LivesOn L Next it old new)
      of_life None same = same
      of_life (Some it) lives = lives_retold it lives

  pub goes_on_alone : (Told : Setup → Tale) (life : Option (Module K L)) (it later : Module K L) → life ≡ Some it
      → ComesAlone L (Told (setup_of L it)) it later → setup_of L later ≡ setup_of L it → GoesOnAlone L Told life (Some later)
  goes_on_alone Told life it later was comes same =
      λ device gauge. goes_on_by Told (session_at life device gauge) (session_at (Some later) device gauge) it later was refl (comes device gauge) same

  -- the life that runs, or this one
  abbrev running_or : Module K L → Option (Module K L) → Module K L
  running_or other (Some it) = it
  running_or other None = other

  -- the moment at which this life runs
  abbrev pub running_at : Assembly L → SessionAt L
  running_at now = session_at (Some now.it) now.device now.gauge

  pub begins_living : (profile : Profile) (now : Assembly L) → HasSize (lines_of profile.checked.geometry) now.device
      → IsShapeFor profile (setup_of L now.it).shape → HasLife L now → IsCutToSaved L now.it → IsLiving L profile (running_at now)
  begins_living profile now size fits lives cut = record {
    size = size;
    fits = λ other same. subst (λ (l : Module K L). IsShapeFor profile (setup_of L l).shape) (ap (running_or now.it) same) fits;
    lives = λ other same. subst (λ (l : Module K L). HasLife L (assembly l now.device now.gauge)) (ap (running_or now.it) same) lives;
    cut = λ other same. subst (λ (l : Module K L). IsCutToSaved L l) (ap (running_or now.it) same) cut;
  }

  -- so it does where its gauge is charged
  pub charged_living : (profile : Profile) (at : SessionAt L) (gauge : Gauge) → RisesTo at.gauge gauge → IsLiving L profile at → IsLiving L profile (record at { gauge = gauge })
  charged_living profile at gauge rises living = record {
    size = living.size;
    fits = living.fits;
    lives = λ it runs. ∥∥₁_map (living.lives it runs) (life_charged L (assembly it at.device at.gauge) gauge rises);
    cut = living.cut;
  }

  module _ (profile : Profile) (at : SessionAt L) (it : Module K L) (runs : at.life ≡ Some it) (living : IsLiving L profile at) where
    still_fits : (later : Module K L) → setup_of L later ≡ setup_of L it → IsShapeFor profile (setup_of L later).shape
    still_fits later same = subst (λ (s : Setup). IsShapeFor profile s.shape) (sym same) (living.fits it runs)

    -- what is stored stays cut where a call tells of no save
    pub still_cut : (later : Module K L) → later.front.terms.cut ≡ it.front.terms.cut → later.front.saved ≡ it.front.saved → IsCutToSaved L later
    still_cut later cut saved = cut ∙ living.cut it runs ∙ sym saved

    module _ (Told : Tale) (new : Assembly L) (comes : Comes L Told (assembly it at.device at.gauge) new) (same : setup_of L new.it ≡ setup_of L it) (cut : IsCutToSaved L new.it) where
      lives_with : HasSize (lines_of profile.checked.geometry) new.device → IsLiving L profile (running_at new)
      lives_with size =
          let old : Assembly L = assembly it at.device at.gauge in
          begins_living profile new size (still_fits new.it same)
          (∥∥₁_map (living.lives it runs)
          (λ (so : LifeSoFar L old).
          let a = so.answered.runs in let c : ComesTo L Told old a.last new = comes a.last a.stands in life_on L old new so c.events c.replies same c.runs)) cut

      -- after calls that may call the device
      pub lives_on : HasDevice L new.it new.device → IsLiving L profile (running_at new)
      lives_on size = lives_with (subst (λ (n : ℕ). HasSize n new.device) (let fits : IsShapeFor profile (setup_of L new.it).shape = still_fits new.it same in fits.lines) size)

      -- after calls that don't
      pub lives_on_alone : new.device ≡ at.device → IsLiving L profile (running_at new)
      lives_on_alone idle = lives_with (subst (λ (d : DeviceState). HasSize (lines_of profile.checked.geometry) d) (sym idle) living.size)
