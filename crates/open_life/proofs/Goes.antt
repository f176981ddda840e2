-- How a life goes on by calls, and stays alive.
use Rattle.std.proofs.Common.{◌≡◌, ◌∙◌, ℕ, [], sym, subst}
use Rattle.std.proofs.Math.Logic.{∥∥₁_map}
use Rattle.std.proofs.lemmas.Grind.{merely}
use Rattle.energy_budget.specs.Gauge.{Gauge}
use Rattle.module_core.proofs.ModulesLive.{lives_anywhere}
use Rattle.module_core.specs.ModuleLives.{LifeSoFar, module_life}
use Rattle.module_core.specs.Opening.{opened_with}
use Rattle.module_core.proofs.CallsInTurn.{cut_setup, life_begins}
use Rattle.module_core.specs.Stands.{IsCut}
use Rattle.nv_machine.proofs.SurvivedLives.{survived}
use Rattle.nv_profile.specs.declared.profile.Profile.{Profile}
use Rattle.nv_session.proofs.Common.{Answers, AnswersAlone, Assembly, Comes, ComesAlone, ComesTo, DeviceState, Event, Ghosts, HasDevice, HasLife, Head, IsCutToSaved, IsOneEvent, IsShapeFor, Module, ModuleStands, Reply, Setup, Tale, assembly, life_charged, life_on, set_to, setup_of}
use Rattle.nv_session.proofs.Coming.{one_event}
use Rattle.nv_session.proofs.Cutting.{ToldOfCut, comes_cut, now_cut}
use Rattle.nv_session.proofs.SessionLives.{set_rises}
use Rattle.save_image.specs.Image.{Image}
use Rattle.slot_store.specs.Slots.{HasSize}
use Rattle.open_life.specs.Lives.{GoesOn, IsAlive, SurvivesAnyStop}

module _ {K : Type 0} (L : Ghosts K) where
  -- one event
  pub goes_once : (event : Event) (reply : Reply) (old new : Assembly L) → Answers L event reply old new → setup_of L new.it ≡ setup_of L old.it → GoesOn L (λ setup. IsOneEvent event reply) old new
  goes_once event reply old new answers same = record { comes = one_event L event reply old new answers; setup = same }

  -- calls that ask neither the device nor the gauge
  pub goes_alone : (Told : Setup → Tale) (it later : Module K L) (device : DeviceState) (gauge : Gauge) → ComesAlone L (Told (setup_of L it)) it later → setup_of L later ≡ setup_of L it
      → GoesOn L Told (assembly it device gauge) (assembly later device gauge)
  goes_alone Told it later device gauge comes same = record { comes = comes device gauge; setup = same }

  pub goes_once_alone : (event : Event) (reply : Reply) (it later : Module K L) (device : DeviceState) (gauge : Gauge) → AnswersAlone L event reply it later → setup_of L later ≡ setup_of L it
      → GoesOn L (λ setup. IsOneEvent event reply) (assembly it device gauge) (assembly later device gauge)
  goes_once_alone event reply it later device gauge answers same = goes_once event reply (assembly it device gauge) (assembly later device gauge) (answers device gauge) same

  -- a device that has the size for a module has it for each of this setup
  pub still_sized : (it later : Module K L) (device : DeviceState) → setup_of L later ≡ setup_of L it → HasDevice L it device → HasDevice L later device
  still_sized it later device same size = subst (λ (s : Setup). HasSize s.shape.lines device) (sym same) size

  module _ (Told : Setup → Tale) (profile : Profile) (old new : Assembly L) (alive : IsAlive L profile old) (goes : GoesOn L Told old new) where
    still_fits : IsShapeFor profile (setup_of L new.it).shape
    still_fits = subst (λ (s : Setup). IsShapeFor profile s.shape) (sym goes.setup) alive.fits

    still_lives : HasLife L new
    still_lives =
        ∥∥₁_map alive.lives
        (λ (so : LifeSoFar L old).
        let a = so.answered.runs in let c : ComesTo L (Told (setup_of L old.it)) old a.last new = goes.comes a.last a.stands in life_on L old new so c.events c.replies goes.setup c.runs)

    -- after calls that may call the device
    pub alive_on : HasDevice L new.it new.device → IsCutToSaved L new.it → IsAlive L profile new
    alive_on size cut = record { fits = still_fits; size = size; lives = still_lives; cut = cut }

  -- after calls that tell of no save
  pub still_cut : (old new : Module K L) → new.front.terms.cut ≡ old.front.terms.cut → new.front.saved ≡ old.front.saved → IsCutToSaved L old → IsCutToSaved L new
  still_cut old new cut saved was = cut ∙ was ∙ sym saved

  -- after calls that ask nothing of the device
  pub alive_alone : (Told : Setup → Tale) (profile : Profile) (it later : Module K L) (device : DeviceState) (gauge after : Gauge) → IsAlive L profile (assembly it device gauge)
      → GoesOn L Told (assembly it device gauge) (assembly later device after) → later.front.terms.cut ≡ it.front.terms.cut → later.front.saved ≡ it.front.saved
      → IsAlive L profile (assembly later device after)
  alive_alone Told profile it later device gauge after alive goes cut saved =
      alive_on Told profile (assembly it device gauge) (assembly later device after) alive goes (still_sized it later device goes.setup alive.size) (still_cut it later cut saved alive.cut)

  -- with a gauge that was charged
  pub alive_charged : (profile : Profile) (now : Assembly L) (level : ℕ) → IsAlive L profile now → IsAlive L profile (record now { gauge = set_to level now.gauge })
  alive_charged profile now level alive = record {
    fits = alive.fits;
    size = alive.size;
    lives = ∥∥₁_map alive.lives (life_charged L now (set_to level now.gauge) (set_rises level now.gauge));
    cut = alive.cut;
  }

  -- a life that begins
  pub begins_alive : (profile : Profile) (now : Assembly L) (found : Head) (image : Image) → IsShapeFor profile (setup_of L now.it).shape → HasDevice L now.it now.device
      → ModuleStands L now.it now.device (opened_with found image) → IsAlive L profile now
  begins_alive profile now found image fits size stands = record {
    fits = fits;
    size = size;
    lives = merely (life_begins L found image now stands);
    cut = stands.matches.front.cut ∙ sym stands.saved;
  }

  -- a stop at any moment survives
  pub survives_so_far : (now : Assembly L) → LifeSoFar L now → SurvivesAnyStop L now
  survives_so_far now so = record {
    life = so;
    survives = λ bytes left.
        let ends = lives_anywhere L so.found so.image so.events so.replies so.first now so.answered bytes left in
        record { ends = ends; survived = survived (module_life L so.found so.image ends.front ends.told so.first ends.last ends.unanswered bytes) [] ends.lived };
  }

  -- calls behind which the stored writes are cut
  module _ (Told : Setup → Tale) (profile : Profile) (old mid : Assembly L) (new : Module K L) (same : setup_of L mid.it ≡ setup_of L old.it) (comes : Comes L (Told (setup_of L old.it)) old mid)
      (told : ToldOfCut (Told (setup_of L old.it))) (cut : IsCut L mid.it new) where
    pub goes_cut : GoesOn L Told old (assembly new mid.device mid.gauge)
    goes_cut = record { comes = comes_cut L (Told (setup_of L old.it)) old mid new told same comes cut; setup = cut_setup L mid.it new cut ∙ same }

    pub alive_cut : IsAlive L profile old → HasDevice L mid.it mid.device → new.front.terms.cut ≡ mid.it.front.saved → IsAlive L profile (assembly new mid.device mid.gauge)
    alive_cut alive size to =
        alive_on Told profile old (assembly new mid.device mid.gauge) alive goes_cut (still_sized mid.it new mid.device (cut_setup L mid.it new cut) size) (now_cut L mid.it new cut to)
