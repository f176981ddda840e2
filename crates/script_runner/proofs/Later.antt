-- Where a life stood for a machine, what its calls came to.
use Rattle.std.proofs.Common.{◌≡◌, ◌≤◌, ◌++◌, List, [], ◌∷◌, All, Option, Some, ap, sym, subst}
use Rattle.script_runner.proofs.Common.{All-contains, All-head, ComesTo, Contains-push, Ghosts, GoesOnBy}
use Rattle.script_runner.proofs.Common.{LivesOn, Machine, MatchOption, Module, SessionAt, Setup, Tale, World, all_of}
use Rattle.save_device.specs.Device.{DeviceState}
use Rattle.nv_machine.specs.declared.events.Event.{Event}
use Rattle.nv_machine.specs.declared.events.Reply.{Reply}
use Rattle.nv_machine.specs.Machine.{MachineStep}
use Rattle.nv_machine.specs.Guard.{IsGuarded}
use Rattle.nv_machine.specs.Headline.{Happens, Pause, Run, pause_at, paused}
use Rattle.nv_machine.specs.Rising.{Rises}
use Rattle.nv_machine.specs.Survival.{told_mark}
use Rattle.nv_machine.proofs.Guarded.{guarded_cut, persisted_accepted}
use Rattle.nv_machine.proofs.RisingMarks.{run_rises, told_along}
use Rattle.module_core.specs.Stands.{Assembly, ModuleStands, assembly, point_of, setup_of, world_of}
use Rattle.module_core.proofs.RunsOn.{run_worlds}

-- a step between two machines, whatever device and gauge it found, and wherever the stored writes began
pub record IsStep (setup : Setup) (event : Event) (reply : Reply) (m n : Machine) : Type 0 where
  pub device : DeviceState
  pub device' : DeviceState
  pub before : Pause
  pub behind : Pause
  pub guarded : IsGuarded (record m { cut = before.cut })
  pub step : MachineStep setup event reply (paused before (record { machine = m; device = device; gauge = before.gauge })) (paused behind (record { machine = n; device = device'; gauge = behind.gauge }))

-- what events made of a machine, and what they told
pub record Went (Told : Tale) (setup : Setup) (m n : Machine) : Type 0 where
  pub events : List Event
  pub replies : List Reply
  pub told : Told events replies m n
  pub rises : Rises m n
  pub marks : All (λ reply. told_mark reply ≤ n.life.persisted) replies
  pub guarded : IsGuarded m
  pub most : n.life.persisted ≤ all_of n
  pub one : (event : Event) (reply : Reply) → events ≡ event ∷ [] → replies ≡ reply ∷ [] → IsStep setup event reply m n

-- what holds of the one element of a list, and of the last one
pub of_one : {X : Type 0} (P : X → Type 0) (xs : List X) (x : X) → xs ≡ x ∷ [] → All P xs → P x
of_one P xs x is all = All-head P x [] (subst (All P) is all)

pub of_last : {X : Type 0} (P : X → Type 0) (xs before : List X) (x : X) → xs ≡ before ++ x ∷ [] → All P xs → P x
of_last P xs before x is all = All-contains P (before ++ x ∷ []) x (subst (All P) is all) (Contains-push before x)

one_step : (setup : Setup) (events : List Event) (replies : List Reply) (event : Event) (reply : Reply) (old new : World) → events ≡ event ∷ [] → replies ≡ reply ∷ []
    → IsGuarded old.machine → Run setup events replies old new → IsStep setup event reply old.machine new.machine
one_step setup events replies event reply old new is_event is_reply guarded run =
    let r : Run setup (event ∷ []) (reply ∷ []) old new =
    subst (λ (es : List Event). Run setup es (reply ∷ []) old new) is_event (subst (λ (rs : List Reply). Run setup events rs old new) is_reply run) in
    let behind : Pause = pause_at r.0 in let back : r.0 ≡ paused behind new = sym (ap (paused behind) r.2.is) in
    let h : Happens setup event reply (paused r.1.pause old) (paused behind new) = subst (λ (w : World). Happens setup event reply (paused r.1.pause old) w) back r.1.happens in
    record {
      device = old.device;
      device' = new.device;
      before = r.1.pause;
      behind = behind;
      guarded = guarded_cut old.machine r.1.pause.cut r.1.may.cut guarded;
      step = h.step;
    }

module _ {K : Type 0} (L : Ghosts K) where
  went : (Told : Tale) (old new : Assembly L) (m : Machine) → ModuleStands L old.it old.device m → (comes : ComesTo L Told old m new) → Went Told (setup_of L old.it) m comes.runs.last
  went Told old new m stands comes =
      let setup : Setup = setup_of L old.it in let n : Machine = comes.runs.last in let from : World = world_of L old m in let to : World = world_of L new n in
      let run : Run setup comes.events comes.replies from to = run_worlds L setup comes.events comes.replies (point_of L old m) (point_of L new n) comes.runs.run in
      record {
        events = comes.events;
        replies = comes.replies;
        told = comes.told;
        rises = run_rises setup comes.events comes.replies from to run stands.guarded;
        marks = told_along setup comes.events comes.replies from to run stands.guarded;
        guarded = stands.guarded;
        most = persisted_accepted n comes.runs.stands.guarded;
        one = λ event reply is_event is_reply. one_step setup comes.events comes.replies event reply from to is_event is_reply stands.guarded run;
      }

  -- A life runs then, and stands for a machine that events led to.
  pub record Later (Told : Setup → Tale) (m : Machine) (new : SessionAt L) : Type 0 where
    pub it : Module K L
    pub runs : new.life ≡ Some it
    pub n : Machine
    pub stands : ModuleStands L it new.device n
    pub setup : Setup
    pub went : Went (Told setup) setup m n

  pub later : (Told : Setup → Tale) (old new : SessionAt L) (it : Module K L) (m : Machine) → old.life ≡ Some it → ModuleStands L it old.device m → GoesOnBy L Told old new → Later Told m new
  later Told old new it m is stands goes =
      let lives : LivesOn L Told it old new = subst (λ (life : Option (Module K L)). MatchOption life (new ≡ old) (λ it. LivesOn L Told it old new)) is goes in
      let from : Assembly L = assembly it old.device old.gauge in let to : Assembly L = assembly lives.it new.device new.gauge in
      let comes : ComesTo L (Told (setup_of L it)) from m to = lives.holds m stands in
      record { it = lives.it; runs = lives.runs; n = comes.runs.last; stands = comes.runs.stands; setup = setup_of L it; went = went (Told (setup_of L it)) from to m stands comes }
