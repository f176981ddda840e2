use Rattle.module_core.specs.Rising.{HasMarksInOrder, MarksRise}
use Rattle.nv_machine.proofs.Guarded.{opened_persisted, persisted_accepted}
use Rattle.nv_machine.proofs.RisingMarks.{event_rises, run_rises}
use Rattle.nv_machine.specs.Rising.{Rises}
use Rattle.module_core.proofs.Common.{DeviceState, Ghosts, Machine, Module, ModuleStands, arith, point_of, setup_of, world_of}
use Rattle.module_core.proofs.RunsOn.{run_worlds}
use Rattle.module_core.proofs.laws.marks_rise.Goals as goal

module _ {K : Type 0} (L : Ghosts K) where
  in_order : (it : Module K L) (device : DeviceState) (m : Machine) → ModuleStands L it device m → HasMarksInOrder L it
  in_order it device m stands = record {
    start = omega (arith, stands.matches.front.start, stands.matches.front.persisted, opened_persisted m stands.guarded);
    within = omega (arith, stands.matches.front.accepted, stands.matches.front.persisted, persisted_accepted m stands.guarded);
  }

  -- the marks of the modules are those of the machines
  rises_with : (old new : Module K L) (device later : DeviceState) (m n : Machine) → ModuleStands L old device m → ModuleStands L new later n → Rises m n → MarksRise L old new
  rises_with old new device later m n before behind rises = record {
    accepted = omega (arith, before.matches.front.accepted, behind.matches.front.accepted, rises.accepted);
    persisted = omega (arith, before.matches.front.persisted, behind.matches.front.persisted, rises.persisted);
    ordered = in_order new later n behind;
  }

pub returns-clause-ordered : goal.returns-clause-ordered
returns-clause-ordered g c = λ it m stands. in_order g.K.ChannelPort it.it it.device m stands

pub returns-clause-call : goal.returns-clause-call
returns-clause-call g c = λ event reply old new m stands answers.
    let L = g.K.ChannelPort in let to = answers m stands in
    rises_with L old.it new.it old.device new.device m to.0 stands to.1 (event_rises (setup_of L old.it) event reply (world_of L old m) (world_of L new to.0) to.2.happens.step stands.guarded)

pub returns-clause-run : goal.returns-clause-run
returns-clause-run g c = λ events replies old new m stands answers.
    let L = g.K.ChannelPort in let to = answers m stands in
    rises_with L old.it new.it old.device new.device m to.last stands to.stands
    (run_rises (setup_of L old.it) events replies (world_of L old m) (world_of L new to.last) (run_worlds L (setup_of L old.it) events replies (point_of L old m) (point_of L new to.last) to.run) stands.guarded)
