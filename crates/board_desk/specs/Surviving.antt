-- What a stop leaves of what lies behind a board's lock.
use Rattle.std.specs.Prelude.{◌≡◌}
use Rattle.energy_budget.specs.Charging.{RisesTo}
use Rattle.nv_machine.specs.State.{Machine}
use Rattle.nv_machine.specs.StoppedRuns.{SurvivesStops}
use Rattle.channel_locks.specs.declared.parts_name.PartsName.{Ghosts as PartsGhosts}
use Rattle.board_desk.specs.Desk.{DeskStands, DeskView, setup_at, world_at}

module _ {B : Type 0} (P : PartsGhosts B) where
  -- The desk stands for a machine, to which a life leads that began with the board's memory. A stop at any moment since then, within
  -- a call or a device write too, ends a life that a restore survives, behind whichever lives left what it was opened with.
  pub record DeskSurvives (desk : DeskView) : Type 0 where
    pub machine : Machine
    pub stands : DeskStands P desk machine
    pub began : stands.lived.image.memory ≡ P.base
    pub survives : SurvivesStops RisesTo (setup_at P desk) (world_at desk machine) stands.lived
