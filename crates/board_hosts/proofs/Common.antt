-- The words that most proofs of this crate cite, passed on from one place.
pub use Rattle.std.specs.Prelude.{All, None, Ok, Option, Result, Some, length, vec_capacity, vec_len, ◌+◌, ◌≡◌, ◌≤◌}
pub use Rattle.std.proofs.Math.Logic.{∥∥₁_elim}
pub use Rattle.energy_budget.specs.declared.energy.Energy.{Ghosts}
pub use Rattle.nv_machine.specs.State.{Machine, RunningSave, Setup, Store, World}
pub use Rattle.module_core.specs.Stands.{HasDevice, ModuleStands, setup_of}
pub use Rattle.board_hosts.specs.SeenMarks.{SeenMarks, seen_marks}
pub use Rattle.board_hosts.specs.declared.recorded_module.RecordedModule.{RecordedModule}
pub use Rattle.board_hosts.specs.Client.{Client, client}
pub use Rattle.board_hosts.specs.Kept.{IsRecordKept, StandsWith}
pub use Rattle.board_hosts.specs.Marks.{ShowsNoMore, told_at}
pub use Rattle.nv_machine.specs.Lives.{LivedUntil}
pub use Rattle.board_hosts.specs.Lived.{world_for}
