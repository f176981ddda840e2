pub use Rattle.ddr4_timing.specs.Limits
pub use Rattle.slot_store.specs.Outcomes
pub use Rattle.nv_machine.specs.Lives
pub use Rattle.board_use.specs.Ends
pub use Rattle.persistent_write.specs.Persisting
