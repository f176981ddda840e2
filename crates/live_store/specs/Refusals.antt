-- Why no life begins.
use Rattle.std.specs.Prelude.{⊤}
use Rattle.slot_store.specs.Outcomes.{Outcome}
use Rattle.slot_store.specs.Told.{Refuses}
use Rattle.live_store.specs.declared.fault.LiveFault.{LiveFault}
use Rattle.live_store.specs.declared.fault.LiveFault.TheVariants as fault

-- the fault of a device that restores so
abbrev pub IsRefusedFor : Outcome → LiveFault → Type 0
IsRefusedFor outcome (fault.Restore error) = Refuses error outcome
IsRefusedFor outcome (fault.Open why) = ⊥
IsRefusedFor outcome (fault.Talk why) = ⊥
IsRefusedFor outcome fault.Format = ⊤
IsRefusedFor outcome fault.Memory = ⊤
