-- What only grows of a module: its two marks.
use Rattle.std.specs.Prelude.{◌≤◌}
use Rattle.channel_port.specs.declared.port.ChannelPort.{Ghosts}
use Rattle.module_core.specs.declared.module.Module.{Module}

module _ {K : Type 0} (L : Ghosts K) where
  -- what the module's numbers are in order: what the life began with, what is persistent, and what was accepted
  pub record HasMarksInOrder (it : Module K L) : Type 0 where
    pub start : it.front.terms.start ≤ it.front.persisted
    pub within : it.front.persisted ≤ it.front.accepted

  -- neither number of the module falls, and they are in order still
  pub record MarksRise (old new : Module K L) : Type 0 where
    pub accepted : old.front.accepted ≤ new.front.accepted
    pub persisted : old.front.persisted ≤ new.front.persisted
    pub ordered : HasMarksInOrder new
