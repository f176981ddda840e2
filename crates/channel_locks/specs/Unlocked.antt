-- The ports of a board's channels, as they lie behind the locks.
use Rattle.std.specs.Prelude.{List, [], ◌∷◌, ◌++◌, map, Option, Some, None}
use Rattle.ddr4_timing.specs.declared.command.Stamped.{Stamped}
use Rattle.channel_port.specs.declared.port.ChannelPort.{Ghosts}
use Rattle.channel_locks.specs.declared.part.Part.{Part}
use Rattle.channel_locks.specs.declared.parts_name.PartsName.{Ghosts as NameGhosts}
use Rattle.channel_locks.specs.declared.unlocked.UnlockedChannels.{UnlockedChannels}

module _ {K : Type 0} (L : Ghosts K) where
  -- the port of a part, where there is a part
  abbrev pub port_in : Option (Part K L) → List K
  port_in None = []
  port_in (Some part) = part.port ∷ []

  -- the ports of the parts that there are, in order
  abbrev pub ports_in : List (Option (Part K L)) → List K
  ports_in [] = []
  ports_in (part ∷ parts) = port_in part ++ ports_in parts

  -- the commands that the channels of these parts have issued, channel by channel, each with its oldest first
  abbrev pub issued_by : List (Option (Part K L)) → List (List Stamped)
  issued_by parts = map L.issued (ports_in parts)

  -- the parts of all channels, in order
  abbrev pub parts_of : {B : Type 0} (O : NameGhosts B) → UnlockedChannels K B L O → List (Option (Part K L))
  parts_of O it = map (λ channel. channel.part) it.channels.items
