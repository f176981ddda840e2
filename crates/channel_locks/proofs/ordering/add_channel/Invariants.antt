use Rattle.channel_port.specs.Waits.{nothing}
use Rattle.channel_locks.proofs.ordering.add_channel.Given as goal

abbrev pub ghosts-look : goal.ghosts-look
ghosts-look g a = record { waits = nothing }
