-- What a reader of a trace gives.
use Rattle.std.specs.Prelude.{◌≡◌, ℕ, ◌<◌, ◌^◌, Bool, ◌⊎◌}
use Rattle.command_trace.specs.declared.entry.ChannelCommand.{ChannelCommand}
use Rattle.command_trace.specs.declared.reading.Form.{Form}
use Rattle.command_trace.specs.declared.reading.Form.TheVariants.{Lines, Table}

-- its channel is one of so many, and its clock is one that a check takes
abbrev pub FitsChannels : ℕ → ChannelCommand → Type 0
FitsChannels channels entry = (entry.channel < channels) × (entry.command.clock < 2 ^ 63)

-- a table, or lines with or without others among them
abbrev pub IsFormWith : Bool → Form → Type 0
IsFormWith others form = (form ≡ Table) ⊎ (form ≡ Lines others)
