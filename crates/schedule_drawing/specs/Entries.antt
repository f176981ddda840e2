-- The commands of a trace, as they are drawn.
use Rattle.std.specs.Prelude.{ℕ, ◌<◌, ◌-◌, ◌^◌, Bool, if◌then◌else◌, List, All, map}
use Rattle.std.specs.List.{flat_map, list_any, range_with_len}
use Rattle.auto_precharge.specs.Unfolding.{IsLawfulTrace, settled, unfolded}
use Rattle.ddr4_timing.specs.Lawful.{IsInGeometry}
use Rattle.ddr4_timing.specs.declared.command.Stamped.{Stamped}
use Rattle.ddr4_timing.specs.declared.timing.CommandRules.{CommandRules}
use Rattle.ddr4_timing.specs.declared.timing.Geometry.{Geometry}
use Rattle.command_trace.specs.Channels.{issued_to}
use Rattle.command_trace.specs.declared.entry.ChannelCommand.{ChannelCommand}
use Rattle.command_trace.specs.declared.entry.Located.{Located}

-- each command that was found, in its order
abbrev pub entries_found : List Located → List ChannelCommand
entries_found found = map (λ l. l.entry) found

-- the geometry has the place of each command
abbrev pub LieIn : Geometry → List ChannelCommand → Type 0
LieIn g entries = All (λ entry. IsInGeometry g entry.command.cmd) entries

-- the geometry has the place of each command of a trace
abbrev pub AreFoundIn : Geometry → List Located → Type 0
AreFoundIn g found = All (λ l. IsInGeometry g l.entry.command.cmd) found

-- all clocks are those that a check takes
abbrev pub AreInTime : List Located → Type 0
AreInTime found = All (λ l. l.entry.command.clock < 2 ^ 63) found

-- a command of them is with auto-precharge
abbrev pub has_closing : List Located → Bool
has_closing found = list_any (λ l. l.closes) found

-- the list that the commands of a channel stand for
abbrev pub stood_for : CommandRules → List Located → ℕ → List Stamped
stood_for r found channel = (settled (2 ^ 63 - 1) (unfolded r.timing (issued_to channel found))).list

-- the commands of a channel
abbrev pub entries_to : ℕ → List Stamped → List ChannelCommand
entries_to channel list = map (λ x. record { channel = channel; command = x }) list

-- those of the lists that the channels stand for, one channel after the other
abbrev pub entries_stood_for : CommandRules → List Located → List ChannelCommand
entries_stood_for r found = flat_map (λ channel. entries_to channel (stood_for r found channel)) (range_with_len 0 r.geometry.channels)

-- The commands that are drawn: those of the trace, or, where some are with auto-precharge, those of the lists that it stands for.
abbrev pub entries_drawn : CommandRules → List Located → List ChannelCommand
entries_drawn r found = if has_closing found then entries_stood_for r found else entries_found found

-- each channel's commands are lawful
abbrev pub AreAllLawful : CommandRules → List Located → Type 0
AreAllLawful r found = (channel : ℕ) → channel < r.geometry.channels → IsLawfulTrace r (issued_to channel found)
