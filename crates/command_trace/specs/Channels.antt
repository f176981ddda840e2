-- The channels of a trace.
use Rattle.std.specs.Prelude.{◌≡◌, ℕ, ◌<◌, ◌==◌, List, filter, map, nat_le, slice_index_or}
use Rattle.std.specs.List.{take_while}
use Rattle.auto_precharge.specs.Unfolding.{IsLawfulTrace}
use Rattle.auto_precharge.specs.declared.issued.Issued.{Issued}
use Rattle.ddr4_timing.specs.declared.command.Stamped.{Stamped}
use Rattle.ddr4_timing.specs.declared.timing.CommandRules.{CommandRules}
use Rattle.command_trace.specs.declared.diagnosis.Listed.{Listed}
use Rattle.command_trace.specs.declared.entry.Located.{Located}
use Rattle.command_trace.specs.declared.front.CommandChecker.{CommandChecker}
use Rattle.command_trace.specs.declared.trace_check.TraceCheck.{TraceCheck}
use Rattle.command_trace.specs.Following.{FollowsCommands, commands_in, issued_in}

-- what goes to a channel, in its order
abbrev pub found_of : ℕ → List Located → List Located
found_of channel found = filter (λ l. l.entry.channel == channel) found

-- the commands of a channel
abbrev pub commands_of : ℕ → List Located → List Stamped
commands_of channel found = commands_in (found_of channel found)

-- and with the line of each, and whether it closes its bank
abbrev pub issued_to : ℕ → List Located → List Issued
issued_to channel found = issued_in (found_of channel found)

-- what stands before the first line behind this one
abbrev pub found_up_to : ℕ → List Located → List Located
found_up_to last found = take_while (λ l. nat_le l.line last) found

-- the commands of a channel, and the line of each
abbrev pub Lists : ℕ → Listed → List Located → Type 0
Lists channel listed found =
    (listed.commands.items ≡ commands_of channel found) × (listed.lines.items ≡ map (λ l. l.line) (found_of channel found))

-- each channel's front follows the commands of that channel
abbrev pub FollowsAll : CommandRules → TraceCheck → Type 0
FollowsAll r check =
    (channel : ℕ) (none : CommandChecker) → channel < 8 →
    FollowsCommands r (slice_index_or check.fronts channel none) (found_of channel check.given.items)

-- the commands of each channel of the geometry are lawful
abbrev pub AreLawful : CommandRules → TraceCheck → Type 0
AreLawful r check = (channel : ℕ) → channel < r.geometry.channels → IsLawfulTrace r (issued_to channel check.given.items)
