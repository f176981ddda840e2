use Rattle.std.proofs.Common.{◌≡◌, ℕ, ◌<◌}
use Rattle.auto_precharge.specs.Unfolding.{IsLawfulTrace}
use Rattle.command_trace.specs.Channels.{issued_to}
use Rattle.schedule_drawing.proofs.StoodFor.{stood_up_to}
use Rattle.schedule_drawing.proofs.stood_for.entries_stood_for.Given as goal

abbrev pub invariant-loop-channel : goal.invariant-loop-channel
invariant-loop-channel l =
    (l.entries.items ≡ stood_up_to l.rules l.found l.channel) × ((k : ℕ) → k < l.channel → IsLawfulTrace l.rules (issued_to k l.found))
