use Rattle.std.proofs.Common.{ℕ, ◌<◌}
use Rattle.auto_precharge.specs.Unfolding.{IsLawfulTrace}
use Rattle.command_trace.specs.Channels.{FollowsAll, issued_to}
use Rattle.command_trace.proofs.trace_check.TraceCheck.are_lawful.Given as goal

abbrev pub invariant-loop-channel : goal.invariant-loop-channel
invariant-loop-channel l = FollowsAll l.rules l.self → (channel : ℕ) → channel < l.channel → IsLawfulTrace l.rules (issued_to channel l.self.given.items)
