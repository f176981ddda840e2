use Rattle.std.proofs.Common.{sym, ◌∙◌, ap, ◌+◌, ℕ}
use Rattle.drain_core.proofs.Beginning.{none_issued, some_issued}
use Rattle.drain_core.proofs.steps.start_clock.Goals as goal

pub returns-in-Some : goal.returns-in-Some
returns-in-Some c = ap (λ (k : ℕ). k + 1) c.clock.ensures.is ∙ sym (some_issued c.args.channel.now.commands c.in-Some.field-0 (sym c.in-Some.ensures))

pub returns-in-None : goal.returns-in-None
returns-in-None c = sym (none_issued c.args.channel.now.commands (sym c.in-None.ensures))
