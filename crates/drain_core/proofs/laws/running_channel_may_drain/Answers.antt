use Rattle.std.proofs.Common.{◌≡◌}
use Rattle.chan_core.specs.declared.phase.Phase.{Phase}
use Rattle.chan_core.specs.declared.phase.Phase.TheVariants.{Running, Stepping}
use Rattle.drain_core.proofs.Whole.{margin_lets_drain}
use Rattle.drain_core.proofs.laws.running_channel_may_drain.Goals as goal

never_both : (phase : Phase) → phase ≡ Running → phase ≡ Stepping → ⊥
never_both phase running stepping = absurd cc

pub returns : goal.returns
returns c s is running early = margin_lets_drain s.checked s.commands is.lawful (is.phase.in_time (never_both s.phase running)) (is.phase.awake running) early
