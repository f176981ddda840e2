use Rattle.std.proofs.Common.{ℕ, ◌+◌, ◌*◌, ◌^◌, ◌<◌, ◌≤◌, List, [], arith, ap, sym, subst}
use Rattle.ddr4_timing.specs.Lawful.{IsLawful, is_asleep, last_ref, with_command}
use Rattle.ddr4_timing.specs.Limits.{close_of}
use Rattle.ddr4_timing.specs.declared.command.Command.TheVariants.{Act}
use Rattle.ddr4_timing.specs.declared.command.Stamped.{Stamped}
use Rattle.ddr4_timing.specs.declared.place.BankAddress.{BankAddress}
use Rattle.ddr4_timing.specs.declared.timing.Checked.{Checked}
use Rattle.chan_core.specs.State.{ChannelState}
use Rattle.drain_core.specs.Drain.{drain_start}
use Rattle.drain_core.specs.Standing.{CanDrain}
use Rattle.tests_channel.proofs.tests.last_start.drain_opened.Goals as goal

opened_may_drain : (c : Checked) (at : BankAddress) (row clock : ℕ) → IsLawful c (with_command [] clock (Act at row))
    → clock + 1 + (close_of c.timing c.geometry + c.geometry.ranks) ≤ 9 * c.timing.t_refi → clock < 2 ^ 32
    → CanDrain c (with_command [] clock (Act at row))
unfolding drain_start last_ref is_asleep
opened_may_drain c at row clock lawful in_time early = record {
  lawful = lawful;
  awake = λ rank within asleep. absurd cc;
  in_time = λ rank within. omega (arith, in_time);
  early = omega (arith, early);
}

pub issue-requires-clause-lawful : goal.issue-requires-clause-lawful
issue-requires-clause-lawful c =
    subst (λ (list : List Stamped). IsLawful c.args.channel.now.checked (with_command list c.args.clock (Act c.args.at c.args.row))) (sym c.requires.new) c.requires.lawful

pub drain-requires-clause-can : goal.drain-requires-clause-can
drain-requires-clause-can c =
    let same = c.issue.ensures.issues.same in
    rw (ap (λ (new : ChannelState). new.checked) same, ap (λ (new : ChannelState). new.commands) same, c.requires.new)
    (opened_may_drain c.args.channel.now.checked c.args.at c.args.row c.args.clock c.requires.lawful c.requires.in_time c.requires.early)
