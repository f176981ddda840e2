use Rattle.std.proofs.Common.{arith, ap, rules}
use Rattle.chan_core.specs.State.{ChannelState}
use Rattle.drain_core.proofs.Beginning.{lawful_at, went}
use Rattle.drain_core.proofs.steps.issue_next.Goals as goal

pub issue-requires-clause-lawful : goal.issue-requires-clause-lawful
issue-requires-clause-lawful c =
    let s = c.args.channel.now in
    lawful_at s.checked s.commands c.args.cmd c.in-Some.least c.args.end.clock c.max-clock.result c.in-Some.ensures c.requires.may c.max-clock.ensures

pub returns-clause-on : goal.returns-clause-on
returns-clause-on c =
    let s = c.args.channel.now in record {
      progress = went s.checked.timing s.commands c.issue.new.self.commands c.args.cmd c.args.end.clock c.max-clock.result (omega (arith, c.max-clock.ensures, c.in-Some.ensures.1))
          (ap (λ (new : ChannelState). new.commands) c.issue.ensures.issues.same);
      cost = omega (arith, c.command_cost.ensures);
      takes = search rules;
    }
