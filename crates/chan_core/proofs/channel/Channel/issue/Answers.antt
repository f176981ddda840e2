use Rattle.chan_core.proofs.Going.{running-alone}
use Rattle.chan_core.proofs.Kept.{refuted}
use Rattle.chan_core.proofs.channel.Channel.issue.Goals as goal

pub unreachable-requires : goal.unreachable-requires
unreachable-requires c =
    refuted c.ready.result (c.ready.ensures.exact _ c.self.invariant.stands) c.if-not-ready.true (rw (c.self.invariant.checked, c.self.view_is) c.requires.lawful)

pub issue_alone-requires-clause-asleep : goal.issue_alone-requires-clause-asleep
issue_alone-requires-clause-asleep c =
    rw (← c.self.invariant.checked, ← c.issue.ensures.checked) (c.phase_alone-phase.ensures.asleep _ (c.issue.ensures.stands _ c.self.invariant.stands))

pub invariant_of-self : goal.invariant_of-self
invariant_of-self c =
    running-alone c.self.inside (record { clock = c.args.clock; cmd = c.args.cmd }) c.issue.new.self c.push_back.new.self c.issue_alone.new.self c.self.invariant c.issue_alone.ensures.issues c.issue.ensures.checked c.issue.ensures.stands
    c.push_back.ensures.items c.requires.early
