use Rattle.std.proofs.Common.{[], ◌∷◌, ◌++◌, rules, subst}
use Rattle.auto_precharge.specs.Unfolding.{plain_commands}
use Rattle.auto_precharge.specs.declared.issued.Issued.{Issued}
use Rattle.command_trace.specs.Channels.{issued_to}
use Rattle.trace_statistics.specs.MarginsStanding.{RanksStand}
use Rattle.trace_statistics.specs.Standing.{ChannelStands}
use Rattle.trace_statistics.proofs.Channels.{stand_for_all}
use Rattle.trace_statistics.proofs.RankTables.{stand_by_all}
use Rattle.trace_statistics.proofs.statistics.TraceStatistics.take.Goals as goal

pub invariant_of-self : goal.invariant_of-self
invariant_of-self c = record {
  stands = rw (c.note.ensures)
      (stand_for_all c.args.self.now.channels c.args.self.now.given.items c.args.next.now _ (search rules) c.args.self.now.stands
      (subst (λ (x : Issued). ChannelStands c.take.new.self (issued_to c.args.next.now.entry.channel c.args.self.now.given.items ++ x ∷ [])) c.issued.ensures
      (c.take.ensures _ (c.args.self.now.stands c.args.next.now.entry.channel _ c.requires.channel))));
  kept = rw (c.note.ensures)
      (stand_by_all c.args.self.now.rules.timing c.args.self.now.margins c.args.self.now.given.items c.args.next.now _ (search rules) c.args.self.now.kept
      (subst
      (λ (x : Issued). RanksStand c.args.self.now.rules.timing c.take-2.new.self (plain_commands (issued_to c.args.next.now.entry.channel c.args.self.now.given.items ++ x ∷ [])))
      c.issued-2.ensures
      (c.take-2.ensures _ (c.args.self.now.kept c.args.next.now.entry.channel _ c.requires.channel))));
}
