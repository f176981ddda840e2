use Rattle.std.proofs.Common.{refl, rules}
use Rattle.command_trace.proofs.Channels.{follows_all, found_of-at}
use Rattle.command_trace.proofs.trace_check.TraceCheck.take.Goals as goal

pub returns-clause-follows : goal.returns-clause-follows
returns-clause-follows c all =
    rw (c.note.ensures) (follows_all _ _ c.args.self.now.given.items c.args.next.now _ (search rules) all (c.take-is_lawful.ensures.follows _ (all c.args.next.now.entry.channel _ c.requires.channel)))

pub returns-clause-lawful : goal.returns-clause-lawful
returns-clause-lawful c all =
    rw (c.note.ensures, found_of-at c.args.next.now.entry.channel c.args.self.now.given.items c.args.next.now refl)
    (c.take-is_lawful.ensures.lawful _ (all c.args.next.now.entry.channel _ c.requires.channel))
