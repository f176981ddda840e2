use Rattle.std.proofs.Common.{arith, subst}
use Rattle.journal_log.specs.Log.{Log}
use Rattle.journal_log.proofs.Reading.{alike}
use Rattle.journal_lines.specs.Indexed.{IsIndexOf}
use Rattle.journal_table.proofs.table.JournalTable.open.Goals as goal

pub returns-in-Err-clause-other : goal.returns-in-Err-clause-other
returns-in-Err-clause-other c = λ not log table holds is.
    let found = c.in-Ok.ensures.ok in
    c.in-Err.ensures.none not log (subst (λ (l : Log). IsIndexOf c.in-Ok.journal.index l) (alike c.args.memory.now found.0 log found.1 holds (omega (arith, c.told-memory))) found.2) holds table is
