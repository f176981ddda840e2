use Rattle.command_faults.proofs.fault.ProgramFault.exit_code.Goals as goal

pub returns-in-Words : goal.returns-in-Words
returns-in-Words c = search

pub returns-in-Out : goal.returns-in-Out
returns-in-Out c = search

pub returns-in-Kept : goal.returns-in-Kept
returns-in-Kept c = search

pub returns-in-NoTerm : goal.returns-in-NoTerm
returns-in-NoTerm c = search
