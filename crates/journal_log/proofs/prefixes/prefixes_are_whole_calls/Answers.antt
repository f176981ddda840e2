use Rattle.std.proofs.Common.{List, ℕ}
use Rattle.journal_log.specs.Log.{Log}
use Rattle.journal_log.specs.Calls.{Attempt}
use Rattle.journal_log.proofs.Cutting.{front, length-journal, told}
use Rattle.journal_log.proofs.Keeping.{reads, whole}
use Rattle.journal_log.proofs.prefixes.prefixes_are_whole_calls.Goals as goal

pub returns-clause-whole : goal.returns-clause-whole
returns-clause-whole c = whole

pub returns-clause-reads : goal.returns-clause-reads
returns-clause-reads c = reads

pub returns-clause-told : goal.returns-clause-told
returns-clause-told c = told

pub returns-clause-front : goal.returns-clause-front
returns-clause-front c = front

pub returns-clause-count : goal.returns-clause-count
returns-clause-count c = λ (lines : ℕ) (log : Log) (attempts : List Attempt). length-journal attempts lines log
