use Rattle.journal_load.proofs.opening.begin.Goals as goal

pub returns-in-Ok-clause-begins : goal.returns-in-Ok-clause-begins
returns-in-Ok-clause-begins g c = λ arm state rest. rw c.new.ensures.running (c.in-Ok.ensures.begins arm state rest)
