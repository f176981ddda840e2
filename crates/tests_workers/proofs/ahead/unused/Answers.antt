use Rattle.tests_workers.proofs.ahead.unused.Goals as goal

pub returns-clause-carries : goal.returns-clause-carries
returns-clause-carries g c = c.in-Ok.ensures.carries 0
