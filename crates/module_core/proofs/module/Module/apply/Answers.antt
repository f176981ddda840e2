use Rattle.module_core.proofs.module.Module.apply.Goals as goal

pub returns-in-Write-clause-answers : goal.returns-in-Write-clause-answers
returns-in-Write-clause-answers g c = rw c.in-Write.is (c.write.ensures.answers _ _)

pub returns-in-Read-clause-answers : goal.returns-in-Read-clause-answers
returns-in-Read-clause-answers g c = rw c.in-Read.is (c.read.ensures.answers _ _)

pub returns-in-Collect-clause-answers : goal.returns-in-Collect-clause-answers
returns-in-Collect-clause-answers g c = rw c.in-Collect.is (c.collect.ensures.answers _ _)

pub returns-in-Work-clause-answers : goal.returns-in-Work-clause-answers
returns-in-Work-clause-answers g c = rw c.in-Work.is (c.work.ensures.answers _ _)

pub returns-in-Disarm-clause-answers : goal.returns-in-Disarm-clause-answers
returns-in-Disarm-clause-answers g c = rw c.in-Disarm.is (c.disarm.ensures.answers _ _)

pub returns-in-SaveBegin-clause-answers : goal.returns-in-SaveBegin-clause-answers
returns-in-SaveBegin-clause-answers g c = rw c.in-SaveBegin.is (c.save_begin.ensures.answers _ _)

pub returns-in-Sense-clause-answers : goal.returns-in-Sense-clause-answers
returns-in-Sense-clause-answers g c = rw c.in-Sense.is (c.sense.ensures.answers _)

pub returns-in-Arm-clause-answers : goal.returns-in-Arm-clause-answers
returns-in-Arm-clause-answers g c = rw c.in-Arm.is c.arm.ensures.answers

pub returns-in-SaveStep-clause-answers : goal.returns-in-SaveStep-clause-answers
returns-in-SaveStep-clause-answers g c = rw c.in-SaveStep.is c.save_step.ensures.answers

pub returns-in-Lose-clause-answers : goal.returns-in-Lose-clause-answers
returns-in-Lose-clause-answers g c = rw c.in-Lose.is c.power_loss.ensures.answers
