use Rattle.schedule_drawing.proofs.ToldLives.{life-front, life-next}
use Rattle.schedule_drawing.proofs.telling.life_length.Goals as goal

pub returns-clause-one : goal.returns-clause-one
returns-clause-one c = life-front c.args.answers.now c.others_of_life.result c.others_of_life.ensures.others

pub returns-clause-next : goal.returns-clause-next
returns-clause-next c = life-next c.args.answers.now c.others_of_life.result c.others_of_life.ensures.next
