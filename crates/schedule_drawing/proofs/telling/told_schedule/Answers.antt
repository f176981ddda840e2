use Rattle.schedule_drawing.proofs.ToldLives.{tells-more, tells-none}
use Rattle.schedule_drawing.proofs.telling.told_schedule.Goals as goal

pub loop-left-init : goal.loop-left-init
loop-left-init c = tells-none c.args.t.now c.args.answers.now c.new-schedule.result c.new-schedule.ensures.shapes c.new-schedule.ensures.begins
    c.new-schedule.ensures.events c.new-schedule.ensures.flaws c.new-schedule.ensures.whole

pub loop-left-preserved : goal.loop-left-preserved
loop-left-preserved c =
    tells-more c.args.t.now c.args.answers.now c.loop-left.left.now c.split_at.result.0.now c.split_at.result.1.now
    c.life_length.result _ c.loop-left.schedule c.tell_life.new.schedule
    c.loop-left.invariant c.life_length.ensures.some c.split_at.ensures.front c.split_at.ensures.back
    c.life_length.ensures.one c.life_length.ensures.next c.in_ok-tell_life.ensures.life c.in_ok-tell_life.ensures.events
    c.tell_life.ensures.flaws c.tell_life.ensures.shown
    c.next_begin-begin.ensures.first c.next_begin-begin.ensures.behind
