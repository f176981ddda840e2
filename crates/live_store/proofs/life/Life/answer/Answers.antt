use Rattle.std.proofs.Common.{Some, ap, refl}
use Rattle.arm_state.specs.declared.mode.Mode.{Mode}
use Rattle.nv_session.proofs.Common.{IsOneEvent, IsWork, MakesOneStep, MakesSave, ReadsLine}
use Rattle.nv_machine.specs.declared.events.Event.TheVariants as events
use Rattle.nv_machine.specs.declared.events.Reply.TheVariants as replies
use Rattle.nv_script.specs.declared.answer.Answer.TheVariants as answer
use Rattle.nv_script.specs.declared.line.ScriptLine.TheVariants as line
use Rattle.script_runner.specs.Doing.{AreEventsOf}
use Rattle.script_runner.specs.Replies.{arm_told, disarm_told, read_told, save_told, step_told, work_told}
use Rattle.live_store.specs.Lives.{charged, now_of}
use Rattle.live_store.proofs.Turns.{goes_retold, turn_as}
use Rattle.live_store.proofs.life.Life.answer.Goals as goal

pub returns-in-Read-clause-some : goal.returns-in-Read-clause-some
returns-in-Read-clause-some g c =
    let L = g.K.ChannelPort in let old = now_of c.args.self.now in let new = now_of c.read.new.self in
    turn_as L c.args.line (line.Read c.in-Read.line) _ (read_told c.in-Read.line c.read.result) old new c.in-Read.is c.read_answer.ensures
    (goes_retold L (λ setup. ReadsLine setup c.in-Read.line c.read.result) (AreEventsOf (line.Read c.in-Read.line) (read_told c.in-Read.line c.read.result)) old new (λ setup es rs m n told. (c.read.result, refl, told)) c.read.ensures.goes)

pub returns-in-Work-clause-some : goal.returns-in-Work-clause-some
returns-in-Work-clause-some g c =
    let L = g.K.ChannelPort in let old = now_of c.args.self.now in let new = now_of c.work.new.self in
    turn_as L c.args.line (line.Work c.in-Work.channel c.in-Work.most) _ (work_told c.in-Work.channel c.work.result) old new c.in-Work.is c.work_answer.ensures
    (goes_retold L (λ setup. IsWork c.in-Work.channel c.work.result) (AreEventsOf (line.Work c.in-Work.channel c.in-Work.most) (work_told c.in-Work.channel c.work.result)) old new (λ setup es rs m n told. (c.work.result, refl, told)) c.work.ensures.goes)

pub returns-in-Save-clause-some : goal.returns-in-Save-clause-some
returns-in-Save-clause-some g c =
    let L = g.K.ChannelPort in let old = now_of c.args.self.now in let new = now_of c.save.new.self in
    turn_as L c.args.line (line.Save) _ (save_told c.save.result) old new c.in-Save.is c.save_answer.ensures
    (goes_retold L (λ setup. MakesSave setup.shape.channels c.save.result) (AreEventsOf (line.Save) (save_told c.save.result)) old new (λ setup es rs m n told. (c.save.result, refl, told)) c.save.ensures.goes)

pub returns-in-Step-clause-some : goal.returns-in-Step-clause-some
returns-in-Step-clause-some g c =
    let L = g.K.ChannelPort in let old = now_of c.args.self.now in let new = now_of c.step.new.self in
    turn_as L c.args.line (line.Step) _ (step_told c.step.result) old new c.in-Step.is c.step_answer.ensures
    (goes_retold L (λ setup. MakesOneStep c.step.result) (AreEventsOf (line.Step) (step_told c.step.result)) old new (λ setup es rs m n told. (c.step.result, refl, told)) c.step.ensures.goes)

pub returns-in-Arm-clause-some : goal.returns-in-Arm-clause-some
returns-in-Arm-clause-some g c =
    let L = g.K.ChannelPort in let old = now_of c.args.self.now in let new = now_of c.arm.new.self in
    turn_as L c.args.line (line.Arm) _ (arm_told c.arm.result) old new c.in-Arm.is c.arm_answer.ensures
    (goes_retold L (λ setup. IsOneEvent events.Arm (replies.Arm c.arm.result)) (AreEventsOf (line.Arm) (arm_told c.arm.result)) old new (λ setup es rs m n told. (c.arm.result, refl, told)) c.arm.ensures.goes)

pub returns-in-Disarm-clause-some : goal.returns-in-Disarm-clause-some
returns-in-Disarm-clause-some g c =
    let L = g.K.ChannelPort in let old = now_of c.args.self.now in let new = now_of c.disarm.new.self in
    turn_as L c.args.line (line.Disarm) _ (disarm_told c.disarm.result) old new c.in-Disarm.is c.disarm_answer.ensures
    (goes_retold L (λ setup. IsOneEvent events.Disarm (replies.Disarm c.disarm.result)) (AreEventsOf (line.Disarm) (disarm_told c.disarm.result)) old new (λ setup es rs m n told. (c.disarm.result, refl, told)) c.disarm.ensures.goes)

pub returns-in-Lose-clause-some : goal.returns-in-Lose-clause-some
returns-in-Lose-clause-some g c =
    let L = g.K.ChannelPort in let old = now_of c.args.self.now in let new = now_of c.lose.new.self in
    turn_as L c.args.line (line.Lose) _ (answer.Lost c.lose.result) old new c.in-Lose.is refl
    (goes_retold L (λ setup. IsOneEvent events.Lose (replies.Lose c.lose.result)) (AreEventsOf (line.Lose) (answer.Lost c.lose.result)) old new (λ setup es rs m n told. (c.lose.result, refl, told)) c.lose.ensures.goes)

pub returns-in-Sense-clause-some : goal.returns-in-Sense-clause-some
returns-in-Sense-clause-some g c =
    let L = g.K.ChannelPort in let level = c.in-Sense.level in let reading = c.sense-reading.result in let asked = line.Sense level in let given = answer.Level reading (Some c.mode.result) in
    let old = now_of c.args.self.now in let new = now_of c.sense-reading.new.self in
    turn_as L c.args.line asked given given old new c.in-Sense.is refl (
      goes_retold L (λ setup. IsOneEvent events.Sense (replies.Sense reading)) (AreEventsOf asked given) (charged asked old) new
          (λ setup es rs m n told. (reading, Some c.mode.result, refl, told)) c.sense-reading.ensures.goes,
      ap (λ (mode : Mode). Some mode) c.mode.ensures,
    )
