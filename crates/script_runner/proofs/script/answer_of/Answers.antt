use Rattle.std.proofs.Common.{◌∙◌, ℕ, Option, Some, refl, ap, sym, subst}
use Rattle.std.specs.Option.{option_map}
use Rattle.script_runner.proofs.Common.{Gauge, GoesOnBy, IsOneEvent, IsWork, SessionAt, Setup, Tale, device_state}
use Rattle.script_runner.proofs.Common.{line_count_in, moment_in, session_at, set_to}
use Rattle.save_device.specs.Memory.{state_of, IsPicked}
use Rattle.save_device.specs.declared.fuse.Fuse.{Fuse}
use Rattle.save_device.specs.declared.memory.MemoryDevice.{MemoryDevice}
use Rattle.save_device.specs.declared.one_fault.OneFault.{OneFault}
use Rattle.save_device.specs.declared.memory.Pick.{Pick}
use Rattle.energy_budget.specs.Meter.{meter_gauge}
use Rattle.arm_state.specs.declared.loss.Loss.{Loss}
use Rattle.arm_state.specs.declared.mode.Mode.{Mode}
use Rattle.nv_machine.specs.declared.events.Event.TheVariants as events
use Rattle.nv_machine.specs.declared.events.Reply.TheVariants as replies
use Rattle.nv_session.specs.Living.{innermost}
use Rattle.nv_session.specs.ReadTurns.{ReadsLine}
use Rattle.nv_session.specs.SaveTurns.{MakesSave}
use Rattle.nv_session.specs.Turns.{GoesOnSaving, MakesOneStep, SeesLine}
use Rattle.nv_session.proofs.Going.{goes_retold}
use Rattle.nv_script.specs.declared.line.ScriptLine.TheVariants as line
use Rattle.nv_script.specs.declared.answer.Answer.TheVariants as answer
use Rattle.script_runner.specs.Doing.{AreEventsOf}
use Rattle.script_runner.specs.Replies.{write_told, read_told, work_told, step_told, save_told, arm_told, disarm_told, restore_told}
use Rattle.script_runner.proofs.Answering.{write_truly, read_truly, work_truly, sense_truly, arm_truly, disarm_truly, save_truly, step_truly, lose_truly, regauged}
use Rattle.script_runner.proofs.Telling.{truly_as, lie_truly, fuse_truly, one_fault_truly, mark_truly, format_truly, fault_truly, restored_truly}
use Rattle.script_runner.proofs.Alone.{goes_alone}
use Rattle.script_runner.proofs.Doing.{does_as, none_begins}
use Rattle.script_runner.proofs.script.answer_of.Goals as goal

pub returns-in-Ok-clause-truly : goal.returns-in-Ok-clause-truly
returns-in-Ok-clause-truly g c =
    let L = g.K.ChannelPort in let it = c.args.session.now in let lines = line_count_in it in let old = moment_in it in
    truly_as L c.in-Format.is refl (format_truly L lines _ old (moment_in c.format.new.self) c.in-Ok.ensures.begins)

pub returns-in-Err-Device-clause-truly : goal.returns-in-Err-Device-clause-truly
returns-in-Err-Device-clause-truly g c =
    let L = g.K.ChannelPort in let it = c.args.session.now in let lines = line_count_in it in let old = moment_in it in
    truly_as L c.in-Format.is refl (fault_truly L lines old (moment_in c.format.new.self))

pub returns-in-Write-clause-truly : goal.returns-in-Write-clause-truly
returns-in-Write-clause-truly g c =
    let L = g.K.ChannelPort in let it = c.args.session.now in let lines = line_count_in it in let old = moment_in it in
    let made = c.write.new.self in let ensures = c.write.ensures in
    truly_as L c.in-Write.is c.write_answer.ensures (write_truly L lines c.in-Write.write c.write.result _ old (moment_in made) ensures.none (goes_alone L (λ setup. IsOneEvent (events.Write c.in-Write.write) (replies.Write c.write.result)) it made ensures.device ensures.gauge ensures.comes))

pub returns-in-Read-clause-truly : goal.returns-in-Read-clause-truly
returns-in-Read-clause-truly g c =
    let L = g.K.ChannelPort in let it = c.args.session.now in let lines = line_count_in it in let old = moment_in it in
    let made = c.read.new.self in let ensures = c.read.ensures in
    truly_as L {said = read_told c.in-Read.line c.read.result} c.in-Read.is c.read_answer.ensures
    (read_truly L lines c.in-Read.line c.read.result _ old (moment_in made) ensures.none
    (goes_retold L (λ setup. ReadsLine setup c.in-Read.line c.read.result) (λ setup. SeesLine setup c.in-Read.line c.read.result) old (moment_in made) (λ setup es rs m n told. told.sees)
    (goes_alone L (λ setup. ReadsLine setup c.in-Read.line c.read.result) it made ensures.device ensures.gauge ensures.comes)))

pub returns-in-Work-clause-truly : goal.returns-in-Work-clause-truly
returns-in-Work-clause-truly g c =
    let L = g.K.ChannelPort in let it = c.args.session.now in let lines = line_count_in it in let old = moment_in it in
    let made = c.work.new.self in let ensures = c.work.ensures in
    truly_as L {said = work_told c.in-Work.channel c.work.result} c.in-Work.is c.work_answer.ensures (work_truly L lines c.in-Work.channel c.in-Work.most c.work.result old (moment_in made) (goes_alone L (λ setup. IsWork c.in-Work.channel c.work.result) it made ensures.device ensures.gauge ensures.comes))

pub returns-in-Save-clause-truly : goal.returns-in-Save-clause-truly
returns-in-Save-clause-truly g c =
    let L = g.K.ChannelPort in let it = c.args.session.now in let lines = line_count_in it in let old = moment_in it in
    truly_as L c.in-Save.is c.save_answer.ensures
    (save_truly L lines c.save.result old (moment_in c.save.new.self) c.save.ensures.none
    (goes_retold L (λ setup. MakesSave setup.shape.channels c.save.result) (λ setup. GoesOnSaving c.save.result) old (moment_in c.save.new.self) (λ setup es rs m n told. told.goes_on) c.save.ensures.comes))

pub returns-in-Step-clause-truly : goal.returns-in-Step-clause-truly
returns-in-Step-clause-truly g c =
    let L = g.K.ChannelPort in let it = c.args.session.now in let lines = line_count_in it in let old = moment_in it in
    truly_as L c.in-Step.is c.step_answer.ensures (step_truly L lines c.step.result old (moment_in c.step.new.self) c.step.ensures.none c.step.ensures.comes)

pub returns-in-Arm-clause-truly : goal.returns-in-Arm-clause-truly
returns-in-Arm-clause-truly g c =
    let L = g.K.ChannelPort in let it = c.args.session.now in let lines = line_count_in it in let old = moment_in it in
    truly_as L c.in-Arm.is c.arm_answer.ensures (arm_truly L lines c.arm.result old (moment_in c.arm.new.self) c.arm.ensures.comes)

pub returns-in-Disarm-clause-truly : goal.returns-in-Disarm-clause-truly
returns-in-Disarm-clause-truly g c =
    let L = g.K.ChannelPort in let it = c.args.session.now in let lines = line_count_in it in let old = moment_in it in
    let made = c.disarm.new.self in let ensures = c.disarm.ensures in
    truly_as L c.in-Disarm.is c.disarm_answer.ensures (disarm_truly L lines c.disarm.result old (moment_in made) (goes_alone L (λ setup. IsOneEvent events.Disarm (replies.Disarm c.disarm.result)) it made ensures.device ensures.gauge ensures.comes))

pub returns-in-Lose-clause-truly : goal.returns-in-Lose-clause-truly
returns-in-Lose-clause-truly g c =
    let L = g.K.ChannelPort in let it = c.args.session.now in let lines = line_count_in it in let old = moment_in it in
    truly_as L c.in-Lose.is refl (lose_truly L lines c.lose.result old (moment_in c.lose.new.self) c.lose.ensures.none c.lose.ensures.comes)

pub returns-in-Lie-clause-truly : goal.returns-in-Lie-clause-truly
returns-in-Lie-clause-truly g c =
    let L = g.K.ChannelPort in let it = c.args.session.now in let lines = line_count_in it in let old = moment_in it in
    truly_as L c.in-Lie.is refl (lie_truly L lines c.in-Lie.units old (moment_in c.lie.new.self) c.lie.ensures.life (ap device_state c.lie.ensures.device))

pub returns-in-Fuse-clause-truly : goal.returns-in-Fuse-clause-truly
returns-in-Fuse-clause-truly g c =
    let L = g.K.ChannelPort in let it = c.args.session.now in let lines = line_count_in it in let old = moment_in it in
    truly_as L c.in-Fuse.is refl (fuse_truly L lines c.in-Fuse.calls old (moment_in c.fuse.new.self) c.fuse.ensures.life c.fuse.ensures.state)

pub returns-in-OneFault-clause-truly : goal.returns-in-OneFault-clause-truly
returns-in-OneFault-clause-truly g c =
    let L = g.K.ChannelPort in let it = c.args.session.now in let lines = line_count_in it in let old = moment_in it in
    truly_as L c.in-OneFault.is refl (one_fault_truly L lines c.in-OneFault.call old (moment_in c.fail_one.new.self) c.fail_one.ensures.life c.fail_one.ensures.state)

pub returns-in-Mark-clause-truly : goal.returns-in-Mark-clause-truly
returns-in-Mark-clause-truly g c =
    let L = g.K.ChannelPort in let it = c.args.session.now in let lines = line_count_in it in let old = moment_in it in
    truly_as L c.in-Mark.is refl (mark_truly L lines c.mark.result old c.mark.ensures)

pub returns-in-Sense-clause-truly : goal.returns-in-Sense-clause-truly
returns-in-Sense-clause-truly g c =
    let L = g.K.ChannelPort in let it = c.args.session.now in let lines = line_count_in it in let level = c.in-Sense.level in
    let made = c.sense-reading.new.self in let told = c.sense-reading.result in let ensures = c.sense-reading.ensures in
    let set : Gauge = set_to level (meter_gauge it.gauge) in
    truly_as L c.in-Sense.is refl
    (regauged L lines (line.Sense level) (answer.Level told.reading told.mode) (moment_in it) (moment_in made) set
    (sense_truly L lines level told.reading told.mode (session_at it.life (device_state it.device) set) (moment_in made)
    (subst (λ (d : OneFault (Fuse MemoryDevice)). GoesOnBy L (λ setup. IsOneEvent events.Sense (replies.Sense told.reading)) (session_at it.life (device_state it.device) set) (session_at made.life (device_state d) (meter_gauge made.gauge)))
    (sym ensures.device) (ensures.comes (device_state it.device)))))

pub returns-in-Restore-clause-truly : goal.returns-in-Restore-clause-truly
returns-in-Restore-clause-truly g c =
    let L = g.K.ChannelPort in let it = c.args.session.now in let lines = line_count_in it in let old = moment_in it in
    truly_as L c.in-Restore.is c.restore_answer.ensures (restored_truly L lines c.in-Restore.pick c.in-Restore.map _ c.restore.result old (moment_in c.restore.new.self) c.restore.ensures.finds c.restore.ensures.keeps c.restore.ensures.none)

pub returns-in-Write-clause-does : goal.returns-in-Write-clause-does
returns-in-Write-clause-does g c =
    let L = g.K.ChannelPort in let it = c.args.session.now in let made = c.write.new.self in let ensures = c.write.ensures in
    let Told : Setup → Tale = λ setup. IsOneEvent (events.Write c.in-Write.write) (replies.Write c.write.result) in
    does_as L {said = write_told c.write.result} it made c.in-Write.is c.write_answer.ensures (
      record {
        comes = goes_retold L Told (AreEventsOf (line.Write c.in-Write.write) (write_told c.write.result)) (moment_in it) (moment_in made)
            (λ setup es rs m n told. (c.write.result, refl, told)) (goes_alone L Told it made ensures.device ensures.gauge ensures.comes);
        none = λ none. ap write_told (ensures.none none);
      },
      record { device = ensures.device; gauge = ensures.gauge },
    )

pub returns-in-Read-clause-does : goal.returns-in-Read-clause-does
returns-in-Read-clause-does g c =
    let L = g.K.ChannelPort in let it = c.args.session.now in let made = c.read.new.self in let ensures = c.read.ensures in
    let Told : Setup → Tale = λ setup. ReadsLine setup c.in-Read.line c.read.result in
    does_as L {said = read_told c.in-Read.line c.read.result} it made c.in-Read.is c.read_answer.ensures (
      record {
        comes = goes_retold L Told (AreEventsOf (line.Read c.in-Read.line) (read_told c.in-Read.line c.read.result)) (moment_in it) (moment_in made)
            (λ setup es rs m n told. (c.read.result, refl, told)) (goes_alone L Told it made ensures.device ensures.gauge ensures.comes);
        none = λ none. ap (read_told c.in-Read.line) (ensures.none none);
      },
      record { device = ensures.device; gauge = ensures.gauge },
    )

pub returns-in-Work-clause-does : goal.returns-in-Work-clause-does
returns-in-Work-clause-does g c =
    let L = g.K.ChannelPort in let it = c.args.session.now in let made = c.work.new.self in let ensures = c.work.ensures in
    let Told : Setup → Tale = λ setup. IsWork c.in-Work.channel c.work.result in
    does_as L {said = work_told c.in-Work.channel c.work.result} it made c.in-Work.is c.work_answer.ensures (
      record {
        comes = goes_retold L Told (AreEventsOf (line.Work c.in-Work.channel c.in-Work.most) (work_told c.in-Work.channel c.work.result)) (moment_in it) (moment_in made)
            (λ setup es rs m n told. (c.work.result, refl, told)) (goes_alone L Told it made ensures.device ensures.gauge ensures.comes);
        none = λ none. ap (work_told c.in-Work.channel) (ensures.none none);
      },
      record { device = ensures.device; gauge = ensures.gauge },
    )

pub returns-in-Save-clause-does : goal.returns-in-Save-clause-does
returns-in-Save-clause-does g c =
    let L = g.K.ChannelPort in let it = c.args.session.now in let made = c.save.new.self in let ensures = c.save.ensures in
    let Told : Setup → Tale = λ setup. MakesSave setup.shape.channels c.save.result in
    does_as L {said = save_told c.save.result} it made c.in-Save.is c.save_answer.ensures (
      record {
        comes = goes_retold L Told (AreEventsOf line.Save (save_told c.save.result)) (moment_in it) (moment_in made)
            (λ setup es rs m n told. (c.save.result, refl, told)) ensures.comes;
        none = λ none. ap save_told (ensures.none none);
      },
      λ none. record { device = (ensures.rests none).0; gauge = (ensures.rests none).1 },
    )

pub returns-in-Step-clause-does : goal.returns-in-Step-clause-does
returns-in-Step-clause-does g c =
    let L = g.K.ChannelPort in let it = c.args.session.now in let made = c.step.new.self in let ensures = c.step.ensures in
    let Told : Setup → Tale = λ setup. MakesOneStep c.step.result in
    does_as L {said = step_told c.step.result} it made c.in-Step.is c.step_answer.ensures (
      record {
        comes = goes_retold L Told (AreEventsOf line.Step (step_told c.step.result)) (moment_in it) (moment_in made)
            (λ setup es rs m n told. (c.step.result, refl, told)) ensures.comes;
        none = λ none. ap step_told (ensures.none none);
      },
      λ none. record { device = (ensures.rests none).0; gauge = (ensures.rests none).1 },
    )

pub returns-in-Arm-clause-does : goal.returns-in-Arm-clause-does
returns-in-Arm-clause-does g c =
    let L = g.K.ChannelPort in let it = c.args.session.now in let made = c.arm.new.self in let ensures = c.arm.ensures in
    let Told : Setup → Tale = λ setup. IsOneEvent events.Arm (replies.Arm c.arm.result) in
    does_as L {said = arm_told c.arm.result} it made c.in-Arm.is c.arm_answer.ensures (
      record {
        comes = goes_retold L Told (AreEventsOf line.Arm (arm_told c.arm.result)) (moment_in it) (moment_in made)
            (λ setup es rs m n told. (c.arm.result, refl, told)) ensures.comes;
        none = λ none. ap arm_told (ensures.none none);
      },
      λ none. record { device = (ensures.rests none).0; gauge = (ensures.rests none).1 },
    )

pub returns-in-Disarm-clause-does : goal.returns-in-Disarm-clause-does
returns-in-Disarm-clause-does g c =
    let L = g.K.ChannelPort in let it = c.args.session.now in let made = c.disarm.new.self in let ensures = c.disarm.ensures in
    let Told : Setup → Tale = λ setup. IsOneEvent events.Disarm (replies.Disarm c.disarm.result) in
    does_as L {said = disarm_told c.disarm.result} it made c.in-Disarm.is c.disarm_answer.ensures (
      record {
        comes = goes_retold L Told (AreEventsOf line.Disarm (disarm_told c.disarm.result)) (moment_in it) (moment_in made)
            (λ setup es rs m n told. (c.disarm.result, refl, told)) (goes_alone L Told it made ensures.device ensures.gauge ensures.comes);
        none = λ none. ap disarm_told (ensures.none none);
      },
      record { device = ensures.device; gauge = ensures.gauge },
    )

pub returns-in-Lose-clause-does : goal.returns-in-Lose-clause-does
returns-in-Lose-clause-does g c =
    let L = g.K.ChannelPort in let it = c.args.session.now in let made = c.lose.new.self in let ensures = c.lose.ensures in
    let Told : Setup → Tale = λ setup. IsOneEvent events.Lose (replies.Lose c.lose.result) in
    does_as L {said = answer.Lost c.lose.result} it made c.in-Lose.is refl (
      record {
        comes = goes_retold L Told (AreEventsOf line.Lose (answer.Lost c.lose.result)) (moment_in it) (moment_in made)
            (λ setup es rs m n told. (c.lose.result, refl, told)) ensures.comes;
        none = λ none. ap (λ (loss : Loss). answer.Lost loss) (ensures.none none);
      },
      λ none. record { device = (ensures.rests none).0; gauge = (ensures.rests none).1 },
    )

pub returns-in-Sense-clause-does : goal.returns-in-Sense-clause-does
returns-in-Sense-clause-does g c =
    let L = g.K.ChannelPort in let it = c.args.session.now in let level = c.in-Sense.level in
    let made = c.sense-reading.new.self in let told = c.sense-reading.result in let ensures = c.sense-reading.ensures in
    let Told : Setup → Tale = λ setup. IsOneEvent events.Sense (replies.Sense told.reading) in
    let set : SessionAt L = session_at it.life (device_state it.device) (set_to level (meter_gauge it.gauge)) in
    let goes : GoesOnBy L Told set (moment_in made) =
    subst (λ (d : OneFault (Fuse MemoryDevice)). GoesOnBy L Told set (session_at made.life (device_state d) (meter_gauge made.gauge))) (sym ensures.device) (ensures.comes (device_state it.device)) in
    does_as L {said = answer.Level told.reading told.mode} it made c.in-Sense.is refl (
      record {
        comes = goes_retold L Told (AreEventsOf (line.Sense level) (answer.Level told.reading told.mode)) set (moment_in made)
            (λ setup es rs m n is. (told.reading, told.mode, refl, is)) goes;
        none = λ none.
            ap (λ (reading : ℕ). answer.Level reading told.mode) (ensures.none none)
            ∙ ap (λ (mode : Option Mode). answer.Level level mode) (ensures.mode ∙ ap (option_map (λ life. life.front.mode)) (none_begins L Told set (moment_in made) goes none));
      },
      ensures.mode,
      record { device = ensures.device; lie = ensures.lie },
    )

pub returns-in-Ok-clause-does : goal.returns-in-Ok-clause-does
returns-in-Ok-clause-does g c =
    does_as g.K.ChannelPort c.args.session.now c.format.new.self c.in-Format.is refl (c.in-Ok.ensures.begins, record { lie = c.format.ensures.lie; gauge = c.format.ensures.gauge }, λ told. c.in-Ok.ensures.issued)

pub returns-in-Err-Device-clause-does : goal.returns-in-Err-Device-clause-does
returns-in-Err-Device-clause-does g c =
    does_as g.K.ChannelPort c.args.session.now c.format.new.self c.in-Format.is refl ((c.in-Err-Device.ensures.none, rw c.in-Err-Device.field-0-is at c.in-Err-Device.ensures.faults), record { lie = c.format.ensures.lie; gauge = c.format.ensures.gauge }, λ told. absurd (let bad : ⊥ = cc in bad))

pub returns-in-Restore-clause-does : goal.returns-in-Restore-clause-does
returns-in-Restore-clause-does g c =
    let it = c.args.session.now in let made = c.restore.new.self in let ensures = c.restore.ensures in
    does_as g.K.ChannelPort {said = restore_told c.restore.result} it made c.in-Restore.is c.restore_answer.ensures (
      record {
        result = c.restore.result;
        told = refl;
        left = ensures.left;
        picked = subst (λ (pick : Pick). IsPicked pick (innermost it.device) (state_of (innermost made.device)).bytes) c.unwrap_or.ensures ensures.picked;
        issued = ensures.issued;
        revives = ensures.revives;
        refused = ensures.refused;
        none = ensures.none;
        again = ensures.again;
        faults = ensures.faults;
      },
      record { lie = ensures.lie; gauge = ensures.gauge },
    )

pub returns-in-Lie-clause-does : goal.returns-in-Lie-clause-does
returns-in-Lie-clause-does g c =
    let ensures = c.lie.ensures in
    does_as g.K.ChannelPort c.args.session.now c.lie.new.self c.in-Lie.is refl
    (record { told = refl; lie = ensures.lie; gauge = ensures.gauge; device = ensures.device; life = ensures.life })

pub returns-in-Fuse-clause-does : goal.returns-in-Fuse-clause-does
returns-in-Fuse-clause-does g c =
    let ensures = c.fuse.ensures in
    does_as g.K.ChannelPort c.args.session.now c.fuse.new.self c.in-Fuse.is refl
    (record { told = refl; passes = ensures.passes; fault = ensures.fault; device = ensures.state; gauge = ensures.gauge; life = ensures.life })

pub returns-in-OneFault-clause-does : goal.returns-in-OneFault-clause-does
returns-in-OneFault-clause-does g c =
    let ensures = c.fail_one.ensures in
    does_as g.K.ChannelPort c.args.session.now c.fail_one.new.self c.in-OneFault.is refl
    (record {
      told = refl;
      fault = ensures.fault ∙ ap (λ (n : ℕ). Some n) c.saturating_sub.ensures;
      within = ensures.device;
      device = ensures.state;
      gauge = ensures.gauge;
      life = ensures.life;
    })

pub returns-in-Mark-clause-does : goal.returns-in-Mark-clause-does
returns-in-Mark-clause-does g c =
    does_as g.K.ChannelPort c.args.session.now c.args.session.now c.in-Mark.is refl (record { told = ap (λ (mark : ℕ). answer.Mark mark) c.mark.ensures; same = refl })
