use Rattle.std.proofs.Common.{ℕ, ◌∙◌, ap, refl, subst, sym}
use Rattle.ddr4_timing.specs.Limits.{lines_of}
use Rattle.energy_budget.specs.Meter.{meter_gauge}
use Rattle.line_memory.specs.Memory.{IsMemory}
use Rattle.nv_session.proofs.Beginning.{BeginsLife}
use Rattle.live_store.proofs.Blank.{begins_found, opened_channels, opened_sized}
use Rattle.live_store.proofs.opening.open_restored.Goals as goal

pub open-requires-clause-memory : goal.open-requires-clause-memory
open-requires-clause-memory g c =
    let profile = c.args.profile.now in
    subst (λ (n : ℕ). IsMemory n c.args.restored.lines.items) (sym (c.requires.shape profile.map).lines) c.requires.sound.0

pub returns-in-Ok-clause-begins : goal.returns-in-Ok-clause-begins
returns-in-Ok-clause-begins g c =
    let L = g.K.ChannelPort in let state = g.D.SaveDevice.state in let profile = c.args.profile.now in let it = c.args.restored in let lines : ℕ = lines_of profile.checked.geometry in
    let begins : BeginsLife L it.head it.lines.items lines c.in-Ok.running =
    subst (λ (n : ℕ). BeginsLife L it.head it.lines.items n c.in-Ok.running) (c.requires.shape profile.map).lines c.in-Ok.ensures.begins in
    begins_found L lines it c.begin.result.answer (state c.args.device).bytes c.in-Ok.running c.begin.result.life.running (state c.args.device) (state c.begin.result.life.device)
    (meter_gauge c.begin.result.life.gauge) (c.begin.ensures.answer ∙ c.restore_answer-answer.ensures) c.begin.ensures.running (ap state c.begin.ensures.device) refl
    (record { restored_is = c.requires.found; rests = c.requires.rests }) begins

pub begin-requires-clause-channels : goal.begin-requires-clause-channels
begin-requires-clause-channels g c = opened_channels g.K.ChannelPort c.in-Ok.running c.args.profile.now _ (c.requires.shape c.args.profile.now.map) c.in-Ok.ensures.setup

pub begin-requires-clause-size : goal.begin-requires-clause-size
begin-requires-clause-size g c =
    let profile = c.args.profile.now in
    opened_sized g.K.ChannelPort c.in-Ok.running profile _ (g.D.SaveDevice.state c.args.device) (c.requires.shape profile.map) c.in-Ok.ensures.setup c.requires.size
