use Rattle.std.proofs.Common.{ℕ, refl, subst, sym}
use Rattle.channel_set.specs.Issuing.{HaveIssuedNone}
use Rattle.ddr4_timing.specs.Limits.{lines_of}
use Rattle.energy_budget.specs.Meter.{meter_gauge}
use Rattle.line_memory.specs.Memory.{IsMemory}
use Rattle.slot_store.specs.Outcomes.{restored}
use Rattle.nv_session.proofs.Common.{Assembly, Module, Revives, assembly}
use Rattle.nv_session.proofs.Beginning.{BeginsLife, revives_restored}
use Rattle.open_life.specs.Begins.{Begins}
use Rattle.open_life.specs.declared.opening.Found.TheVariants as founds
use Rattle.open_life.proofs.Beginning.{opened_fits, opened_sized}
use Rattle.open_life.proofs.Goes.{begins_alive}
use Rattle.open_life.proofs.opening.open_restored.Goals as goal
use Rattle.open_life.proofs.opening.open_restored.Goals.{In-Ok}

pub open-requires-clause-memory : goal.open-requires-clause-memory
open-requires-clause-memory g c =
    let profile = c.args.profile.now in
    subst (λ (n : ℕ). IsMemory n c.args.restored.lines.items) (sym (c.requires.shape profile.map).lines) c.requires.sound.0

-- the module that was opened is one with the newest image
revived : (g : _) (c : In-Ok g)
    → Revives g.K.ChannelPort (restored (lines_of c.args.profile.now.checked.geometry) (g.D.SaveDevice.state c.args.device).bytes) c.args.restored.head c.in-Ok.running (g.D.SaveDevice.state c.args.device)
revived g c =
    let L = g.K.ChannelPort in let profile = c.args.profile.now in let it = c.args.restored in let lines : ℕ = lines_of profile.checked.geometry in let device = g.D.SaveDevice.state c.args.device in
    let begins : BeginsLife L it.head it.lines.items lines c.in-Ok.running =
    subst (λ (n : ℕ). BeginsLife L it.head it.lines.items n c.in-Ok.running) (c.requires.shape profile.map).lines c.in-Ok.ensures.begins in
    revives_restored L lines it device.bytes c.in-Ok.running device (record { restored_is = c.requires.found; rests = c.requires.rests }) begins

pub begin-life-requires : goal.begin-life-requires
begin-life-requires g c =
    let L = g.K.ChannelPort in let profile = c.args.profile.now in let device = g.D.SaveDevice.state c.args.device in let r = revived g (goal.at.begin-life-requires g c).In-Ok in
    begins_alive L profile (assembly c.in-Ok.running device (meter_gauge c.with.result)) c.args.restored.head r.image
    (opened_fits L c.in-Ok.running profile _ (c.requires.shape profile.map) c.in-Ok.ensures.setup)
    (opened_sized L c.in-Ok.running profile _ device (c.requires.shape profile.map) c.in-Ok.ensures.setup c.requires.size) r.stands

pub returns-in-Ok-clause-begins : goal.returns-in-Ok-clause-begins
returns-in-Ok-clause-begins g c =
    let L = g.K.ChannelPort in let lines : ℕ = lines_of c.args.profile.now.checked.geometry in let device = g.D.SaveDevice.state c.args.device in
    subst (λ (now : Assembly L). Begins L lines (founds.Restored c.args.restored.head) device.bytes now) (sym c.begin-life.ensures.now)
    (revived g (goal.at.returns-in-Ok-clause-begins g c).In-Ok, refl)

pub returns-in-Ok-clause-issued : goal.returns-in-Ok-clause-issued
returns-in-Ok-clause-issued g c =
    let L = g.K.ChannelPort in subst (λ (it : Module _ L). HaveIssuedNone L it.channels) (sym c.begin-life.ensures.running) c.in-Ok.ensures.issued
