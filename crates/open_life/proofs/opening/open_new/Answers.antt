use Rattle.std.proofs.Common.{◌≡◌, ◌∙◌, ℕ, List, ap, subst, sym}
use Rattle.ddr4_timing.specs.Limits.{lines_of}
use Rattle.line_memory.specs.Memory.{IsMemory, zero_lines}
use Rattle.line_memory.proofs.MemoryLaws.{zero_lines-IsMemory}
use Rattle.channel_port.specs.Shape.{Shape}
use Rattle.channel_set.specs.Issuing.{HaveIssuedNone}
use Rattle.energy_budget.specs.Meter.{meter_gauge}
use Rattle.module_core.specs.Opening.{opened_with}
use Rattle.slot_store.specs.Formatted.{first_head}
use Rattle.slot_store.specs.Outcomes.{first_image}
use Rattle.slot_store.specs.Slots.{HasSize}
use Rattle.nv_session.proofs.Common.{Assembly, Module, ModuleStands, assembly}
use Rattle.nv_session.proofs.Beginning.{BeginsLife, begins_formatted, is_capacity}
use Rattle.open_life.specs.Begins.{BeginsNew}
use Rattle.open_life.proofs.Beginning.{opened_fits, opened_sized}
use Rattle.open_life.proofs.Goes.{begins_alive}
use Rattle.open_life.proofs.opening.open_new.Goals as goal
use Rattle.open_life.proofs.opening.open_new.Goals.{In-Ok-open}

pub format-requires-clause-capacity : goal.format-requires-clause-capacity
format-requires-clause-capacity g c =
    let profile = c.args.profile.now in
    is_capacity profile (g.A.Wires.shape c.args.wires.now profile.map) c.lines_in-lines.result (c.requires.shape profile.map) c.lines_in-lines.ensures

pub format-requires-clause-size : goal.format-requires-clause-size
format-requires-clause-size g c = subst (λ (n : ℕ). HasSize n (g.D.SaveDevice.state c.args.device)) (sym c.lines_in-lines.ensures) c.requires.size

pub open-requires-clause-memory : goal.open-requires-clause-memory
open-requires-clause-memory g c =
    let profile = c.args.profile.now in let shape : Shape = g.A.Wires.shape c.args.wires.now profile.map in
    let zero : c.in-Ok.memory.items ≡ zero_lines shape.lines = c.in-Ok.ensures ∙ ap zero_lines (c.lines_in-lines.ensures ∙ sym (c.requires.shape profile.map).lines) in
    subst (λ (memory : List (List ℕ)). IsMemory shape.lines memory) (sym zero) (zero_lines-IsMemory shape.lines)

-- the module that was opened is a new one
stands_new : (g : _) (c : In-Ok-open g)
    → ModuleStands g.K.ChannelPort c.in-Ok-open.running (g.D.SaveDevice.state c.format.new.device) (opened_with first_head (first_image (lines_of c.args.profile.now.checked.geometry)))
stands_new g c =
    let L = g.K.ChannelPort in let profile = c.args.profile.now in let lines : ℕ = lines_of profile.checked.geometry in
    let it = c.in-Ok-open.running in let head = c.in-Ok-format.head in let memory = c.in-Ok.memory.items in
    let begins : BeginsLife L head memory lines it = subst (λ (n : ℕ). BeginsLife L head memory n it) (c.requires.shape profile.map).lines c.in-Ok-open.ensures.begins in
    begins_formatted L it lines c.lines_in-lines.result head memory (g.D.SaveDevice.state c.format.new.device) begins c.in-Ok-format.ensures.head c.lines_in-lines.ensures c.in-Ok.ensures c.in-Ok-format.ensures.at_rest

pub begin-requires : goal.begin-requires
begin-requires g c =
    let L = g.K.ChannelPort in let profile = c.args.profile.now in let device = g.D.SaveDevice.state c.format.new.device in let here = (goal.at.begin-requires g c).In-Ok-open in
    begins_alive L profile (assembly c.in-Ok-open.running device (meter_gauge c.with.result)) first_head (first_image (lines_of profile.checked.geometry))
    (opened_fits L c.in-Ok-open.running profile _ (c.requires.shape profile.map) c.in-Ok-open.ensures.setup)
    (opened_sized L c.in-Ok-open.running profile _ device (c.requires.shape profile.map) c.in-Ok-open.ensures.setup
    (subst (λ (n : ℕ). HasSize n device) c.lines_in-lines.ensures c.format.ensures.size))
    (stands_new g here)

pub returns-in-Ok-open-clause-begins : goal.returns-in-Ok-open-clause-begins
returns-in-Ok-open-clause-begins g c =
    let L = g.K.ChannelPort in let lines : ℕ = lines_of c.args.profile.now.checked.geometry in
    subst (λ (now : Assembly L). BeginsNew L lines now) (sym c.begin.ensures.now) (stands_new g (goal.at.returns-in-Ok-open-clause-begins g c).In-Ok-open)

pub returns-in-Ok-open-clause-issued : goal.returns-in-Ok-open-clause-issued
returns-in-Ok-open-clause-issued g c =
    let L = g.K.ChannelPort in subst (λ (it : Module _ L). HaveIssuedNone L it.channels) (sym c.begin.ensures.running) c.in-Ok-open.ensures.issued
