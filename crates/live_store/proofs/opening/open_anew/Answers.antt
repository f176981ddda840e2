use Rattle.std.proofs.Common.{◌≡◌, ◌∙◌, ℕ, List, ap, subst, sym}
use Rattle.ddr4_timing.specs.Limits.{lines_of}
use Rattle.line_memory.specs.Memory.{IsMemory, zero_lines}
use Rattle.line_memory.proofs.MemoryLaws.{zero_lines-IsMemory}
use Rattle.channel_port.specs.Shape.{Shape}
use Rattle.slot_store.specs.Slots.{HasSize}
use Rattle.nv_session.proofs.Beginning.{BeginsLife, begins_formatted, is_capacity}
use Rattle.energy_budget.specs.Meter.{meter_gauge}
use Rattle.live_store.proofs.Blank.{begins_blank, opened_channels, opened_sized}
use Rattle.live_store.proofs.opening.open_anew.Goals as goal

pub format-requires-clause-capacity : goal.format-requires-clause-capacity
format-requires-clause-capacity g c =
    let profile = c.args.profile.now in
    is_capacity profile (g.A.Wires.shape c.args.wires.now profile.map) c.lines_in-lines.result (c.requires.shape profile.map) c.lines_in-lines.ensures

pub format-requires-clause-size : goal.format-requires-clause-size
format-requires-clause-size g c = subst (λ (n : ℕ). HasSize n (g.D.SaveDevice.state c.args.device)) (sym c.lines_in-lines.ensures) c.requires.size

pub open-requires-clause-memory : goal.open-requires-clause-memory
open-requires-clause-memory g c =
    let profile = c.args.profile.now in let shape : Shape = g.A.Wires.shape c.args.wires.now profile.map in
    let zero : c.in-Ok.memory.items ≡ zero_lines shape.lines = c.in-Ok.ensures ∙ ap zero_lines (c.lines_in-lines.ensures ∙ sym (c.requires.shape profile.map).lines) in
    subst (λ (memory : List (List ℕ)). IsMemory shape.lines memory) (sym zero) (zero_lines-IsMemory shape.lines)

pub returns-in-Ok-open-clause-begins : goal.returns-in-Ok-open-clause-begins
returns-in-Ok-open-clause-begins g c =
    let L = g.K.ChannelPort in let state = g.D.SaveDevice.state in let profile = c.args.profile.now in let lines : ℕ = lines_of profile.checked.geometry in
    let it = c.in-Ok-open.running in let head = c.in-Ok-format.head in let memory = c.in-Ok.memory.items in
    let begins : BeginsLife L head memory lines it = subst (λ (n : ℕ). BeginsLife L head memory n it) (c.requires.shape profile.map).lines c.in-Ok-open.ensures.begins in
    let stands = begins_formatted L it lines c.lines_in-lines.result head memory (state c.format.new.device) begins c.in-Ok-format.ensures.head c.lines_in-lines.ensures c.in-Ok.ensures c.in-Ok-format.ensures.at_rest in
    begins_blank L lines c.begin.result.answer (state c.args.device).bytes it c.begin.result.life.running (state c.format.new.device) (state c.begin.result.life.device)
    (meter_gauge c.begin.result.life.gauge) c.begin.ensures.answer c.begin.ensures.running (ap state c.begin.ensures.device) c.requires.none c.requires.unused stands

pub begin-requires-clause-channels : goal.begin-requires-clause-channels
begin-requires-clause-channels g c = opened_channels g.K.ChannelPort c.in-Ok-open.running c.args.profile.now _ (c.requires.shape c.args.profile.now.map) c.in-Ok-open.ensures.setup

pub begin-requires-clause-size : goal.begin-requires-clause-size
begin-requires-clause-size g c =
    let profile = c.args.profile.now in
    opened_sized g.K.ChannelPort c.in-Ok-open.running profile _ (g.D.SaveDevice.state c.format.new.device) (c.requires.shape profile.map) c.in-Ok-open.ensures.setup
    (subst (λ (n : ℕ). HasSize n (g.D.SaveDevice.state c.format.new.device)) c.lines_in-lines.ensures c.format.ensures.size)
