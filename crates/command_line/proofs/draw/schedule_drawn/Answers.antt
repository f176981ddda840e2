use Rattle.std.proofs.Common.{ℕ, List, Option, Result, Ok, Err, Some, IfOk, false, subst}
use Rattle.command_trace.specs.Traces.{AreCommandsOf}
use Rattle.command_trace.specs.declared.entry.Located.{Located}
use Rattle.command_trace.specs.declared.reading.Form.{Form}
use Rattle.command_trace.specs.declared.reading.TraceFault.{TraceFault}
use Rattle.ddr4_timing.specs.declared.timing.CommandRules.{CommandRules}
use Rattle.schedule_drawing.specs.Traces.{DrawsTrace}
use Rattle.schedule_drawing.specs.declared.schedule.Schedule.{Schedule}
use Rattle.command_line.specs.Check.{IsReadAs}
use Rattle.command_line.specs.Drawn.{DrawsCommands}
use Rattle.command_line.proofs.draw.schedule_drawn.Goals as goal

-- the commands that were drawn are those of the text
draws_commands : (rules : CommandRules) (asked : Option Form) (text : List ℕ) (form : Form) (found : List Located) (result : Result Schedule TraceFault)
    → IsReadAs asked false form → IfOk result (DrawsTrace rules found) → IfOk result (λ schedule. AreCommandsOf form (Some text) found) → IfOk result (DrawsCommands rules asked text)
draws_commands rules asked text form found (Ok schedule) read_as draws reads = record { form = form; found = found; read_as = read_as; reads = reads; draws = draws }
draws_commands rules asked text form found (Err fault) read_as draws reads = tt

pub returns : goal.returns
returns c =
    let text : List ℕ = c.args.bytes.now in let found : List Located = c.trace_schedule.new.reader.given.items in
    draws_commands c.args.rules.now c.args.asked text c.in_ok-form.form found c.trace_schedule.result c.in_ok-form.ensures c.trace_schedule.ensures.draws
    (subst (λ (form : Form). IfOk c.trace_schedule.result (λ schedule. AreCommandsOf form (Some text) found)) c.new-reader.ensures.form (c.trace_schedule.ensures.reads (Some text) c.new-reader.ensures.read))
