use Rattle.std.proofs.Common.{◌∙◌, ap, subst, Result, Ok}
use Rattle.arm_state.specs.declared.refusal.ReadRefusal.{ReadRefusal}
use Rattle.nv_session.specs.Coming.{ComesAlone}
use Rattle.nv_session.specs.ReadTurns.{ReadsLine}
use Rattle.nv_session.specs.declared.turns.LineSeen.{LineSeen}
use Rattle.module_core.specs.Stands.{setup_of}
use Rattle.journal_reads.proofs.Gathering.{content, refused, waiting}
use Rattle.journal_reads.proofs.reading.read_line.Goals as goal

pub returns-in-Ok-Content-clause-comes : goal.returns-in-Ok-Content-clause-comes
returns-in-Ok-Content-clause-comes g c =
    let L = g.K.ChannelPort in
    content L c.args.line c.args.nvdimm.now c.read.new.running c.in-Ok-Content.bytes
    (subst (λ (result : Result LineSeen ReadRefusal). ComesAlone L (ReadsLine (setup_of L c.args.nvdimm.now) c.args.line result) c.args.nvdimm.now c.read.new.running)
    (c.in-Ok-Content.is ∙ ap (λ (seen : LineSeen). Ok seen) c.in-Ok-Content.field-0-is) c.read.ensures.comes)

pub returns-in-Ok-Waiting-clause-comes : goal.returns-in-Ok-Waiting-clause-comes
returns-in-Ok-Waiting-clause-comes g c =
    let L = g.K.ChannelPort in
    waiting L c.args.line c.args.nvdimm.now c.read.new.running
    (subst (λ (result : Result LineSeen ReadRefusal). ComesAlone L (ReadsLine (setup_of L c.args.nvdimm.now) c.args.line result) c.args.nvdimm.now c.read.new.running)
    (c.in-Ok-Waiting.is ∙ ap (λ (seen : LineSeen). Ok seen) c.in-Ok-Waiting.field-0-is) c.read.ensures.comes)

pub returns-in-Err-clause-comes : goal.returns-in-Err-clause-comes
returns-in-Err-clause-comes g c =
    let L = g.K.ChannelPort in
    refused L c.args.line c.args.nvdimm.now c.read.new.running c.in-Err.refusal
    (subst (λ (result : Result LineSeen ReadRefusal). ComesAlone L (ReadsLine (setup_of L c.args.nvdimm.now) c.args.line result) c.args.nvdimm.now c.read.new.running)
    c.in-Err.is c.read.ensures.comes)
