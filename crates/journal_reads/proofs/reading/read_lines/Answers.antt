use Rattle.std.proofs.Common.{◌∙◌, ◌++◌, ℕ, List, ap, arith, refl, subst, sym}
use Rattle.nv_session.specs.Coming.{ComesAlone}
use Rattle.journal_reads.proofs.Gathering.{HasReadLines, begins, ends, goes_on, no_memory, stops}
use Rattle.journal_reads.proofs.reading.read_lines.Goals as goal

pub loop-at-init : goal.loop-at-init
loop-at-init g c =
    let L = g.K.ChannelPort in
    record {
      comes = subst (λ (b : List ℕ). ComesAlone L (HasReadLines c.args.index.now c.args.number 0 b) c.args.nvdimm.now c.args.nvdimm.now) (sym c.new-bytes.ensures.items)
          (begins L c.args.index.now c.args.number c.args.nvdimm.now);
      setup = refl;
    }

pub returns-in-Err-clause-not : goal.returns-in-Err-clause-not
returns-in-Err-clause-not g c =
    stops g.K.ChannelPort c.args.index.now c.args.number c.in-Err.why c.loop-at.at c.line_of_record.result c.loop-at.bytes.items c.args.nvdimm.now c.loop-at.nvdimm c.read_line.new.nvdimm
    c.loop-at.invariant.setup c.loop-at.invariant.comes c.in-Err.ensures.comes

pub loop-at-preserved : goal.loop-at-preserved
loop-at-preserved g c =
    record {
      comes = goes_on g.K.ChannelPort c.args.index.now c.args.number c.loop-at.at c.line_of_record.result c.loop-at.bytes.items c.extend_from_slice.new.self.items c.in-Ok.line
          c.args.nvdimm.now c.loop-at.nvdimm c.read_line.new.nvdimm c.loop-at.invariant.setup c.line_of_record.ensures
          (λ log whole is there. omega (arith, c.loop-at-test.true, c.lines_of_record-at-end.ensures.is log whole is there))
          (c.in-Ok-extend_from_slice.ensures.items ∙ ap (λ (b : List ℕ). c.loop-at.bytes.items ++ b) c.held.ensures) c.loop-at.invariant.comes c.in-Ok.ensures.comes;
      setup = c.read_line.ensures.setup ∙ c.loop-at.invariant.setup;
    }

pub returns-clause-done : goal.returns-clause-done
returns-clause-done g c =
    ends g.K.ChannelPort c.args.index.now c.args.number c.loop-at.at c.loop-at.bytes.items c.args.nvdimm.now c.loop-at.nvdimm c.requires
    (λ log whole is there. omega (arith, c.loop-at-test.false, c.lines_of_record-at-end.ensures.is log whole is there)) c.loop-at.invariant.comes

pub returns-in_default-clause-not : goal.returns-in_default-clause-not
returns-in_default-clause-not g c =
    no_memory g.K.ChannelPort c.args.index.now c.args.number c.loop-at.at c.line_of_record.result c.loop-at.bytes.items c.in-Ok.line c.args.nvdimm.now c.loop-at.nvdimm c.read_line.new.nvdimm
    c.loop-at.invariant.setup c.loop-at.invariant.comes c.in-Ok.ensures.comes
