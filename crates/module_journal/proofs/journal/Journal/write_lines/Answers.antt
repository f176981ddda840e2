use Rattle.std.proofs.Common.{◌≡◌, ℕ, List, [], ◌∷◌, length, take, refl, sym, subst, arith, ◌∙◌}
use Rattle.line_memory.specs.declared.Write.{Write}
use Rattle.journal_log.specs.Lines.{lines_of}
use Rattle.journal_log.specs.Calls.{Append, call_writes}
use Rattle.journal_log.proofs.Spelling.{length-lines_of}
use Rattle.module_journal.specs.Writing.{HasWritten}
use Rattle.module_journal.proofs.Joining.{joined_last, none_written, one-more, refused_last}
use Rattle.module_journal.proofs.journal.Journal.write_lines.Goals as goal

pub loop-number-init : goal.loop-number-init
loop-number-init g c = record { written = λ log is. none_written g.K.ChannelPort c.args.nvdimm.now; setup = refl }

pub returns-in-Err-clause-refused : goal.returns-in-Err-clause-refused
returns-in-Err-clause-refused g c = λ log is. record {
  made = c.loop-number.number;
  few = omega (arith, length-lines_of c.args.bytes.now, c.record_size-number-end.ensures, c.loop-number-test.true);
  ends = refused_last g.K.ChannelPort _ (take c.loop-number.number (call_writes c.args.self.now.index.lines log (Append c.args.bytes.now)))
      c.args.nvdimm.now c.loop-number.nvdimm c.put.new.nvdimm (c.loop-number.invariant.written log is) c.in-Err.ensures.refused;
}

pub loop-number-preserved : goal.loop-number-preserved
loop-number-preserved g c = record {
  written = λ log is.
      let writes : List Write = call_writes c.args.self.now.index.lines log (Append c.args.bytes.now) in
      let write : Write = c.append_write-write.result in
      subst (λ (ws : List Write). HasWritten g.K.ChannelPort ws c.args.nvdimm.now c.put.new.nvdimm)
      (sym (one-more writes c.loop-number.number write (c.append_write-write.ensures log is)))
      (joined_last g.K.ChannelPort _ (take c.loop-number.number writes) (write ∷ []) c.args.nvdimm.now c.loop-number.nvdimm c.put.new.nvdimm (c.loop-number.invariant.written log is) c.in_default.ensures.done).written;
  setup = c.put.ensures.setup ∙ c.loop-number.invariant.setup;
}

pub returns-clause-done : goal.returns-clause-done
returns-clause-done g c = λ log is.
    let whole : c.loop-number.number ≡ length (lines_of c.args.bytes.now) =
    omega (arith, length-lines_of c.args.bytes.now, c.record_size-number-end.ensures, c.loop-number-test.false, c.loop-number.auto.number-end) in
    subst (λ (n : ℕ). HasWritten g.K.ChannelPort (take n (call_writes c.args.self.now.index.lines log (Append c.args.bytes.now))) c.args.nvdimm.now c.loop-number.nvdimm) whole (c.loop-number.invariant.written log is)
