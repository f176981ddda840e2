use Rattle.std.proofs.Common.{◌∙◌, List, ℕ, ap, arith, length, length-append, subst}
use Rattle.std.specs.Prelude.{Ok}
use Rattle.std.specs.Int.{w64, to_le_bytes}
use Rattle.nv_machine.specs.declared.events.Reply.TheVariants as replies
use Rattle.journal_log.specs.Calls.{Append, call_writes, log_after}
use Rattle.journal_lines.specs.Indexed.{IsIndexOf}
use Rattle.table_log.specs.Changes.{Remove}
use Rattle.module_journal.specs.Writing.{EndsWith}
use Rattle.journal_table.proofs.Standing.{stands_behind}
use Rattle.journal_table.proofs.table.JournalTable.remove.Goals as goal

pub returns-in-Ok-append-clause-done : goal.returns-in-Ok-append-clause-done
returns-in-Ok-append-clause-done g c = λ log is.
    subst (λ (bytes : List ℕ). EndsWith g.K.ChannelPort (replies.Write (Ok c.in-Ok-append.appended.head)) (call_writes c.args.self.now.journal.index.lines log (Append bytes)) c.args.nvdimm.now c.append.new.nvdimm)
    (c.deref.ensures.value ∙ c.in-Ok.ensures) (c.in-Ok-append.ensures.done log is)

pub returns-in-Ok-append-clause-is : goal.returns-in-Ok-append-clause-is
returns-in-Ok-append-clause-is g c = λ log table is.
    let lines : ℕ = c.args.self.now.journal.index.lines in
    stands_behind c.args.self.now (record { journal = c.append.new.self; values = c.forget.new.values; spelled = c.args.self.now.spelled }) lines log table (Remove c.args.key.now) is
    (subst (λ (bytes : List ℕ). IsIndexOf c.append.new.self.index (log_after lines log (Append bytes))) (c.deref.ensures.value ∙ c.in-Ok.ensures) (c.in-Ok-append.ensures.is log is.index))
    (omega (arith, c.in-Ok.record.small, c.in-Ok.record.ok.0, ap (λ (k : List ℕ). length k) c.in-Ok.ensures, length-append (to_le_bytes w64 (length c.args.key.now)) c.args.key.now))
    c.forget.ensures

pub returns-clause-kept : goal.returns-clause-kept
returns-clause-kept g c = λ log table is. record {
  index = c.in-Err.ensures.kept log is.index;
  is = is.is;
  values = is.values;
}
