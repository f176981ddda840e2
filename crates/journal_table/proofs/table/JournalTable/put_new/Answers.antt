use Rattle.std.proofs.Common.{◌≡◌, ◌∙◌, List, ℕ, ap, arith, length, subst, sym}
use Rattle.std.specs.Prelude.{Ok, Option, Some, bytes_eq, if◌then◌else◌}
use Rattle.nv_machine.specs.declared.events.Reply.TheVariants as replies
use Rattle.journal_log.specs.Calls.{Append, call_writes, log_after}
use Rattle.journal_lines.specs.Indexed.{IsIndexOf}
use Rattle.table_log.specs.Changes.{Put, value_behind}
use Rattle.module_journal.specs.Writing.{EndsWith}
use Rattle.journal_table.specs.Values.{held}
use Rattle.journal_table.proofs.Holding.{held_changed}
use Rattle.journal_table.proofs.Standing.{from_ok, held_same, stands_behind}
use Rattle.journal_table.proofs.table.JournalTable.put_new.Goals as goal

pub returns-else-is_err-2-clause-done : goal.returns-else-is_err-2-clause-done
returns-else-is_err-2-clause-done g c = λ log is.
    subst (λ (bytes : List ℕ). EndsWith g.K.ChannelPort (replies.Write (Ok c.in-Ok-append.appended.head)) (call_writes c.args.self.now.journal.index.lines log (Append bytes)) c.args.nvdimm.now c.append.new.nvdimm)
    (c.deref.ensures.value ∙ c.requires) (c.in-Ok-append.ensures.done log is)

pub returns-else-is_err-2-clause-is : goal.returns-else-is_err-2-clause-is
returns-else-is_err-2-clause-is g c = λ log table is.
    let lines : ℕ = c.args.self.now.journal.index.lines in
    let key : c.in-Ok.key.items ≡ c.args.key.now = c.in-Ok.ensures.items_if_clones_equal (λ x y same. same) in
    let value : c.in-Ok-to_vec.value.items ≡ c.args.value.now = c.in-Ok-to_vec.ensures.items_if_clones_equal (λ x y same. same) in
    let updates = from_ok c.insert.result (sym c.is_err-in-Ok-append.ensures.value ∙ c.if-is_err-2.false) c.insert.ensures.updates in
    stands_behind c.args.self.now (record { journal = c.append.new.self; values = c.insert.new.self; spelled = c.args.self.now.spelled }) lines log table (Put c.args.key.now c.args.value.now) is
    (subst (λ (bytes : List ℕ). IsIndexOf c.append.new.self.index (log_after lines log (Append bytes))) (c.deref.ensures.value ∙ c.requires) (c.in-Ok-append.ensures.is log is.index))
    (omega (arith, c.in-Ok.key.small, c.in-Ok.key.ok.0, ap (λ (k : List ℕ). length k) key))
    (λ other.
    held_changed c.in-Ok.key.items c.reserve.new.self c.insert.new.self (Some c.in-Ok-to_vec.value) updates other
    ∙ ap (λ (k : List ℕ). if bytes_eq other k then Some c.in-Ok-to_vec.value.items else held c.reserve.new.self other) key
    ∙ ap (λ (v : List ℕ). if bytes_eq other c.args.key.now then Some v else held c.reserve.new.self other) value
    ∙ ap (λ (had : Option (List ℕ)). value_behind other had (Put c.args.key.now c.args.value.now)) (held_same c.in-Ok.key c.args.self.now.values c.reserve.new.self c.reserve.ensures.entries other))

pub returns-in-Err-clause-kept : goal.returns-in-Err-clause-kept
returns-in-Err-clause-kept g c = λ log table is. record {
  index = c.in-Err.ensures.kept log is.index;
  is = is.is;
  values = λ other. held_same c.in-Ok.key c.args.self.now.values c.reserve.new.self c.reserve.ensures.entries other ∙ is.values other;
}
