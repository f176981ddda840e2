use Rattle.std.proofs.Common.{rules, ◌≡◌, ◌∙◌, ◌++◌, List, ℕ, ap, arith, length, length-append, refl, subst, sym}
use Rattle.std.specs.Prelude.{Ok, Some, bytes_eq, if◌then◌else◌}
use Rattle.std.specs.Int.{w64, to_le_bytes}
use Rattle.nv_machine.specs.declared.events.Reply.TheVariants as replies
use Rattle.journal_log.specs.Calls.{Append, call_writes, log_after}
use Rattle.journal_lines.specs.Indexed.{IsIndexOf}
use Rattle.table_log.specs.Changes.{Put, record_of}
use Rattle.module_journal.specs.Writing.{EndsWith}
use Rattle.journal_table.specs.Values.{held}
use Rattle.journal_table.proofs.Holding.{held_changed, held_kept, item}
use Rattle.journal_table.proofs.Standing.{from_ok, ok_with, stands_behind}
use Rattle.journal_table.proofs.table.JournalTable.put.Goals as goal

pub returns-in_default-clause-is : goal.returns-in_default-clause-is
returns-in_default-clause-is g c =
    ok_with c.put_new.result
    (λ appended there log table is. there log table (record { index = is.index; is = is.is; values = λ key. ap (λ m. held m key) c.get_mut.follows.holds-at-none ∙ is.values key }))
    c.put_new.ensures.is

-- the value is as it was, in more memory
pub returns-then-is_err-2-clause-kept : goal.returns-then-is_err-2-clause-kept
returns-then-is_err-2-clause-kept g c = λ log table is. record {
  index = is.index;
  is = is.is;
  values = λ other.
      held_kept c.args.key.now c.args.self.now.values (c.get_mut.follows.lender c.make_room.new.held) (Some c.make_room.new.held) ((c.get_mut.follows.holds c.make_room.new.held).3 (search rules)) c.make_room.new.held refl
      (ap item (sym c.in-Some.ensures.value) ∙ ap (λ (l : List ℕ). Some l) (sym c.make_room.ensures.same)) other
      ∙ is.values other;
}

pub returns-in-Err-clause-kept : goal.returns-in-Err-clause-kept
returns-in-Err-clause-kept g c = λ log table is. record {
  index = c.in-Err.ensures.kept log is.index;
  is = is.is;
  values = λ other.
      held_kept c.args.key.now c.args.self.now.values (c.get_mut.follows.lender c.make_room.new.held) (Some c.make_room.new.held) ((c.get_mut.follows.holds c.make_room.new.held).3 (search rules)) c.make_room.new.held refl
      (ap item (sym c.in-Some.ensures.value) ∙ ap (λ (l : List ℕ). Some l) (sym c.make_room.ensures.same)) other
      ∙ is.values other;
}

pub returns-in-Ok-clause-done : goal.returns-in-Ok-clause-done
returns-in-Ok-clause-done g c = λ log is.
    let spelled = from_ok c.spell_put.result (sym c.is_err.ensures.value ∙ c.if-is_err.false) c.spell_put.ensures in
    subst (λ (bytes : List ℕ). EndsWith g.K.ChannelPort (replies.Write (Ok c.in-Ok.appended.head)) (call_writes c.args.self.now.journal.index.lines log (Append bytes)) c.args.nvdimm.now c.append.new.nvdimm)
    (c.deref.ensures.value ∙ spelled) (c.in-Ok.ensures.done log is)

pub returns-in-Ok-clause-is : goal.returns-in-Ok-clause-is
returns-in-Ok-clause-is g c = λ log table is.
    let lines : ℕ = c.args.self.now.journal.index.lines in
    let spelled : c.spell_put.new.bytes.items ≡ record_of (Put c.args.key.now c.args.value.now) =
    from_ok c.spell_put.result (sym c.is_err.ensures.value ∙ c.if-is_err.false) c.spell_put.ensures in
    stands_behind c.args.self.now (record { journal = c.append.new.self; values = c.get_mut.follows.lender c.replace.new.held; spelled = c.spell_put.new.bytes }) lines log table (Put c.args.key.now c.args.value.now) is
    (subst (λ (bytes : List ℕ). IsIndexOf c.append.new.self.index (log_after lines log (Append bytes))) (c.deref.ensures.value ∙ spelled) (c.in-Ok.ensures.is log is.index))
    (omega (
      arith,
      c.spell_put.new.bytes.small,
      c.spell_put.new.bytes.ok.0,
      ap (λ (k : List ℕ). length k) spelled,
      length-append (to_le_bytes w64 (length c.args.key.now)) (c.args.key.now ++ c.args.value.now),
      length-append c.args.key.now c.args.value.now,
    ))
    (λ other.
    held_changed c.args.key.now c.args.self.now.values (c.get_mut.follows.lender c.replace.new.held) (Some c.replace.new.held) ((c.get_mut.follows.holds c.replace.new.held).3 (search rules)) other
    ∙ ap (λ (v : List ℕ). if bytes_eq other c.args.key.now then Some v else held c.args.self.now.values other) c.replace.ensures)
