use Rattle.std.proofs.Common.{◌≡◌, ℕ, List, [], ◌∷◌, ◌++◌, length, take, refl, subst, arith, ◌∙◌, sym}
use Rattle.std.specs.Prelude.{Ok, Some, slice_get}
use Rattle.line_memory.specs.declared.Write.{Write}
use Rattle.nv_machine.specs.declared.events.Reply.TheVariants as replies
use Rattle.journal_log.specs.Lines.{lines_of}
use Rattle.journal_log.specs.Calls.{Append, call_writes}
use Rattle.journal_log.proofs.Heads.{length-call}
use Rattle.journal_log.proofs.Spelling.{length-lines_of}
use Rattle.journal_lines.specs.Indexed.{IsIndexOf}
use Rattle.module_journal.specs.Writing.{EndsWith, HasWritten}
use Rattle.module_journal.proofs.Joining.{all-but, index_same, joined_last, refused_last, room_same}
use Rattle.module_journal.proofs.journal.Journal.append.Goals as goal

pub returns-in-Ok-clause-done : goal.returns-in-Ok-clause-done
returns-in-Ok-clause-done g c = λ log is.
    let there : IsIndexOf c.reserve.new.self log = index_same c.args.self.now.index c.reserve.new.self log c.reserve.ensures.same is in
    let writes : List Write = call_writes c.reserve.new.self.lines log (Append c.args.bytes.now) in
    let head : Write = c.append_write-write.result in
    let lines : ℕ = length (lines_of c.args.bytes.now) in
    let last : slice_get writes lines ≡ Some head =
    subst (λ (i : ℕ). slice_get writes i ≡ Some head) (c.record_size.ensures ∙ sym (length-lines_of c.args.bytes.now)) (c.append_write-write.ensures log there) in
    let whole : take lines writes ++ head ∷ [] ≡ writes =
    all-but writes lines head last (omega (arith, length-call c.reserve.new.self.lines log (Append c.args.bytes.now))) in
    let ends : EndsWith g.K.ChannelPort (replies.Write (Ok c.in-Ok.head)) (take lines writes ++ head ∷ []) c.args.nvdimm.now c.put.new.nvdimm =
    joined_last g.K.ChannelPort (replies.Write (Ok c.in-Ok.head)) (take lines writes) (head ∷ []) c.args.nvdimm.now c.write_lines.new.nvdimm c.put.new.nvdimm
    (c.in_default.ensures.done log there) c.in-Ok.ensures.done in
    subst (λ (n : ℕ). EndsWith g.K.ChannelPort (replies.Write (Ok c.in-Ok.head)) (call_writes n log (Append c.args.bytes.now)) c.args.nvdimm.now c.put.new.nvdimm) c.reserve.ensures.same.lines
    (subst (λ (ws : List Write). EndsWith g.K.ChannelPort (replies.Write (Ok c.in-Ok.head)) ws c.args.nvdimm.now c.put.new.nvdimm) whole ends)

pub returns-in-Ok-clause-is : goal.returns-in-Ok-clause-is
returns-in-Ok-clause-is g c = λ log is. c.append.ensures.is log (index_same c.args.self.now.index c.reserve.new.self log c.reserve.ensures.same is)

pub returns-in-Err-put-clause-refused : goal.returns-in-Err-put-clause-refused
returns-in-Err-put-clause-refused g c = (
  room_same c.args.self.now.index c.reserve.new.self c.args.bytes.now c.reserve.ensures.same (c.if-not-has_room.ensures.0 refl),
  λ log is.
      let there : IsIndexOf c.reserve.new.self log = index_same c.args.self.now.index c.reserve.new.self log c.reserve.ensures.same is in
      let lines : ℕ = length (lines_of c.args.bytes.now) in
      record {
        made = lines;
        few = omega arith;
        ends = refused_last g.K.ChannelPort _ (take lines (call_writes c.args.self.now.index.lines log (Append c.args.bytes.now))) c.args.nvdimm.now c.write_lines.new.nvdimm c.put.new.nvdimm
            (subst (λ (n : ℕ). HasWritten g.K.ChannelPort (take lines (call_writes n log (Append c.args.bytes.now))) c.args.nvdimm.now c.write_lines.new.nvdimm) c.reserve.ensures.same.lines
            (c.in_default.ensures.done log there))
            c.in-Err-put.ensures.refused;
      },
)

pub returns-in-Ok-clause-room : goal.returns-in-Ok-clause-room
returns-in-Ok-clause-room g c = room_same c.args.self.now.index c.reserve.new.self c.args.bytes.now c.reserve.ensures.same (c.if-not-has_room.ensures.0 refl)
