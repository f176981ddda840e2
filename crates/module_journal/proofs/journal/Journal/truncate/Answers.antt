use Rattle.std.proofs.Common.{List, sym, subst, arith}
use Rattle.line_memory.specs.declared.Write.{Write}
use Rattle.nv_machine.specs.declared.events.Reply.TheVariants as replies
use Rattle.std.specs.Prelude.{Ok}
use Rattle.module_journal.specs.Writing.{EndsWith}
use Rattle.module_journal.proofs.journal.Journal.truncate.Goals as goal

pub returns-in-Ok-clause-done : goal.returns-in-Ok-clause-done
returns-in-Ok-clause-done g c = λ log is.
    subst (λ (ws : List Write). EndsWith g.K.ChannelPort (replies.Write (Ok c.in-Ok.head)) ws c.args.nvdimm.now c.put.new.nvdimm) (sym (c.truncate_write-write.ensures log is)) c.in-Ok.ensures.done

pub returns-in-Err-clause-refused : goal.returns-in-Err-clause-refused
returns-in-Err-clause-refused g c = (
  record {
    above = omega (arith, c.gone.ensures, c.gone-2.ensures, c.if-upto-gone.false, c.if-upto-gone-2.false);
    most = omega (arith, c.end.ensures, c.if-end-upto.false);
  },
  λ log is. record { made = 0; few = omega arith; ends = c.in-Err.ensures.refused },
)

pub returns-in-Ok-clause-within : goal.returns-in-Ok-clause-within
returns-in-Ok-clause-within g c = record {
  above = omega (arith, c.gone.ensures, c.gone-2.ensures, c.if-upto-gone.false, c.if-upto-gone-2.false);
  most = omega (arith, c.end.ensures, c.if-end-upto.false);
}
