use Rattle.std.proofs.Common.{◌≡◌, [], true, false, if◌then◌else◌, sym, ◌∙◌}
use Rattle.statistics_report.specs.Telling.{told_bank}
use Rattle.trace_statistics.specs.Numbers.{is_none}
use Rattle.trace_statistics.specs.Telling.{TellsNumbered}
use Rattle.trace_statistics.proofs.Writing.{bank_told, bank_untold, wrote_more, wrote_none, wrote_nothing}
use Rattle.statistics_report.proofs.telling.write_banks.Goals as goal
use Rattle.statistics_report.proofs.telling.write_banks.Goals.{then-lies_in+in_ok-write_bank, else-lies_in}

pub loop-number-init : goal.loop-number-init
loop-number-init g c = λ list stands. wrote_nothing (TellsNumbered (told_bank c.args.channel) c.args.rules.now list) (g.W.Write.contents c.args.writer.now)

pub loop-number-preserved : goal.loop-number-preserved
loop-number-preserved g c = λ list stands.
    let contents = g.W.Write.contents in
    let own = told_bank c.args.channel in
    let tells = TellsNumbered own c.args.rules.now list in
    let at = c.bank_numbered-at.result in
    elim c.if-lies_in.branch [
      | then-lies_in+in_ok-write_bank w ↦
          let n = w.bank-numbers.result in
          rw w.writer-is (wrote_more tells c.loop-number.number (contents c.args.writer.now) (contents c.loop-number.writer) (contents w.write_bank.new.writer) (if is_none n then [] else own at n)
          (bank_told own c.args.rules.now list c.loop-number.number at c.bank_numbered-at.ensures n (c.lies_in.ensures.0 w.if-lies_in.true) (w.bank-numbers.ensures list stands))
          w.in_ok-write_bank.ensures (c.loop-number.invariant list stands))
      | else-lies_in w ↦
          rw w.writer-is (wrote_none tells c.loop-number.number (contents c.args.writer.now) (contents c.loop-number.writer)
          (bank_untold own c.args.rules.now list c.loop-number.number at c.bank_numbered-at.ensures
          (λ has. let lies = c.lies_in.ensures.1 has in let e : true ≡ false = sym lies ∙ w.if-lies_in.false in cc))
          (c.loop-number.invariant list stands))
    ]
