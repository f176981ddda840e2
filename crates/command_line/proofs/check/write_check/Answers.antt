use Rattle.std.proofs.Common.{Bool, subst, sym}
use Rattle.std.proofs.lemmas.Result.{IfOk-at_ok, IfOk-weaker}
use Rattle.command_line.specs.Check.{TellsCounts}
use Rattle.command_line.proofs.Verdicts.{verdict_alone, verdict_with}
use Rattle.command_line.proofs.check.write_check.Goals as goal

pub returns-then-not-asked : goal.returns-then-not-asked
returns-then-not-asked g c =
    let contents = g.W.Write.contents in let check = c.in_ok-check.check in
    IfOk-weaker c.write_checked.result _ _
    (λ checked judged. IfOk-weaker checked _ _
    (λ code it. verdict_alone c.args.rules.now c.args.source.now c.args.asked code c.in_ok-form.form check (contents c.args.writer.now) (contents c.write_checked.new.writer)
    c.in_ok-form.ensures c.in_ok-check.ensures.reads c.in_ok-check.ensures.follows c.if-not-asked.true it) judged)
    (c.write_checked.ensures c.in_ok-check.ensures.follows)

pub returns-in_ok-write_counts-in-Ok : goal.returns-in_ok-write_counts-in-Ok
returns-in_ok-write_counts-in-Ok g c =
    let contents = g.W.Write.contents in let measured = c.in_ok-measured.measured in
    let told = c.in_ok-write_counts-in-Ok.ensures (record {
      follows = c.in_ok-measured.ensures.follows;
      lawful = c.in_ok-measured.ensures.lawful;
      rules = c.in_ok-measured.ensures.rules;
    }) in
    verdict_with c.args.rules.now c.args.source.now c.args.asked c.in-Ok.code c.in_ok-form.form measured.check (contents c.args.writer.now)
    (contents c.write_checked-2.new.writer) (contents c.write_counts.new.writer) told.0
    c.in_ok-form.ensures c.in_ok-measured.ensures.reads c.in_ok-measured.ensures.follows
    (subst (λ (stats : Bool). TellsCounts stats c.args.asked.is_json c.args.rules.now measured.check.given.items told.0) (sym c.if-not-asked.false) told.1) told.2
    (IfOk-at_ok _ c.in-Ok.is (c.in_ok-code.ensures c.in_ok-measured.ensures.follows))
