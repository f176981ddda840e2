use Rattle.std.proofs.Common.{◌∙◌, arith, ap, length, length-drop, refl, sym}
use Rattle.module_journal.specs.Heads.{untold}
use Rattle.module_journal.proofs.Telling.{none_there, none_told, one_told}
use Rattle.module_journal.proofs.journal.drop_told.Goals as goal

pub loop-turn-init : goal.loop-turn-init
loop-turn-init c = record { same = refl; one_each = omega arith }

pub returns-then-head-mark : goal.returns-then-head-mark
returns-then-head-mark c =
    sym (none_told c.args.mark c.loop-turn.heads.items c.index-head.result.now (omega (arith, c.loop-turn.invariant.one_each, c.loop-turn-test.true, c.len-turn-end.ensures)) c.index-head.ensures (omega (arith, c.if-head-mark.true)))
    ∙ c.loop-turn.invariant.same

pub loop-turn-preserved : goal.loop-turn-preserved
loop-turn-preserved c = record {
  same = ap (untold c.args.mark) c.pop_front-told.ensures.rest
      ∙ sym (one_told c.args.mark c.loop-turn.heads.items c.index-head.result.now (omega (arith, c.loop-turn.invariant.one_each, c.loop-turn-test.true, c.len-turn-end.ensures)) c.index-head.ensures (omega (arith, c.if-head-mark.false)))
      ∙ c.loop-turn.invariant.same;
  one_each = omega (arith, c.loop-turn.invariant.one_each, c.loop-turn-test.true, c.len-turn-end.ensures, ap length c.pop_front-told.ensures.rest, length-drop 1 c.loop-turn.heads.items);
}

pub returns : goal.returns
returns c =
    sym (none_there c.args.mark c.loop-turn.heads.items (omega (arith, c.loop-turn.invariant.one_each, c.loop-turn-test.false, c.loop-turn.auto._turn-end, c.len-turn-end.ensures)))
    ∙ c.loop-turn.invariant.same
