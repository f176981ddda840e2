use Rattle.std.proofs.Common.{◌≡◌, List, arith, subst, sym, take}
use Rattle.std.proofs.lemmas.List.{take_all, take_more}
use Rattle.nv_script.specs.declared.answer.Answer.{Answer}
use Rattle.command_line.specs.Whole.{IsSoFar}
use Rattle.command_line.proofs.Lives.{whole_told}
use Rattle.command_line.proofs.whole.told_whole.Goals as goal

pub loop-answer-preserved : goal.loop-answer-preserved
loop-answer-preserved c =
    let put = c.in_ok-put.ensures c.args.lives.now (take c.loop-answer.answer-index c.args.answers.now) c.loop-answer.invariant in
    subst (λ (given : List Answer). IsSoFar c.args.lives.now given c.put.new.self) (sym (take_more c.args.answers.now c.loop-answer.answer-index _ c.loop-answer-test.true)) put

pub returns : goal.returns
returns c =
    let all : take c.loop-answer.answer-index c.args.answers.now ≡ c.args.answers.now = take_all c.loop-answer.answer-index c.args.answers.now (omega (arith, c.loop-answer-test.false)) in
    let so_far = c.in_ok-tell_rest.ensures.so_far c.args.lives.now (take c.loop-answer.answer-index c.args.answers.now) c.loop-answer.invariant in
    whole_told c.args.lives.now c.args.answers.now c.tell_rest.new.self (subst (λ (given : List Answer). IsSoFar c.args.lives.now given c.tell_rest.new.self) all so_far) c.in_ok-tell_rest.ensures.all
