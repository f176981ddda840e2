use Rattle.std.proofs.Common.{◌≡◌, ◌∙◌, List, sym, subst, IfOk, Result}
use Rattle.board_hosts.specs.Ending.{AreChecked, cut}
use Rattle.board_hosts.specs.declared.checking.Cut.{Cut}
use Rattle.board_hosts.specs.declared.host.Receipt.{Receipt}
use Rattle.worker_turns.specs.declared.awaiting.Seen.{Seen}
use Rattle.board_use.specs.declared.ending.Unchecked.{Unchecked}
use Rattle.board_use.specs.Ends.{answers_of, receipts_of}
use Rattle.board_use.proofs.Ends.{ends_life}
use Rattle.board_use.proofs.ending.close_checked.Goals as goal

pub returns-in-Ok-close : goal.returns-in-Ok-close
returns-in-Ok-close g c =
    let told = c.left_by.ensures in let closed = c.in-Ok-close.closed in let it = closed.recorded in let ends = c.args.ends.now in
    let receipts : List Receipt = c.as_slice-receipts.result.now in let answers : List Seen = c.as_slice-answers.result.now in
    let all : receipts ≡ receipts_of ends = c.as_slice-receipts.ensures.value ∙ c.in-Ok.ensures.receipts in
    let seen : answers ≡ answers_of ends = c.as_slice-answers.ensures.value ∙ c.in-Ok.ensures.answers in
    let count : Cut = cut closed.from closed.checked closed.past in
    let checked : AreChecked it.running.front.terms.start it.history (receipts_of ends) (answers_of ends) count =
    subst (λ (xs : List Receipt). AreChecked it.running.front.terms.start it.history xs (answers_of ends) count) all
    (subst (λ (ys : List Seen). AreChecked it.running.front.terms.start it.history receipts ys count) seen c.in-Ok-close.ensures.checked) in
    ends_life g.K.ChannelPort g.D.SaveDevice g.E.Energy g.B.BoardName g.B.PartsName _ it c.in-Ok-close.ensures.lay (receipts_of ends) (answers_of ends) c.left_by.result
    told.device told.energy told.history told.accepted told.mark
    (subst (λ (r : Result Cut Unchecked). IfOk r (λ told. AreChecked it.running.front.terms.start it.history (receipts_of ends) (answers_of ends) told)) (sym told.checked) checked)
