use Rattle.std.proofs.Common.{◌≡◌, ◌∙◌, ap, subst, sym}
use Rattle.module_core.specs.declared.front.Front.{Front}
use Rattle.line_memory.specs.History.{Recorded}
use Rattle.board_hosts.specs.Ending.{AreChecked}
use Rattle.board_desk.specs.Closing.{HaveModule}
use Rattle.split_board.proofs.ending.close.Goals as goal

pub returns-clause-checked : goal.returns-clause-checked
returns-clause-checked g c =
    let desk = c.in-Some.desk in let receipts = c.args.receipts.now in let answers = c.args.answers.now in let told = c.in-Ok.told in let same = c.unlock-channels.ensures.same in
    let front : c.end.result.running.front ≡ desk.split.front = ap (λ r. r.running.front) c.end.ensures.same ∙ c.gather_all.ensures.front ∙ same.front in
    let history : c.end.result.history ≡ desk.history = ap (λ r. r.history) c.end.ensures.same ∙ c.gather_all.ensures.history ∙ same.history in
    subst (λ (f : Front). AreChecked f.terms.start c.end.result.history receipts answers told) (sym front)
    (subst (λ (h : Recorded). AreChecked desk.split.front.terms.start h receipts answers told) (sym history) c.in-Ok.ensures.checked)

pub returns-clause-lay : goal.returns-clause-lay
returns-clause-lay g c =
    let L = g.K.ChannelPort in let M = g.D.SaveDevice in let N = g.E.Energy in let O = g.B.BoardName in let P = g.B.PartsName in
    let desk = c.unlock-channels.new.self in let channels = c.unlock-channels.result in
    record { desk = desk; channels = channels; have = subst (λ recorded. HaveModule L M N O P _ desk channels recorded) (sym c.end.ensures.same) c.gather_all.ensures }
