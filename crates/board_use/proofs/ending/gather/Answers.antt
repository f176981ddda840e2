use Rattle.std.proofs.Common.{rules, ◌≡◌, ◌∙◌, ◌+◌, ◌∷◌, ◌++◌, [], ℕ, suc, List, ap, arith, get_or, sym, take}
use Rattle.std.proofs.Math.Seq.{take-suc}
use Rattle.std.proofs.lemmas.List.{take_all}
use Rattle.board_hosts.specs.declared.host.Receipt.{Receipt}
use Rattle.worker_turns.specs.declared.awaiting.Seen.{Seen}
use Rattle.board_use.specs.declared.hosting.HostEnd.{HostEnd}
use Rattle.board_use.specs.Ends.{answers_of, receipts_of}
use Rattle.board_use.proofs.Ends.{answers_push, receipts_push}
use Rattle.board_use.proofs.ending.gather.Goals as goal

pub loop-end-init : goal.loop-end-init
loop-end-init g c = search rules

pub loop-end-preserved : goal.loop-end-preserved
loop-end-preserved g c =
    let ends = c.args.ends.now in let i : ℕ = c.loop-end.end-index in let end = c.end-item.result in
    let here : get_or ends i end ≡ end = search rules in
    let one : i + 1 ≡ suc i = omega arith in
    let more : take (i + 1) ends ≡ take i ends ++ get_or ends i end ∷ [] = ap (λ (n : ℕ). take n ends) one ∙ take-suc ends i end c.loop-end-test.true in
    let now : take (i + 1) ends ≡ take i ends ++ end ∷ [] = more ∙ ap (λ (e : HostEnd _). take i ends ++ e ∷ []) here in (
      c.in_ok-add.ensures.receipts ∙ ap (λ (xs : List Receipt). xs ++ end.receipts.items) c.loop-end.invariant.0 ∙ sym (ap receipts_of now ∙ receipts_push (take i ends) end),
      c.in_ok-add.ensures.answers ∙ ap (λ (xs : List Seen). xs ++ end.answers.items) c.loop-end.invariant.1 ∙ sym (ap answers_of now ∙ answers_push (take i ends) end),
    )

pub returns-clause-receipts : goal.returns-clause-receipts
returns-clause-receipts g c = c.loop-end.invariant.0 ∙ ap receipts_of (take_all c.loop-end.end-index c.args.ends.now c.loop-end-test.false)

pub returns-clause-answers : goal.returns-clause-answers
returns-clause-answers g c = c.loop-end.invariant.1 ∙ ap answers_of (take_all c.loop-end.end-index c.args.ends.now c.loop-end-test.false)
