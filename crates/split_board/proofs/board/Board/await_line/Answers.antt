-- A claim is awaited.
use Rattle.std.proofs.Common.{arith, inl, inr, refl}
use Rattle.channel_port.specs.declared.answers.Collected.TheVariants.{Data}
use Rattle.split_board.specs.Turns.{IsNotOwn}
use Rattle.split_board.proofs.OwnLines.{lost_own, told_err}
use Rattle.split_board.proofs.board.Board.await_line.Goals.{then-seen-claim-via-then-seen-claim, then-seen-claim-via-else-seen-claim+then-seen-claim-2}
use Rattle.split_board.proofs.board.Board.await_line.Goals as goal

pub returns-in_err-seen : goal.returns-in_err-seen
returns-in_err-seen g c =
    lost_own g.K.ChannelPort g.B.PartsName c.args.claim.ticket c.args.claim.line c.args.claim.at c.from_residual.result c.in_err-seen.field-0.0 (told_err c.from_residual.result c.in_err-seen.field-0.0 c.from_residual.ensures.1) c.in_err-seen.ensures.ends

pub returns-then-seen-claim : goal.returns-then-seen-claim
returns-then-seen-claim g c =
    let seen = c.in_ok-seen.seen in
    let other : IsNotOwn c.args.claim.line c.args.claim.at (Data seen.line seen.data seen.at) = elim c.then-seen-claim.branch [
      | then-seen-claim-via-then-seen-claim w ↦ inl (λ e. let apart = w.if-seen-claim.true in let bad : ⊥ = grind (arith, e, apart) in bad)
      | then-seen-claim-via-else-seen-claim+then-seen-claim-2 w ↦ inr (λ e. let apart = w.if-seen-claim-2.true in let bad : ⊥ = grind (arith, e, apart) in bad)
    ] in
    (refl, Data seen.line seen.data seen.at, c.in_ok-seen.ensures.ends, (λ e. absurd (let bad : ⊥ = cc in bad)), other)
