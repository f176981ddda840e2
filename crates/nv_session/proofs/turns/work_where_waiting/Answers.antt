use Rattle.std.proofs.Common.{◌∙◌, true≢false, sym, subst}
use Rattle.nv_session.proofs.Common.{ComesAlone, StepReply, WorksBehind}
use Rattle.nv_session.proofs.Turning.{did_not_wait, waited}
use Rattle.nv_session.proofs.turns.work_where_waiting.Goals as goal
use Rattle.nv_session.proofs.turns.work_where_waiting.Goals.{in-Waiting, in_default}

pub returns-then-matches-clause-comes : goal.returns-then-matches-clause-comes
returns-then-matches-clause-comes g c =
    let L = g.K.ChannelPort in let old = c.args.running.now in let new = c.work_each.new.running in
    elim c.match-matches.branch [
      | in-Waiting w ↦ subst (λ (reply : StepReply). ComesAlone L (WorksBehind c.args.channels reply) old new) (sym w.in-Waiting.is) (waited L c.args.channels old new c.work_each.ensures.comes)
      | in_default w ↦ absurd (true≢false (sym c.if-matches.true ∙ w.matches-is))
    ]

pub returns-else-matches-clause-comes : goal.returns-else-matches-clause-comes
returns-else-matches-clause-comes g c =
    elim c.match-matches.branch [
      | in-Waiting w ↦ absurd (true≢false (sym w.matches-is ∙ c.if-matches.false))
      | in_default w ↦ did_not_wait g.K.ChannelPort c.args.channels c.args.reply c.args.running.now w.in_default.not-Waiting
    ]
