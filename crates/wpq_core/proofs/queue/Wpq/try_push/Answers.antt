use Rattle.std.proofs.Common.{◌<◌, ◌≢◌, length, sym, subst, arith}
use Rattle.wpq_core.specs.Queue.{Queue}
use Rattle.wpq_core.specs.Writes.{ComeBefore, pending_write}
use Rattle.wpq_core.proofs.Numbers.{queue_push}
use Rattle.wpq_core.proofs.queue.Wpq.try_push.Goals as goal

pub invariant_of-self : goal.invariant_of-self
invariant_of-self c =
    let q : Queue = record { depth = c.self.inside.writes.most; writes = c.self.inside.writes.items } in
    let before : ComeBefore c.args.number q.writes = subst (λ (w : Queue). ComeBefore c.args.number w.writes) (sym c.self.view_is) c.requires in
    let apart : length q.writes ≢ q.depth = subst (λ (w : Queue). length w.writes ≢ w.depth) (sym c.self.view_is) (λ e. absurd (cc (c.if-is_full.ensures.1 e))) in
    let few : length q.writes < q.depth = omega (arith, apart, c.self.invariant.few) in
    rw c.push.ensures (queue_push q (pending_write c.args.number c.args.line c.args.«data») c.self.invariant before few)

pub returns-clause-queue : goal.returns-clause-queue
returns-clause-queue c = invariant_of-self c
