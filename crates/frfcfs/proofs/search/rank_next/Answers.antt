use Rattle.std.proofs.Common.{arith, refl}
use Rattle.frfcfs.proofs.RankOffers.{refresh_asleep, refresh_behind, refresh_first, refresh_none}
use Rattle.frfcfs.proofs.search.rank_next.Goals as goal
use Rattle.frfcfs.proofs.search.rank_next.Goals.{then-from-last-via-then-from-last, then-from-last-via-else-from-last+then-is_asleep}

pub returns-then-from-last-clause-next : goal.returns-then-from-last-clause-next
returns-then-from-last-clause-next c list s =
    elim c.then-from-last.branch [
      | then-from-last-via-then-from-last w ↦ refresh_behind c.args.banks.now.checked list c.args.rank c.args.now c.args.last c.lead_from.result c.max-from.result (c.lead_from.ensures list s) c.max-from.ensures w.if-from-last.true
      | then-from-last-via-else-from-last+then-is_asleep w ↦ refresh_asleep c.args.banks.now.checked list c.args.rank c.args.now c.args.last (cc (w.is_asleep.ensures list s))
    ]

pub returns-then-clock-min-clause-next : goal.returns-then-clock-min-clause-next
returns-then-clock-min-clause-next c list s =
    let r = c.refresh-refresh.ensures in
    refresh_none c.args.banks.now.checked list c.args.rank c.args.now c.args.last c.lead_from.result c.max-from.result c.max-clock.result c.refresh-refresh.result
    (record { kind = r.kind; closed = r.closed list s; opened = r.opened list s; exact = r.exact list s }) (c.lead_from.ensures list s) c.max-from.ensures c.max-clock.ensures (omega (arith, c.deadline.ensures list s, c.min.ensures, c.if-clock-min.true))

pub returns-clause-next : goal.returns-clause-next
returns-clause-next c list s =
    let r = c.refresh-refresh.ensures in
    refresh_first c.args.banks.now.checked list c.args.rank c.args.now c.args.last c.lead_from.result c.max-from.result c.max-clock.result c.refresh-refresh.result _ c.requires (λ on. absurd (cc (c.is_asleep.ensures list s, c.if-is_asleep.false, on)))
    (record { kind = r.kind; closed = r.closed list s; opened = r.opened list s; exact = r.exact list s }) (c.lead_from.ensures list s) c.max-from.ensures c.max-clock.ensures (omega (arith, c.deadline.ensures list s, c.min.ensures, c.if-clock-min.false)) refl
