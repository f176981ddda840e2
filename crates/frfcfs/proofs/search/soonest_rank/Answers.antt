use Rattle.std.proofs.Common.{◌≡◌, ◌≤◌, ℕ, None, ap, arith, subst}
use Rattle.frfcfs.specs.Search.{IsRankNext}
use Rattle.frfcfs.proofs.RankOffers.{rank_sooner, sooner_keeps}
use Rattle.frfcfs.proofs.search.soonest_rank.Goals as goal

pub loop-rank-preserved : goal.loop-rank-preserved
loop-rank-preserved c =
    let l = c.loop-rank in
    let n = c.rank_next in
    let r = c.sooner-best in record {
      span = sooner_keeps (λ next. (c.args.now ≤ next.clock) × (next.clock ≤ c.args.last) × (next.serves ≡ None)) l.best n.result r.result r.ensures l.invariant.span n.ensures.span;
      next = λ list s. rank_sooner c.args.banks.now.checked list c.args.now c.args.last 0 l.rank _ l.best n.result r.result (omega arith) (omega arith) r.ensures (l.invariant.next list s) (n.ensures.next list s);
    }

pub returns-clause-next : goal.returns-clause-next
returns-clause-next c list s =
    let n = ap (λ x. x.geometry.ranks) c.checked.ensures in
    let e : c.loop-rank.rank ≡ c.args.banks.now.checked.geometry.ranks = omega (arith, n, c.loop-rank-test.false, c.loop-rank.auto.rank-end) in
    subst (λ (end : ℕ). IsRankNext c.args.banks.now.checked list c.args.now c.args.last 0 end c.loop-rank.best) e (c.loop-rank.invariant.next list s)
