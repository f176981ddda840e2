use Rattle.std.proofs.Common.{◌≡◌, ap, arith, length, subst, true, false}
use Rattle.frfcfs.proofs.Common.{Geometry, limit_of}
use Rattle.frfcfs.proofs.BestRequests.{best_past}
use Rattle.frfcfs.proofs.HitLemmas.{IsLook, eligible_there, none_waits}
use Rattle.frfcfs.proofs.search.soonest_requests.Goals as goal
use Rattle.frfcfs.proofs.search.soonest_requests.Goals.{then-is_eligible, else-is_eligible}

pub loop-index-preserved : goal.loop-index-preserved
loop-index-preserved c =
    let b = c.args.banks.now.checked in
    let pending = c.args.pending.now in
    let index = c.loop-index.index in
    let same = ap (λ x. x.geometry) c.checked.ensures in
    let within = c.loop-index-test.true in
    elim c.if-is_eligible.branch [
      | then-is_eligible w ↦
          let (el, bank) = eligible_there b.geometry pending index _ within (subst (λ (x : Geometry). IsLook x pending index true) same w.if-is_eligible.ensures) in record {
            found = rw w.bests-is (w.look.ensures.found pending (limit_of c.args.last) (c.ends-ends.ensures.early _) el c.loop-index.invariant.found);
            best = λ list s hits. rw w.bests-is (w.look.ensures.best list pending c.args.last (limit_of c.args.last) s hits (c.ends-ends.ensures.ends list s _ bank.rank) (c.ends-ends.ensures.early _) el (c.loop-index.invariant.best list s hits));
          }
      | else-is_eligible w ↦
          let none = none_waits b.geometry pending index (subst (λ (x : Geometry). IsLook x pending index false) same w.if-is_eligible.ensures) in record {
            found = rw w.bests-is c.loop-index.invariant.found;
            best = λ list s hits. rw w.bests-is (best_past b list pending c.args.now c.args.last (limit_of c.args.last) index c.loop-index.bests none (c.loop-index.invariant.best list s hits));
          }
    ]

pub returns-clause-best : goal.returns-clause-best
returns-clause-best c list s hits =
    let e : c.loop-index.index ≡ length c.args.pending.now = omega (arith, c.loop-index-test.false, c.loop-index.auto.index-end) in
    rw (← e) (c.loop-index.invariant.best list s hits)
