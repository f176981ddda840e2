use Rattle.std.proofs.Common.{◌≡◌, subst, sym, ap, ◌∙◌, get_or, refl}
use Rattle.std.proofs.lemmas.Option.{get_or_from_slice_get}
use Rattle.frfcfs.proofs.Common.{IsEnd, Pending, Read, Write, pre_of}
use Rattle.frfcfs.proofs.ScanOthers.{found_older, rows_all, rows_met, rows_none, rows_offer}
use Rattle.frfcfs.proofs.scan.Scan.soonest_row.Goals as goal
use Rattle.frfcfs.proofs.scan.Scan.soonest_row.Goals.{else-not-self-bank-via-then-not-self-bank+else-not-self-bank-2, else-not-self-bank-via-else-not-self-bank}

pub loop-bank-init : goal.loop-bank-init
loop-bank-init c = record {
  within = λ bank h. h;
  found = λ limit early found. found.bests.1;
  best = λ list last limit s ends early found scanned. rows_none c.args.banks.now.checked list c.args.pending.now c.args.now last limit c.args.self.now.bests.row c.args.self.now scanned scanned.act;
}

pub loop-bank-preserved-then-not-self-bank-2 : goal.loop-bank-preserved-then-not-self-bank-2
loop-bank-preserved-then-not-self-bank-2 c =
    let b = c.args.banks.now.checked in
    let pending = c.args.pending.now in
    let scan = c.args.self.now in
    let n = c.in-Some.bank in
    let taken = c.in-Some.ensures in
    let before = c.loop-bank.invariant in
    let index = get_or scan.others n 0 in record {
      within = λ bank h. before.within bank ((taken.2 bank).0 h).0;
      found = λ limit early found.
          let (r, el) = found.others n (before.within n taken.1) in
          found_older b.geometry pending c.args.now limit index c.least_clock-clock.result c.max.result _ r c.loop-bank.best _ c.max.ensures el c.offer_older.ensures (before.found limit early found);
      best = λ list last limit s ends early found scanned.
          let (r, el) = found.others n (before.within n taken.1) in
          let is : c.pre.result ≡ pre_of r.place = c.pre.ensures ∙ ap (λ (x : Pending). pre_of x.place) (get_or_from_slice_get pending index r _ el.0.here) in
          rows_offer b list pending c.args.now last limit n index c.least_clock-clock.result c.max.result _ r c.pre.result c.loop-bank.left c.take_one.new.self c.loop-bank.best _ scan s.lawful taken (before.within n taken.1) refl el.0 el.1 (cc) (cc)
          (subst (λ (x : Pending). IsEnd b list r.place.rank last (get_or c.args.ends.now x.place.rank 0)) (sym (get_or_from_slice_get pending index r _ el.0.here)) (ends r.place.rank el.1.rank)) (early _) is (c.least_clock-clock.ensures list s) c.max.ensures
          c.offer_older.ensures scanned (before.best list last limit s ends early found scanned);
    }

pub loop-bank-preserved : goal.loop-bank-preserved
loop-bank-preserved c =
    let b = c.args.banks.now.checked in
    let pending = c.args.pending.now in
    let scan = c.args.self.now in
    let n = c.in-Some.bank in
    let taken = c.in-Some.ensures in
    let before = c.loop-bank.invariant in record {
      within = λ bank h. before.within bank ((taken.2 bank).0 h).0;
      found = before.found;
      best = λ list last limit s ends early found scanned.
          let was = before.best list last limit s ends early found scanned in
          elim c.else-not-self-bank.branch [
            | else-not-self-bank-via-then-not-self-bank+else-not-self-bank-2 w ↦ rows_met b list pending c.args.now last limit n Write c.loop-bank.left c.take_one.new.self c.loop-bank.best scan taken (cc) scanned was
            | else-not-self-bank-via-else-not-self-bank w ↦ rows_met b list pending c.args.now last limit n Read c.loop-bank.left c.take_one.new.self c.loop-bank.best scan taken (cc) scanned was
          ];
    }

pub returns-clause-best : goal.returns-clause-best
returns-clause-best c list last limit s ends early found scanned =
    rows_all c.args.banks.now.checked list c.args.pending.now c.args.now last limit c.loop-bank.left c.loop-bank.best c.in_default.ensures (c.loop-bank.invariant.best list last limit s ends early found scanned)
