use Rattle.std.proofs.Common.{◌≡◌, arith, length, true, false}
use Rattle.std.proofs.lemmas.Option.{slice_get_within}
use Rattle.frfcfs.proofs.Common.{limit_of}
use Rattle.frfcfs.proofs.HitLemmas.{WaitsAt, kept_flag, none_waits, set_flag}
use Rattle.frfcfs.proofs.KeyLemmas.{key_look, key_there, place_there}
use Rattle.frfcfs.proofs.Lists.{something_at}
use Rattle.frfcfs.proofs.ScanOthers.{found_none, scan_none, scan_past}
use Rattle.frfcfs.proofs.scan.Scan.look_at_each.Goals as goal
use Rattle.frfcfs.proofs.scan.Scan.look_at_each.Goals.{then-is_free, else-is_free}

pub loop-index-init : goal.loop-index-init
loop-index-init c = record {
  any = λ pending are. (λ e. absurd (cc), λ h. absurd (omega (arith, h.1)));
  found = λ pending are. found_none c.args.banks.now.checked.geometry pending c.args.now (limit_of c.args.last) c.args.self.now c.requires.bests c.requires.wanting;
  scanned = λ list pending s ends are. scan_none c.args.banks.now.checked list pending c.args.now c.args.last (limit_of c.args.last) c.args.self.now c.requires.bests c.requires.met c.requires.wanting;
}

pub look-requires : goal.look-requires
look-requires c = c.requires.lie c.loop-index.index _ c.loop-index-test.true

pub loop-index-preserved : goal.loop-index-preserved
loop-index-preserved c =
    let b = c.args.banks.now.checked in
    let keys = c.args.keys.now in
    let index = c.loop-index.index in
    let within = c.loop-index-test.true in
    let before = c.loop-index.invariant in
    elim c.if-is_free.branch [
      | then-is_free w ↦ record {
        any = λ pending are.
            let (p, at) = something_at pending index (omega (arith, within, are.keyed.size)) in
            let (el, has) = (key_look b.geometry pending keys index true _ are within w.if-is_free.ensures p at).0 (cc) in
            set_flag (WaitsAt b.geometry pending) _ index w.any-is (p, el, has);
        found = λ pending are.
            let (p, at) = something_at pending index (omega (arith, within, are.keyed.size)) in
            let (el, has) = (key_look b.geometry pending keys index true _ are within w.if-is_free.ensures p at).0 (cc) in
            rw w.self-is (w.look.ensures.found pending p (limit_of c.args.last) c.requires.early el (key_there pending keys index p _ are.keyed at) (place_there b.geometry pending keys index p are at) (before.found pending are));
        scanned = λ list pending s ends are.
            let (p, at) = something_at pending index (omega (arith, within, are.keyed.size)) in
            let (el, has) = (key_look b.geometry pending keys index true _ are within w.if-is_free.ensures p at).0 (cc) in
            rw w.self-is (w.look.ensures.scanned list pending p c.args.last (limit_of c.args.last) s ends c.requires.early el (key_there pending keys index p _ are.keyed at) (place_there b.geometry pending keys index p are at)
            (before.scanned list pending s ends are));
      }
      | else-is_free w ↦ record {
        any = λ pending are. kept_flag (WaitsAt b.geometry pending) c.loop-index.any _ index w.any-is (none_waits b.geometry pending index (key_look b.geometry pending keys index false _ are within w.if-is_free.ensures)) (before.any pending are);
        found = λ pending are. rw w.self-is (before.found pending are);
        scanned = λ list pending s ends are.
            rw w.self-is (scan_past b list pending c.args.now c.args.last (limit_of c.args.last) index c.loop-index.self (none_waits b.geometry pending index (key_look b.geometry pending keys index false _ are within w.if-is_free.ensures))
            (before.scanned list pending s ends are));
      }
    ]

pub returns-clause-any : goal.returns-clause-any
returns-clause-any c pending are = (
  λ t. let h = (c.loop-index.invariant.any pending are).0 t in (h.0, h.2.0, h.2.1, h.2.2),
  λ h. (c.loop-index.invariant.any pending are).1 (h.0, omega (arith, c.loop-index-test.false, are.keyed.size, slice_get_within pending h.0 h.1 h.2.here), (h.1, h.2, h.3)),
)

pub returns-clause-found : goal.returns-clause-found
returns-clause-found c = c.loop-index.invariant.found

pub returns-clause-scanned : goal.returns-clause-scanned
returns-clause-scanned c list pending s ends are =
    let e : c.loop-index.index ≡ length pending = omega (arith, c.loop-index-test.false, c.loop-index.auto.index-end, are.keyed.size) in
    rw (← e) (c.loop-index.invariant.scanned list pending s ends are)
