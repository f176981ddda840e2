use Rattle.std.proofs.Common.{◌≡◌, true, false, refl, ap, ◌∙◌, arith, length, length-set, subst}
use Rattle.std.proofs.lemmas.Option.{slice_get_within}
use Rattle.frfcfs.proofs.Common.{Geometry}
use Rattle.frfcfs.proofs.HitLemmas.{IsLook, WaitsAt, eligible_there, flags_hits, flags_kept, flags_none, flags_there, kept_flag, none_hits, none_waits, set_flag, waits_there}
use Rattle.frfcfs.proofs.hits.hit_banks.Goals as goal
use Rattle.frfcfs.proofs.hits.hit_banks.Goals.{then-is_eligible+then-is_hit, then-is_eligible+else-is_hit, else-is_eligible}

pub loop-i-init : goal.loop-i-init
loop-i-init c = record {
  size = refl;
  hits = λ list s. flags_none c.args.banks.now.checked.geometry list c.args.pending.now c.args.banks.now.checked.is_small;
  any = (λ e. absurd cc, λ h. absurd (omega (arith, h.1)));
}

pub is_hit-requires : goal.is_hit-requires
is_hit-requires c = rw (← c.checked.ensures) (eligible_there c.checked.result.now.geometry c.args.pending.now c.loop-i.i _ c.loop-i-test.true c.if-is_eligible.ensures).1

pub index-requires-clause-lies : goal.index-requires-clause-lies
index-requires-clause-lies c = rw c.bank_address.ensures (eligible_there c.checked.result.now.geometry c.args.pending.now c.loop-i.i _ c.loop-i-test.true c.if-is_eligible.ensures).1

pub loop-i-preserved : goal.loop-i-preserved
loop-i-preserved c =
    let g = c.args.banks.now.checked.geometry in
    let pending = c.args.pending.now in
    let i = c.loop-i.i in
    let same = ap (λ x. x.geometry) c.checked.ensures in
    let within = c.loop-i-test.true in
    let before = c.loop-i.invariant in
    elim c.if-is_eligible.branch [
      | then-is_eligible+then-is_hit w ↦
          let look = subst (λ (x : Geometry). IsLook x pending i true) same w.if-is_eligible.ensures in record {
            size = ap length w.hit-is ∙ length-set c.loop-i.hit w.index.result true ∙ before.size;
            hits = λ list s. flags_there g list pending c.loop-i.hit _ i w.index.result _ w.bank_address.result c.args.banks.now.checked.is_small before.size within look w.hit-is
                w.index.ensures.value w.bank_address.ensures (w.if-is_hit.ensures list s) (before.hits list s);
            any = set_flag (WaitsAt g pending) _ i w.any-is (waits_there g pending i within look);
          }
      | then-is_eligible+else-is_hit w ↦ record {
        size = ap length w.hit-is ∙ before.size;
        hits = λ list s. flags_kept g list pending c.loop-i.hit _ i w.hit-is (λ bank has. none_hits list pending i _ bank within (w.if-is_hit.ensures list s)) (before.hits list s);
        any = set_flag (WaitsAt g pending) _ i w.any-is (waits_there g pending i within (subst (λ (x : Geometry). IsLook x pending i true) same w.if-is_eligible.ensures));
      }
      | else-is_eligible w ↦
          let none = none_waits g pending i (subst (λ (x : Geometry). IsLook x pending i false) same w.if-is_eligible.ensures) in record {
            size = ap length w.hit-is ∙ before.size;
            hits = λ list s. flags_kept g list pending c.loop-i.hit _ i w.hit-is (λ bank has hit. none (hit.0, hit.1, rw hit.2 has)) (before.hits list s);
            any = kept_flag (WaitsAt g pending) c.loop-i.any _ i w.any-is none before.any;
          }
    ]

pub returns-clause-banks : goal.returns-clause-banks
returns-clause-banks c list s =
    let e : c.loop-i.i ≡ length c.args.pending.now = omega (arith, c.loop-i-test.false, c.loop-i.auto.i-end) in
    flags_hits c.args.banks.now.checked.geometry list c.args.pending.now _ c.loop-i.hit (rw (← e) (c.loop-i.invariant.hits list s))

pub returns-clause-any : goal.returns-clause-any
returns-clause-any c = (
  λ t. let h = c.loop-i.invariant.any.0 t in (h.0, h.2.0, h.2.1, h.2.2),
  λ h. c.loop-i.invariant.any.1 (h.0, omega (arith, c.loop-i-test.false, slice_get_within c.args.pending.now h.0 h.1 h.2.here), (h.1, h.2, h.3)),
)
