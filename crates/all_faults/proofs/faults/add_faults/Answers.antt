use Rattle.std.proofs.Common.{◌+◌, ◌*◌, ◌∙◌, List, ap, subst, sym}
use Rattle.ddr4_timing.specs.declared.fault.Fault.{Fault}
use Rattle.all_faults.specs.Faults.{AreFaultsUpTo}
use Rattle.all_faults.proofs.FaultLemmas.{none_at, some_at}
use Rattle.all_faults.proofs.faults.add_faults.Goals.{in-Some+in_ok-push, in_default}
use Rattle.all_faults.proofs.faults.add_faults.Goals as goal

pub loop-rule-preserved : goal.loop-rule-preserved
loop-rule-preserved c so_far =
    let P : List Fault → Type 0 = AreFaultsUpTo c.args.c.now c.args.list.now (16 * c.args.second + (c.loop-rule.rule-index + 1)) in
    elim c.match-broken_at.branch [
      | in-Some+in_ok-push w ↦
          subst P (sym (ap (λ v. v.items) w.faults-is ∙ w.in_ok-push.ensures.items))
          (some_at c.args.c.now c.args.list.now c.loop-rule.rule-index c.args.second w.in-Some.first _ c.loop-rule.faults.items c.requires.there c.loop-rule-test.true w.in-Some.ensures.order
          w.in-Some.ensures.asked w.in-Some.ensures.found w.in-Some.ensures.least (c.loop-rule.invariant so_far))
      | in_default w ↦
          subst P (sym (ap (λ v. v.items) w.faults-is))
          (none_at c.args.c.now c.args.list.now c.loop-rule.rule-index c.args.second _ c.loop-rule.faults.items c.requires.there c.loop-rule-test.true w.in_default.ensures.none (c.loop-rule.invariant so_far))
    ]
