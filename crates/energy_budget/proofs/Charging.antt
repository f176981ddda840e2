-- A gauge that isn't asked, and that may be charged.
use Rattle.std.proofs.Common.{◌≡◌, refl, sym, ◌∙◌, arith}
use Rattle.energy_budget.specs.Gauge.{Gauge}
use Rattle.energy_budget.specs.Charging.{RisesTo}

-- it wasn't touched
pub rises_none : (gauge : Gauge) → RisesTo gauge gauge
rises_none gauge = record { rises = λ same. omega arith; counted = omega arith; same_leak = refl; unasked = refl }

-- it was charged twice
pub rises_twice : (a b c : Gauge) → RisesTo a b → RisesTo b c → RisesTo a c
rises_twice a b c first second = record {
  rises = λ same.
      let middle : b.faults ≡ a.faults = omega (arith, first.counted, second.counted, same) in
      omega (arith, first.rises middle, second.rises (same ∙ sym middle));
  counted = omega (arith, first.counted, second.counted);
  same_leak = second.same_leak ∙ first.same_leak;
  unasked = second.unasked ∙ first.unasked;
}
