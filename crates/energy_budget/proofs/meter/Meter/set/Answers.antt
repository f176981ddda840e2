use Rattle.std.proofs.Common.{◌≡◌, ◌+◌, ℕ, if◌then◌else◌, nat_lt, ap, sym, subst}
use Rattle.energy_budget.specs.declared.meter.Meter.{Meter}
use Rattle.energy_budget.specs.Gauge.{Gauge}
use Rattle.energy_budget.specs.Meter.{level_of, fault_count_of, meter_gauge}
use Rattle.energy_budget.proofs.Counting.{one_more, no_more}
use Rattle.energy_budget.proofs.meter.Meter.set.Goals.{then-level-self, else-level-self}
use Rattle.energy_budget.proofs.meter.Meter.set.Goals as goal

pub returns-clause-gauge : goal.returns-clause-gauge
returns-clause-gauge c =
    let old = c.args.self.now in
    let level = c.args.level in
    let counted : Gauge = record (meter_gauge old) { level = level; faults = fault_count_of old + (if nat_lt level (level_of old) then 1 else 0) } in
    elim c.if-level-self.branch [
      | then-level-self w ↦
          subst (λ (m : Meter). record (meter_gauge m) { level = level } ≡ counted) (sym w.self-is)
          (ap (λ (n : ℕ). record (meter_gauge old) { level = level; faults = n }) (one_more level (level_of old) (fault_count_of old) _ w.if-level-self.true w.add.ensures))
      | else-level-self w ↦
          subst (λ (m : Meter). record (meter_gauge m) { level = level } ≡ counted) (sym w.self-is)
          (ap (λ (n : ℕ). record (meter_gauge old) { level = level; faults = n }) (no_more level (level_of old) (fault_count_of old) w.if-level-self.false))
    ]
