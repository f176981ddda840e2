-- A meter, as a gauge.
use Rattle.std.specs.Prelude.{ℕ, Option, unwrap_or}
use Rattle.energy_budget.specs.declared.meter.Meter.{Meter}
use Rattle.energy_budget.specs.Gauge.{Gauge}
use Rattle.energy_budget.specs.Tally.{count_of}

abbrev pub level_of : Meter → ℕ
level_of m = m.level

abbrev pub leak_of : Meter → ℕ
leak_of m = m.leak

-- the units that can be paid under a lie
abbrev pub lie_of : Meter → Option ℕ
lie_of m = m.lie

abbrev pub fault_count_of : Meter → ℕ
fault_count_of m = count_of m.faults

abbrev pub meter_gauge : Meter → Gauge
meter_gauge m = record { level = m.level; leak = m.leak; faults = count_of m.faults; calls = m.calls.items }

-- how much can be paid
abbrev pub payable_of : Meter → ℕ
payable_of m = unwrap_or m.lie m.level
