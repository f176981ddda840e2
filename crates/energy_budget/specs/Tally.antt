-- A count.
use Rattle.std.specs.Prelude.{ℕ, length}
use Rattle.energy_budget.specs.declared.tally.Tally.{Tally}

abbrev pub count_of : Tally → ℕ
count_of t = length t.counted.items
