-- A gauge that answers from a list of words.
use Rattle.std.specs.Prelude.{ℕ, List, Option, slice_get, unwrap_or}
use Rattle.std.specs.Vec.Iter.{into_iter_items}
use Rattle.energy_budget.specs.declared.wild.Wild.{Wild}
use Rattle.energy_budget.specs.Gauge.{Gauge}
use Rattle.energy_budget.specs.Tally.{count_of}

-- the words that are left
abbrev pub words_of : Wild → List ℕ
words_of w = into_iter_items w.words

abbrev pub next_word : Wild → Option ℕ
next_word w = slice_get (words_of w) 0

-- the level that the next call finds
abbrev pub level_found : Wild → ℕ
level_found w = unwrap_or (next_word w) 0

abbrev pub wild_gauge : Wild → Gauge
wild_gauge w = record { level = w.level; leak = 0; faults = count_of w.faults; calls = w.calls.items }
