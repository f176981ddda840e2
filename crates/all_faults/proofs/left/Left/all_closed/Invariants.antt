use Rattle.std.proofs.Common.{◌≡◌, ℕ, ◌<◌, List, None}
use Rattle.ddr4_timing.specs.declared.command.Stamped.{Stamped}
use Rattle.ddr4_timing.specs.Lawful.{open_row}
use Rattle.all_faults.specs.Left.{IsLeftBy}
use Rattle.all_faults.proofs.left.Left.all_closed.Given as goal

abbrev pub invariant-loop-group : goal.invariant-loop-group
invariant-loop-group l = (list : List Stamped) → IsLeftBy l.c.geometry l.self list →
    (g b : ℕ) → g < l.group → b < l.c.geometry.banks → open_row (record { rank = l.rank; group = g; bank = b }) list ≡ None

abbrev pub invariant-loop-bank : goal.invariant-loop-bank
invariant-loop-bank l = (list : List Stamped) → IsLeftBy l.c.geometry l.self list →
    (b : ℕ) → b < l.bank → open_row (record { rank = l.rank; group = l.group; bank = b }) list ≡ None
