use Rattle.std.proofs.Common.{◌≡◌, length, take}
use Rattle.toml.specs.View.{table_view}
use Rattle.nv_profile.specs.Tables.{HasNumbers}
use Rattle.nv_profile.proofs.table.numbers.Given as goal

abbrev pub invariant-loop-place : goal.invariant-loop-place
invariant-loop-place l =
    (length l.numbers ≡ 6) × HasNumbers (take l.place l.key-items) (table_view l.table) (take l.place l.numbers)
