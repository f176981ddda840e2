-- The cells of a channel's array.
use Rattle.std.specs.Prelude.{ℕ, ◌+◌, ◌*◌}
use Rattle.ddr4_timing.specs.declared.timing.Geometry.{Geometry}
use Rattle.ddr4_timing.specs.declared.place.Place.{Place}

-- how many lines a channel has
unfoldable pub cells_of : Geometry → ℕ
cells_of g = g.ranks * g.groups * g.banks * g.rows * g.columns

-- where a place stands in the array of its channel
unfoldable pub cell_of : Geometry → Place → ℕ
cell_of g place =
    let rank = place.row * g.ranks + place.rank in
    let bank = rank * g.banks + place.bank in
    let group = bank * g.groups + place.group in
    group * g.columns + place.column
