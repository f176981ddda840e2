-- The maps `lines` and `xor`: the place of a line, and the line at a place.
use Rattle.std.specs.Prelude.{ℕ, ◌+◌, ◌*◌, ◌/◌, ◌%◌, bit_xor}
use Rattle.ddr4_timing.specs.declared.timing.Geometry.{Geometry}
use Rattle.ddr4_timing.specs.declared.place.Place.{Place}
use Rattle.interleave_map.specs.Cells.{cell_of}

-- the low part of the line names the channel; then come the column, the group, the bank, the rank and the row
unfoldable pub place_by_lines : Geometry → ℕ → Place
place_by_lines g line =
    let cell = line / g.channels in
    let groups = cell / g.columns in
    let banks = groups / g.groups in
    let ranks = banks / g.banks in
    record {
      channel = line % g.channels;
      rank = ranks % g.ranks;
      group = groups % g.groups;
      bank = banks % g.banks;
      row = ranks / g.ranks;
      column = cell % g.columns;
    }

unfoldable pub line_by_lines : Geometry → Place → ℕ
line_by_lines g place = cell_of g place * g.channels + place.channel

-- the place with its channel changed by its row
unfoldable pub exchanged_place : Geometry → Place → Place
exchanged_place g place = record place { channel = bit_xor place.channel (place.row % g.channels) }

unfoldable pub place_by_xor : Geometry → ℕ → Place
place_by_xor g line = exchanged_place g (place_by_lines g line)

unfoldable pub line_by_xor : Geometry → Place → ℕ
line_by_xor g place = line_by_lines g (exchanged_place g place)
