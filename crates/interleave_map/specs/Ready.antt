-- The ready-made maps.
use Rattle.std.specs.Prelude.{ℕ, List, codes}
use Rattle.ddr4_timing.specs.declared.place.Place.{Place}
use Rattle.ddr4_timing.specs.declared.timing.Geometry.{Geometry}
use Rattle.interleave_map.specs.declared.ready.Interleaving.{Interleaving}
use Rattle.interleave_map.specs.declared.ready.Interleaving.TheVariants.{Lines, Xor}
use Rattle.interleave_map.specs.Interleaving.{place_by_lines, line_by_lines, place_by_xor, line_by_xor}

-- its word
abbrev pub text_of : Interleaving → List ℕ
text_of Lines = codes "lines"
text_of Xor = codes "xor"

-- the place of a line, and the line at a place
abbrev pub place_by : Interleaving → Geometry → ℕ → Place
place_by Lines g line = place_by_lines g line
place_by Xor g line = place_by_xor g line

abbrev pub line_by : Interleaving → Geometry → Place → ℕ
line_by Lines g place = line_by_lines g place
line_by Xor g place = line_by_xor g place
