-- A map of two closures.
use Rattle.std.specs.Prelude.{ℕ}
use Rattle.std.specs.Fn.{Shared}
use Rattle.ddr4_timing.specs.declared.timing.Geometry.{Geometry}
use Rattle.ddr4_timing.specs.declared.place.Place.{Place}
use Rattle.interleave_map.specs.declared.map.Map.{Map}
use Rattle.interleave_map.specs.Inverse.{AreInverse}

abbrev pub map_of : {F G N : Type 0} → F → G → N → Geometry → Map F G N
map_of split join names geometry = record { split = split; join = join; names = names; geometry = geometry }

-- the closures are inverse, and the first one gives the places that the names have
abbrev pub IsLawfulMap : {F G N : Type 0} → Shared F (ℕ × Unit {0}) Place → Shared G (Place × Unit {0}) ℕ
    → (N → ℕ → Place) → Map F G N → Type 0
IsLawfulMap f g place_of m =
    AreInverse m.geometry (place_of m.names)
    (λ line. f.pre m.split (line, tt)) (λ line place. f.post m.split (line, tt) place)
    (λ place. g.pre m.join (place, tt)) (λ place line. g.post m.join (place, tt) line)
