-- The second way: the geometry has as many places as lines, so that a map that gives each line back leaves no place out.
use Rattle.std.proofs.Common.{◌≡◌, ℕ, ◌<◌, ap, sym, subst, ◌∙◌}
use Rattle.ddr4_timing.specs.declared.timing.Geometry.{Geometry}
use Rattle.ddr4_timing.specs.declared.place.Place.{Place}
use Rattle.ddr4_timing.specs.Limits.{lines_of}
use Rattle.ddr4_timing.specs.Places.{LiesIn}
use Rattle.interleave_map.specs.Interleaving.{line_by_lines}
use Rattle.interleave_map.specs.Inverse.{IsInverse, AreInverse, IsInterleaving}
use Rattle.interleave_map.proofs.Numbering.{number_below, same_number_same_place}
use Rattle.interleave_map.proofs.Onto.{onto}

-- places of lines that are apart are all places
pub all_places : (g : Geometry) (place_of : ℕ → Place)
    → ((line : ℕ) → line < lines_of g → LiesIn g (place_of line))
    → ((line other : ℕ) → line < lines_of g → other < lines_of g → place_of line ≡ place_of other → line ≡ other)
    → (place : Place) → LiesIn g place → (line : ℕ) × (line < lines_of g) × (place_of line ≡ place)
all_places g place_of lies_in apart place lies =
    let at = onto (lines_of g) (λ line. line_by_lines g (place_of line))
    (λ line below. number_below g (place_of line) (lies_in line below))
    (λ a b a_below b_below same. apart a b a_below b_below (same_number_same_place g (place_of a) (place_of b) (lies_in a a_below) (lies_in b b_below) same))
    (line_by_lines g place) (number_below g place lies) in
    (at.0, at.1, same_number_same_place g (place_of at.0) place (lies_in at.0 at.1) lies at.2)

module _ {g : Geometry} {split : ℕ → Place} {join : Place → ℕ} (inverse : IsInverse g split join) where
  apart : (line other : ℕ) → line < lines_of g → other < lines_of g → split line ≡ split other → line ≡ other
  apart line other below other_below same = sym (inverse.back line below) ∙ (ap join same ∙ inverse.back other other_below)

  line_of : (place : Place) → LiesIn g place → (line : ℕ) × (line < lines_of g) × (split line ≡ place)
  line_of = all_places g split inverse.lies_in apart

  -- what a place gives back is a line, and that line's place is the place
  pub second_way : (place : Place) → LiesIn g place → (join place < lines_of g) × (split (join place) ≡ place)
  second_way place lies =
      let at = line_of place lies in
      let same : join place ≡ at.0 = ap join (sym at.2) ∙ inverse.back at.0 at.1 in
      (subst (λ line. line < lines_of g) (sym same) at.1, ap split same ∙ at.2)

  pub functions_interleave : IsInterleaving g split
  functions_interleave = record { lies_in = inverse.lies_in; apart = apart; onto = line_of }

module _ {g : Geometry} {place_of : ℕ → Place} {can_split : ℕ → Type 0} {splits : ℕ → Place → Type 0} {can_join : Place → Type 0} {joins : Place → ℕ → Type 0} (map : AreInverse g place_of can_split splits can_join joins) where
  places_apart : (line other : ℕ) → line < lines_of g → other < lines_of g → place_of line ≡ place_of other → line ≡ other
  places_apart line other below other_below same = map.back other line other_below (subst (λ place. joins place line) same (map.line line below))

  pub closures_interleave : IsInterleaving g place_of
  closures_interleave = record { lies_in = map.lies_in; apart = places_apart; onto = all_places g place_of map.lies_in places_apart }

  -- each place can be joined
  pub joinable : (place : Place) → LiesIn g place → can_join place
  joinable place lies =
      let at = all_places g place_of map.lies_in places_apart place lies in
      subst can_join at.2 (map.callable_back at.0 at.1)

  -- what a place gives back is the line that lies there
  pub line_back : (place : Place) (line : ℕ) → LiesIn g place → joins place line → (line < lines_of g) × (place_of line ≡ place)
  line_back place line lies join =
      let at = all_places g place_of map.lies_in places_apart place lies in
      let same : line ≡ at.0 = map.back at.0 line at.1 (subst (λ place. joins place line) (sym at.2) join) in
      (subst (λ line. line < lines_of g) (sym same) at.1, ap place_of same ∙ at.2)
