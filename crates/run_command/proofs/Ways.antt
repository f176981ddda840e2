-- Closures that do what a ready-made map does are a map.
use Rattle.std.proofs.Common.{◌≡◌, ℕ, ◌<◌}
use Rattle.ddr4_timing.specs.Limits.{lines_of}
use Rattle.ddr4_timing.specs.Places.{LiesIn}
use Rattle.ddr4_timing.specs.declared.place.Place.{Place}
use Rattle.ddr4_timing.specs.declared.timing.Checked.{Checked}
use Rattle.interleave_map.specs.declared.ready.Interleaving.{Interleaving}
use Rattle.interleave_map.specs.Inverse.{AreInverse, IsInterleaving}
use Rattle.interleave_map.specs.Ready.{place_by}
use Rattle.interleave_map.proofs.Closures.{Computes}
use Rattle.interleave_map.proofs.ReadyMaps.{ready_interleaves}

-- a closure that gives the line back of each place
pub record GivesBack (checked : Checked) (interleaving : Interleaving) (can_join : Place → Type 0) (joins : Place → ℕ → Type 0) : Type 0 where
  pub callable : (place : Place) → LiesIn checked.geometry place → can_join place
  pub value : (line : ℕ) → line < lines_of checked.geometry → joins (place_by interleaving checked.geometry line) line
  pub below : (place : Place) (line : ℕ) → LiesIn checked.geometry place → joins place line → line < lines_of checked.geometry
  pub back : (place : Place) (line : ℕ) → LiesIn checked.geometry place → joins place line → place_by interleaving checked.geometry line ≡ place

module _ {can_split : ℕ → Type 0} {splits : ℕ → Place → Type 0} {can_join : Place → Type 0} {joins : Place → ℕ → Type 0} where
  pub ready_ways : (checked : Checked) (interleaving : Interleaving) → let g = checked.geometry in
      Computes (λ line. line < lines_of g) can_split splits (place_by interleaving g) → GivesBack checked interleaving can_join joins
      → AreInverse g (place_by interleaving g) can_split splits can_join joins
  ready_ways checked interleaving splitting joining =
      let g = checked.geometry in let it : IsInterleaving g (place_by interleaving g) = ready_interleaves checked interleaving in
      record {
        callable = splitting.callable;
        place = splitting.only;
        lies_in = it.lies_in;
        callable_back = λ line below. joining.callable (place_by interleaving g line) (it.lies_in line below);
        line = joining.value;
        back = λ line back below joined.
            let lies = it.lies_in line below in let place = place_by interleaving g line in
            it.apart back line (joining.below place back lies joined) below (joining.back place back lies joined);
      }
