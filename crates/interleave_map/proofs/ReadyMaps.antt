-- The ready-made maps are lawful.
use Rattle.std.proofs.Common.{◌≡◌, ℕ, ◌<◌, ap, sym, subst, ◌∙◌}
use Rattle.ddr4_timing.specs.declared.place.Place.{Place}
use Rattle.ddr4_timing.specs.Limits.{lines_of}
use Rattle.ddr4_timing.specs.Places.{LiesIn}
use Rattle.ddr4_timing.specs.declared.timing.Checked.{Checked}
use Rattle.interleave_map.specs.declared.ready.Interleaving.{Interleaving}
use Rattle.interleave_map.specs.declared.ready.Interleaving.TheVariants.{Lines, Xor}
use Rattle.interleave_map.specs.Ready.{place_by, line_by}
use Rattle.interleave_map.specs.Inverse.{IsInverse, IsInterleaving}
use Rattle.interleave_map.proofs.Counting.{functions_interleave, second_way}
use Rattle.interleave_map.proofs.Exchange.{xor_is_inverse}
use Rattle.interleave_map.proofs.Numbering.{lines_are_inverse}

pub ready_is_inverse : (checked : Checked) (interleaving : Interleaving) → IsInverse checked.geometry (place_by interleaving checked.geometry) (line_by interleaving checked.geometry)
ready_is_inverse checked Lines = lines_are_inverse checked.geometry checked.is_small
ready_is_inverse checked Xor = xor_is_inverse checked.geometry checked.is_small checked.is_geometry

pub ready_interleaves : (checked : Checked) (interleaving : Interleaving) → IsInterleaving checked.geometry (place_by interleaving checked.geometry)
ready_interleaves checked interleaving = functions_interleave (ready_is_inverse checked interleaving)

-- what a place gives back is the line that lies there
pub ready_back : (checked : Checked) (interleaving : Interleaving) (place : Place) (line : ℕ) → LiesIn checked.geometry place → line ≡ line_by interleaving checked.geometry place
    → (line < lines_of checked.geometry) × (place_by interleaving checked.geometry line ≡ place)
ready_back checked interleaving place line lies same =
    let back = second_way (ready_is_inverse checked interleaving) place lies in
    (subst (λ line. line < lines_of checked.geometry) (sym same) back.0, ap (place_by interleaving checked.geometry) same ∙ back.1)
