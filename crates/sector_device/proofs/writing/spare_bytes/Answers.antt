use Rattle.std.proofs.Common.{◌∙◌, List, ◌++◌, [], ◌∷◌, ℕ, ap₂, refl}
use Rattle.sector_device.proofs.Found.{spared}
use Rattle.sector_device.proofs.writing.spare_bytes.Goals as goal

pub returns : goal.returns
returns c =
    spared c.copy_from_slice.new.self (0 ∷ 0 ∷ 0 ∷ 0 ∷ 0 ∷ 0 ∷ 0 ∷ 0 ∷ []) c.copy_from_slice-2.new.self c.copy_from_slice.ensures.len refl
    ∙ ap₂ (λ (u v : List ℕ). u ++ v) c.copy_from_slice.ensures.after (c.copy_from_slice-2.ensures.after ∙ c.to_le_bytes.ensures)
