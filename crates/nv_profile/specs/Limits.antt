-- The limits of a module's sizes.
use Rattle.std.specs.Prelude.{◌≤◌}
use Rattle.nv_profile.specs.declared.sizes.ModuleSizes.{ModuleSizes}

pub record AreSizes (sizes : ModuleSizes) : Type 0 where
  pub depth : (1 ≤ sizes.depth) × (sizes.depth ≤ 64)
  pub reads : (1 ≤ sizes.reads) × (sizes.reads ≤ 64)
  pub trail : (1 ≤ sizes.trail) × (sizes.trail ≤ 65536)
  pub notices : (1 ≤ sizes.notices) × (sizes.notices ≤ 4096)
  pub retries : sizes.retries ≤ 16
