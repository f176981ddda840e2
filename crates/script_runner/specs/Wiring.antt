-- What opens the modules of a profile.
use Rattle.std.specs.Prelude.{◌≡◌}
use Rattle.ddr4_timing.specs.declared.timing.Geometry.{Geometry}
use Rattle.energy_budget.specs.declared.costs.Costs.{Costs}
use Rattle.interleave_map.specs.declared.ready.Interleaving.{Interleaving}
use Rattle.interleave_map.specs.declared.ready.Interleaving.TheVariants.{Lines, Xor}
use Rattle.interleave_map.specs.declared.line_map.LineMap.{Ghosts}
use Rattle.channel_port.specs.Shape.{Shape}
use Rattle.ddr4_port.specs.Memory.{shape_over}
use Rattle.ddr4_port.specs.Port.{HasMap}
use Rattle.nv_profile.specs.declared.profile.Profile.{Profile}

-- a lawful map of this geometry
abbrev pub IsMapOf : {M : Type 0} → Ghosts M → Geometry → M → Type 0
IsMapOf L g map = HasMap (L.is_lawful map) (L.geometry_of map) g

-- both maps, the profile, and what a closing save costs by it
pub record WiredMaps (M : Type 0) : Type 0 where
  pub lines_map : M
  pub xor_map : M
  pub profile : Profile
  pub costs : Costs

-- they were made of this profile, over these maps
pub record IsWiredFor {M : Type 0} (lines_map xor_map : M) (profile : Profile) (w : WiredMaps M) : Type 0 where
  pub lines_map_is : w.lines_map ≡ lines_map
  pub xor_map_is : w.xor_map ≡ xor_map
  pub profile_is : w.profile ≡ profile
  pub numbers : w.costs.numbers ≡ profile.costs
  pub retries : w.costs.retries ≡ profile.sizes.retries

-- the map of an interleaving
abbrev pub map_in : {M : Type 0} → WiredMaps M → Interleaving → M
map_in w Lines = w.lines_map
map_in w Xor = w.xor_map

-- what doesn't change of the channels over it
abbrev pub wired_shape : {M : Type 0} → Ghosts M → WiredMaps M → Interleaving → Shape
wired_shape L w map = shape_over (L.place_of (map_in w map)) w.profile.checked w.profile.sizes.depth w.profile.sizes.reads w.costs
