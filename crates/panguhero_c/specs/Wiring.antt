-- What opens the modules of a profile.
use Rattle.std.specs.Prelude.{◌≡◌}
use Rattle.energy_budget.specs.Costs.{AreReckonedFor}
use Rattle.energy_budget.specs.declared.costs.Costs.{Costs}
use Rattle.interleave_map.specs.declared.ready.Interleaving.{Interleaving}
use Rattle.interleave_map.specs.declared.ready.ReadyMap.{ReadyMap}
use Rattle.interleave_map.specs.Ready.{place_by}
use Rattle.channel_port.specs.Shape.{Shape}
use Rattle.ddr4_port.specs.Memory.{shape_over}
use Rattle.nv_machine.specs.State.{Setup}
use Rattle.nv_profile.specs.declared.profile.Profile.{Profile}

-- a profile, its map, and what a closing save costs by it
pub record WiredProfile : Type 0 where
  pub map : ReadyMap
  pub profile : Profile
  pub costs : Costs

-- what doesn't change of the channels, whichever interleaving is asked for
abbrev pub wired_shape : WiredProfile → Interleaving → Shape
wired_shape w interleaving = shape_over (place_by w.map.interleaving w.map.checked.geometry) w.profile.checked w.profile.sizes.depth w.profile.sizes.reads w.costs

-- channels of a profile over its own map, with the costs that are reckoned for it, and its room for writes
pub record IsSetUpFor (profile : Profile) (setup : Setup) : Type 0 where
  pub costs : Costs
  pub reckoned : AreReckonedFor profile.checked costs
  pub is : setup ≡ record {
    shape = shape_over (place_by profile.map profile.checked.geometry) profile.checked profile.sizes.depth profile.sizes.reads costs;
    trail = profile.sizes.trail;
  }
