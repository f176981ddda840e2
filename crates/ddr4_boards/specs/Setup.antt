-- What doesn't change in a life of a profile.
use Rattle.std.specs.Prelude.{◌≡◌, ℕ}
use Rattle.ddr4_timing.specs.declared.place.Place.{Place}
use Rattle.energy_budget.specs.Costs.{AreReckonedFor}
use Rattle.nv_profile.specs.declared.profile.Profile.{Profile}
use Rattle.nv_machine.specs.State.{Setup}
use Rattle.ddr4_port.specs.Memory.{shape_over}

-- the channels of the profile over these places, with its room for writes and reads, and for the writes of the life; what a
-- closing save costs is reckoned by the profile's numbers
pub record IsSetupOf (place_of : ℕ → Place) (profile : Profile) (setup : Setup) : Type 0 where
  pub is : setup ≡ record {
    shape = shape_over place_of profile.checked profile.sizes.depth profile.sizes.reads setup.shape.costs;
    trail = profile.sizes.trail;
  }
  pub numbers : setup.shape.costs.numbers ≡ profile.costs
  pub retries : setup.shape.costs.retries ≡ profile.sizes.retries
  pub reckoned : AreReckonedFor profile.checked setup.shape.costs
