-- A host's line, and its place.
use Rattle.std.specs.Prelude.{◌≡◌, ℕ, ◌<◌}
use Rattle.ddr4_timing.specs.Limits.{lines_of}
use Rattle.ddr4_timing.specs.Places.{LiesIn}
use Rattle.ddr4_timing.specs.declared.place.Place.{Place}
use Rattle.chan_core.specs.State.{ChannelState}

-- a place of this channel
pub record IsPlaceOn (s : ChannelState) (place : Place) : Type 0 where
  pub lies_in : LiesIn s.checked.geometry place
  pub here : place.channel ≡ s.channel

-- the line lies on this channel
pub record LiesOn (place_of : ℕ → Place) (s : ChannelState) (line : ℕ) : Type 0 where
  pub below : line < lines_of s.checked.geometry
  pub here : (place_of line).channel ≡ s.channel
