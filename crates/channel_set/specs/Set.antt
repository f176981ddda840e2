-- What contracts see of the channels of a memory.
use Rattle.std.specs.Prelude.{◌≡◌, ℕ, List, slice_get, Option, Some}
use Rattle.ddr4_timing.specs.declared.command.Stamped.{Stamped}
use Rattle.ddr4_timing.specs.declared.place.Place.{Place}
use Rattle.channel_port.specs.declared.port.ChannelPort.{Ghosts}
use Rattle.channel_port.specs.Shape.{Shape}
use Rattle.channel_port.specs.declared.stage.Stage.{Stage}
use Rattle.channel_port.specs.Waits.{Waits}
use Rattle.channel_set.specs.declared.set.ChannelSet.{ChannelSet}
use Rattle.channel_set.specs.Ports.{places_of, shape_with, waits_in, array_of}

-- What doesn't change; what waits; the number from which on writes stay out of the arrays, if there is one; and the lines of the
-- arrays, in line order.
pub record ChannelsView : Type 0 where
  pub shape : Shape
  pub waits : Waits
  pub hold : Option ℕ
  pub array : List (List ℕ)

module _ {K : Type 0} (L : Ghosts K) where
  abbrev pub shape_of : ChannelSet K L → Shape
  shape_of channels = shape_with L channels.terms channels.costs channels.ports.items

  -- where a line lies
  abbrev pub place_in : ChannelSet K L → ℕ → Place
  place_in channels = places_of L channels.ports.items

  abbrev pub view_of : ChannelSet K L → ChannelsView
  view_of channels = record {
    shape = shape_of channels;
    waits = waits_in L channels.ports.items;
    hold = channels.terms.hold;
    array = array_of L channels.ports.items channels.terms.lines;
  }

  -- each channel is at this stage
  abbrev pub AreAt : Stage → ChannelSet K L → Type 0
  AreAt stage channels = (number : ℕ) (port : K) → slice_get channels.ports.items number ≡ Some port → (L.view port).stage ≡ stage

  -- the command that a channel has to issue next, with its clock, or none
  abbrev pub NextCommand : ChannelSet K L → ℕ → Option Stamped → Type 0
  NextCommand channels number next = (port : K) → slice_get channels.ports.items number ≡ Some port → L.next_command port next
