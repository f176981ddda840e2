-- Ports that begin with a memory.
use Rattle.std.specs.Prelude.{◌≡◌, ℕ, ◌<◌, List, [], Some, length, slice_get}
use Rattle.line_memory.specs.Memory.{line_of}
use Rattle.ddr4_timing.specs.Limits.{lines_of}
use Rattle.ddr4_timing.specs.declared.place.Place.{Place}
use Rattle.ddr4_timing.specs.declared.timing.Checked.{Checked}
use Rattle.interleave_map.specs.Cells.{cells_of}
use Rattle.energy_budget.specs.declared.costs.Costs.{Costs}
use Rattle.chan_core.specs.Mapped.{LiesOn}
use Rattle.chan_core.specs.State.{ChannelState, new_channel, stored_at}
use Rattle.channel_port.specs.Shape.{Shape}
use Rattle.channel_port.specs.declared.stage.Stage.TheVariants.{OnMains}
use Rattle.ddr4_port.specs.Carrying.{Carries}
use Rattle.ddr4_port.specs.Port.{PortState, listed_place, places_by}

-- what doesn't change of the channels of a profile over these places
abbrev pub shape_over : (ℕ → Place) → Checked → ℕ → ℕ → Costs → Shape
shape_over place_of checked depth reads costs = record {
  lines = lines_of checked.geometry;
  channels = checked.geometry.channels;
  channel_of = λ line. (listed_place (places_by place_of checked.geometry) line).channel;
  depth = depth;
  reads = reads;
  costs = costs;
}

-- before any command, whatever its lines are
abbrev pub IsFresh : Checked → ℕ → ℕ → ℕ → ChannelState → Type 0
IsFresh checked number depth reads s = s ≡ new_channel checked number s.array depth reads

-- A port of this number, on mains, before any command, whatever its lines are.
pub record IsUnused (place_of : ℕ → Place) (checked : Checked) (depth reads number : ℕ) (port : PortState) : Type 0 where
  pub fresh : IsFresh checked number depth reads port.channel
  pub stage : port.stage ≡ OnMains
  pub places : port.places ≡ places_by place_of checked.geometry
  pub size : length port.channel.array ≡ cells_of checked.geometry

-- One for each channel of the geometry, from number 0 on.
pub record AreUnused (place_of : ℕ → Place) (checked : Checked) (depth reads : ℕ) (ports : List PortState) : Type 0 where
  pub count : length ports ≡ checked.geometry.channels
  pub each : (number : ℕ) (port : PortState) → slice_get ports number ≡ Some port → IsUnused place_of checked depth reads number port

-- A port of this number, on mains, that carries the memory and no write.
pub record BeginsWith (place_of : ℕ → Place) (checked : Checked) (memory : List (List ℕ)) (depth reads number : ℕ) (port : PortState) : Type 0 where
  pub fresh : IsFresh checked number depth reads port.channel
  pub stage : port.stage ≡ OnMains
  pub places : port.places ≡ places_by place_of checked.geometry
  pub carries : Carries (listed_place port.places) port.channel memory []

-- its first lines, those below n, are those of this memory
abbrev pub HoldsFirst : (ℕ → Place) → List (List ℕ) → ℕ → ChannelState → Type 0
HoldsFirst place_of memory n s = (line : ℕ) → line < n → LiesOn place_of s line → stored_at s (place_of line) ≡ line_of memory line
