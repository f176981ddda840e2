-- The lanes of a picture.
use Rattle.std.specs.Prelude.{◌≡◌, ◌⊎◌, ℕ, ◌==◌, ◌&&◌, Bool, false, List, Contains}
use Rattle.schedule_drawing.specs.declared.lanes.Lane.{Lane}
use Rattle.schedule_drawing.specs.declared.lanes.LaneKind.{LaneKind}
use Rattle.schedule_drawing.specs.declared.lanes.LaneKind.TheVariants.{Rank, Bank, Bus}
use Rattle.schedule_drawing.specs.declared.shapes.Shape.{Shape}
use Rattle.schedule_drawing.specs.Drawing.{shape_lane}
use Rattle.schedule_drawing.specs.Lanes.{bus_lane, rank_lane}

-- the rank of a bank's lane
abbrev pub IsRankOver : ℕ → LaneKind → Lane → Type 0
IsRankOver channel (Bank at) it = it ≡ rank_lane channel at.rank
IsRankOver channel (Rank rank) it = ⊥
IsRankOver channel Bus it = ⊥

-- a lane that is shown for another: that one, its channel's bus, or its bank's rank
pub record IsShownFor (lane it : Lane) : Type 0 where
  pub is : (it ≡ lane) ⊎ ((it ≡ bus_lane lane.channel) ⊎ IsRankOver lane.channel lane.kind it)

-- each of the lanes is shown for a shape
abbrev pub AreNeeded : List Lane → List Shape → Type 0
AreNeeded lanes shapes = (it : Lane) → Contains lanes it → (shape : Shape) × Contains shapes shape × IsShownFor (shape_lane shape) it

-- a rank's lane, or one of its banks'
abbrev pub is_kind_of : ℕ → LaneKind → Bool
is_kind_of rank (Rank other) = other == rank
is_kind_of rank (Bank at) = at.rank == rank
is_kind_of rank Bus = false

abbrev pub is_of_rank : ℕ → ℕ → Lane → Bool
is_of_rank channel rank lane = lane.channel == channel && is_kind_of rank lane.kind
