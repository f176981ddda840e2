-- The channels of a memory's lines.
use Rattle.std.specs.Prelude.{ℕ, List, map}
use Rattle.std.specs.List.{range_with_len}
use Rattle.channel_port.specs.Shape.{Shape}

-- the channel of each line, in line order
abbrev pub channels_of_lines : Shape → List ℕ
channels_of_lines shape = map shape.channel_of (range_with_len 0 shape.lines)
