-- What is drawn of a list of commands.
use Rattle.std.specs.Prelude.{ℕ, ◌+◌, ◌-◌, ◌^◌, ◌==◌, ◌&&◌, Bool, true, false, List, [], ◌∷◌, ◌++◌, Option, Some, None, All, Contains, find, min}
use Rattle.std.specs.Option.{option_to_list}
use Rattle.ddr4_timing.specs.Places.{is_bank}
use Rattle.ddr4_timing.specs.declared.command.Command.{Command}
use Rattle.ddr4_timing.specs.declared.command.Command.TheVariants.{Act, Rd, Wr, Pre, PreAll, Ref}
use Rattle.ddr4_timing.specs.declared.place.BankAddress.{BankAddress}
use Rattle.ddr4_timing.specs.declared.timing.Timing.{Timing}
use Rattle.command_trace.specs.declared.entry.ChannelCommand.{ChannelCommand}
use Rattle.schedule_drawing.specs.declared.lanes.Lane.{Lane}
use Rattle.schedule_drawing.specs.declared.shapes.Shape.{Shape}
use Rattle.schedule_drawing.specs.declared.shapes.Shape.TheVariants as shape
use Rattle.schedule_drawing.specs.Lanes.{bank_lane, rank_lane, bus_lane, lane_of}

-- the lane in which a shape stands
abbrev pub shape_lane : Shape → Lane
shape_lane (shape.Mark lane clock command) = lane
shape_lane (shape.Row lane row from to is_closed) = lane
shape_lane (shape.Data lane from to command) = lane
shape_lane (shape.Refresh lane from to) = lane

-- the clock at which a shape begins
abbrev pub shape_from : Shape → ℕ
shape_from (shape.Mark lane clock command) = clock
shape_from (shape.Row lane row from to is_closed) = from
shape_from (shape.Data lane from to command) = from
shape_from (shape.Refresh lane from to) = from

-- the clock at which a shape ends
abbrev pub shape_to : Shape → ℕ
shape_to (shape.Mark lane clock command) = clock
shape_to (shape.Row lane row from to is_closed) = to
shape_to (shape.Data lane from to command) = to
shape_to (shape.Refresh lane from to) = to

-- so many clocks later, at most at the last clock of 64 bits
abbrev pub later : ℕ → ℕ → ℕ
later clock clocks = min (clock + clocks) (2 ^ 64 - 1)

-- the command, at its clock
abbrev pub mark_of : ChannelCommand → Shape
mark_of entry = shape.Mark (lane_of entry) entry.command.clock entry.command.cmd

abbrev pub is_mark : Shape → Bool
is_mark (shape.Mark lane clock command) = true
is_mark _ = false

-- the command closes a bank in which a row is open: another ACT does so too, in a list that isn't lawful
abbrev pub closes_bank : BankAddress → Command → Bool
closes_bank bank (Act at row) = is_bank at bank
closes_bank bank (Pre at) = is_bank at bank
closes_bank bank (PreAll rank) = rank == bank.rank
closes_bank bank _ = false

abbrev pub closes : ℕ → BankAddress → ChannelCommand → Bool
closes channel bank entry = entry.channel == channel && closes_bank bank entry.command.cmd

-- the bar of a row, by the command that closes it, or to the end
abbrev pub row_bar : Lane → ℕ → ℕ → ℕ → Option ChannelCommand → Shape
row_bar lane row from end (Some close) = shape.Row lane row from close.command.clock true
row_bar lane row from end None = shape.Row lane row from end false

-- the data of a command, which take four clocks
abbrev pub burst : ℕ → ℕ → Command → Shape
burst channel from command = shape.Data (bus_lane channel) from (later from 4) command

-- what is drawn from a command on, of those behind it and the end of the list
abbrev pub span_for : Timing → ℕ → ℕ → ℕ → List ChannelCommand → Command → Option Shape
span_for t end channel clock behind (Act at row) =
    Some (row_bar (bank_lane channel at) row clock end (find (closes channel at) behind))
span_for t end channel clock behind (Rd at column) =
    Some (burst channel (later clock t.cl) (Rd at column))
span_for t end channel clock behind (Wr at column) =
    Some (burst channel (later clock t.cwl) (Wr at column))
span_for t end channel clock behind (Ref rank) =
    Some (shape.Refresh (rank_lane channel rank) clock (later clock t.t_rfc))
span_for t end channel clock behind _ = None

abbrev pub span_of : Timing → ℕ → ChannelCommand → List ChannelCommand → Option Shape
span_of t end entry behind = span_for t end entry.channel entry.command.clock behind entry.command.cmd

-- each command in its turn, and what is drawn from it on
abbrev pub drawn : Timing → ℕ → List ChannelCommand → List Shape
drawn t end [] = []
drawn t end (entry ∷ behind) = mark_of entry ∷ (option_to_list (span_of t end entry behind) ++ drawn t end behind)

-- each shape's lane is among the lanes
abbrev pub AreShown : List Lane → List Shape → Type 0
AreShown lanes shapes = All (λ shape. Contains lanes (shape_lane shape)) shapes
