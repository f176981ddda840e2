-- The lane in which a command stands.
use Rattle.std.specs.Prelude.{ℕ}
use Rattle.ddr4_timing.specs.declared.command.Command.{Command}
use Rattle.ddr4_timing.specs.declared.command.Command.TheVariants.{Act, Rd, Wr, Pre, PreAll, Ref, Sre}
use Rattle.ddr4_timing.specs.declared.place.BankAddress.{BankAddress}
use Rattle.command_trace.specs.declared.entry.ChannelCommand.{ChannelCommand}
use Rattle.schedule_drawing.specs.declared.lanes.Lane.{Lane}
use Rattle.schedule_drawing.specs.declared.lanes.LaneKind.TheVariants.{Rank, Bank, Bus}

abbrev pub bank_lane : ℕ → BankAddress → Lane
bank_lane channel at = record { channel = channel; kind = Bank at }

abbrev pub rank_lane : ℕ → ℕ → Lane
rank_lane channel rank = record { channel = channel; kind = Rank rank }

abbrev pub bus_lane : ℕ → Lane
bus_lane channel = record { channel = channel; kind = Bus }

-- that of its bank, or of its rank where it names no bank
abbrev pub lane_for : ℕ → Command → Lane
lane_for channel (Act at row) = bank_lane channel at
lane_for channel (Rd at column) = bank_lane channel at
lane_for channel (Wr at column) = bank_lane channel at
lane_for channel (Pre at) = bank_lane channel at
lane_for channel (PreAll rank) = rank_lane channel rank
lane_for channel (Ref rank) = rank_lane channel rank
lane_for channel (Sre rank) = rank_lane channel rank

abbrev pub lane_of : ChannelCommand → Lane
lane_of entry = lane_for entry.channel entry.command.cmd
