use Rattle.std.proofs.Common.{◌≡◌, ◌≤◌}
use Rattle.std.specs.Prelude.{map, vec_capacity, vec_len}
use Rattle.std.specs.List.{range_with_len}
use Rattle.channel_set.specs.Set.{shape_of}
use Rattle.channel_locks.proofs.line_channels.LineChannels.of.Given as goal

abbrev pub invariant-loop-line : goal.invariant-loop-line
invariant-loop-line g l =
    record {
      made : l.channels.items ≡ map (shape_of g.K.ChannelPort l.fn.set).channel_of (range_with_len 0 l.line);
      length : vec_len l.channels ≡ l.line;
      room : (shape_of g.K.ChannelPort l.fn.set).lines ≤ vec_capacity l.channels;
    }
