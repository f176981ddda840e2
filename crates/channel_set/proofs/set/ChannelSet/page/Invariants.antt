use Rattle.channel_set.proofs.Common.{◌≡◌, ℕ, ◌+◌, ◌*◌, ◌<◌, [], length, slice_index_or, stored_in}
use Rattle.channel_set.proofs.set.ChannelSet.page.Given as goal

abbrev pub invariant-loop-index : goal.invariant-loop-index
invariant-loop-index g l = record {
  size : length l.bytes-items ≡ 64;
  lines : (k : ℕ) → k < l.index → slice_index_or l.bytes-items k [] ≡ stored_in g.K.ChannelPort l.self.ports.items (64 * l.page + k);
}
