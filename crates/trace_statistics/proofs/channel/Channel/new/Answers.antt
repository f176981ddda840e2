use Rattle.std.proofs.Common.{refl}
use Rattle.std.proofs.lemmas.List.{get_or-replicate}
use Rattle.trace_statistics.specs.Numbers.{last_clock, latest}
use Rattle.trace_statistics.proofs.channel.Channel.new.Goals as goal

pub returns : goal.returns
unfolding latest last_clock
returns c = record {
  ranks = λ rank none below. rw (get_or-replicate 8 rank c.new.result none below) (c.new.ensures rank);
  total = c.new-2.ensures (λ bank. _);
  shared = c.new-3.ensures;
  last = refl;
}
