use Rattle.std.proofs.Common.{◌≡◌, ◌<◌, ◌≤◌, ℕ, List, get_or, length}
use Rattle.nv_script.specs.declared.answer.Answer.{Answer}
use Rattle.script_runner.specs.Ended.{Lives}
use Rattle.command_line.specs.Whole.{IsSoFar, channel_in}
use Rattle.command_line.proofs.whole.Whole.tell_rest.Given as goal

abbrev pub invariant-loop-channel : goal.invariant-loop-channel
invariant-loop-channel l = record {
  so_far : (lives : Lives) (given : List Answer) → IsSoFar lives given l.fn.self → IsSoFar lives given l.self;
  sizes : length l.self.told.items ≡ length l.self.channels.now;
  channels : l.self.channels.now ≡ l.fn.self.channels.now;
  all : (below : ℕ) → below < l.channel → length (channel_in l.self below) ≤ get_or l.self.told.items below 0;
}
