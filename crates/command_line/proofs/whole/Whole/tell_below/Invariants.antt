use Rattle.std.proofs.Common.{◌≡◌, ◌<◌, ◌≤◌, ℕ, List, get_or, length}
use Rattle.nv_script.specs.declared.answer.Answer.{Answer}
use Rattle.script_runner.specs.Ended.{Lives}
use Rattle.command_line.specs.Whole.{IsSoFar}
use Rattle.command_line.proofs.whole.Whole.tell_below.Given as goal

abbrev pub invariant-loop-at : goal.invariant-loop-at
invariant-loop-at l = record {
  told : get_or l.self.told.items l.channel 0 ≡ l.at;
  begun : l.end < get_or l.fn.self.told.items l.channel 0 → l.at ≡ get_or l.fn.self.told.items l.channel 0;
  so_far : (lives : Lives) (given : List Answer) → IsSoFar lives given l.fn.self → IsSoFar lives given l.self;
  sizes : length l.self.told.items ≡ length l.fn.self.told.items;
  others : (other : ℕ) → get_or l.fn.self.told.items other 0 ≤ get_or l.self.told.items other 0;
  channels : l.self.channels ≡ l.fn.self.channels;
}
