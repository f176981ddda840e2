use Rattle.std.proofs.Common.{◌≡◌, ◌≤◌, length, vec_capacity}
use Rattle.chan_core.proofs.Running.{HasRun}
use Rattle.chan_core.proofs.channel.Channel.work_many.Given as goal

abbrev pub invariant-loop-turn : goal.invariant-loop-turn
invariant-loop-turn l = record {
  ran : HasRun l.fn.self l.commands.items l.self;
  count : length l.commands.items ≡ l._turn;
  room : l.n ≤ vec_capacity l.commands;
}
