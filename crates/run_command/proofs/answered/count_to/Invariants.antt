use Rattle.std.proofs.Common.{◌≡◌, ◌≤◌, ◌+◌, drop}
use Rattle.std.specs.List.{prefix_len}
use Rattle.script_runner.specs.Story.{is_busy, turns_of}
use Rattle.run_command.proofs.answered.count_to.Given as goal

abbrev pub invariant-loop-index : goal.invariant-loop-index
invariant-loop-index l = record {
  busy : prefix_len is_busy l.answers ≡ l.index + prefix_len is_busy (drop l.index l.answers);
  turns : l.index ≤ turns_of l.line;
}
