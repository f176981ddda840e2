use Rattle.std.proofs.Common.{◌^◌, ◌<◌}
use Rattle.command_trace.proofs.Digits.{HasCome}
use Rattle.command_trace.proofs.row.number.Given as goal

abbrev pub invariant-loop-byte : goal.invariant-loop-byte
invariant-loop-byte l = HasCome l.field l.byte-index l.value × (l.value < 10 ^ l.byte-index)
