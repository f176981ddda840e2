use Rattle.command_trace.proofs.Digits.{HasCome}
use Rattle.command_trace.proofs.row.long_number.Given as goal

abbrev pub invariant-loop-byte : goal.invariant-loop-byte
invariant-loop-byte l = HasCome l.field l.byte-index l.value
