use Rattle.std.proofs.Common.{take}
use Rattle.command_trace.specs.Following.{FollowsCommands}
use Rattle.schedule_drawing.proofs.stood_for.first_broken.Given as goal

abbrev pub invariant-loop-i : goal.invariant-loop-i
invariant-loop-i l = FollowsCommands l.rules l.front (take l.i l.own)
