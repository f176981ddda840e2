use Rattle.std.proofs.Common.{List, subst, sym, take}
use Rattle.std.proofs.lemmas.List.{take_more}
use Rattle.command_trace.specs.Following.{FollowsCommands}
use Rattle.command_trace.specs.declared.entry.Located.{Located}
use Rattle.schedule_drawing.proofs.stood_for.first_broken.Goals as goal

pub loop-i-preserved : goal.loop-i-preserved
loop-i-preserved c =
    subst (λ (l : List Located). FollowsCommands c.args.rules.now c.take-lawful.new.self l) (sym (take_more c.args.own.now c.loop-i.i _ c.loop-i-test.true))
    (c.take-lawful.ensures.follows (take c.loop-i.i c.args.own.now) c.loop-i.invariant)
