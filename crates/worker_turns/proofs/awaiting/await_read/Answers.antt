use Rattle.std.proofs.Common.{suc, subst}
use Rattle.channel_port.specs.declared.answers.Collected.{Collected}
use Rattle.worker_turns.proofs.awaiting.await_read.Goals as goal

pub loop-preserved : goal.loop-preserved
loop-preserved g c =
    let before = c.loop.invariant in
    let Looks : Collected → Type 0 = λ answer. g.L.Lookout.looks c.args.ticket answer c.loop.lookout c.look.new.self in
    (suc before.0, (c.loop.lookout, before.1, record { looked = c.look.new.self; looks = subst Looks c.in-Pending.is c.look.ensures; waits = c.wait.ensures }))
