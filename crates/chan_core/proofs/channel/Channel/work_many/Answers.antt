use Rattle.std.proofs.Common.{◌+◌, ℕ, [], ◌∷◌, length, refl, ap, ◌∙◌, arith, length-append, rules}
use Rattle.chan_core.proofs.Common.{ChannelState}
use Rattle.chan_core.proofs.Running.{run-more}
use Rattle.chan_core.proofs.channel.Channel.work_many.Goals as goal

pub loop-turn-preserved : goal.loop-turn-preserved
loop-turn-preserved c =
    let i = c.loop-turn.invariant in
    let items = c.push_reserved.ensures.items in
    let e = c.in-Some.ensures in
    record {
      ran = rw items (run-more c.args.self.now c.loop-turn.self c.work.new.self c.loop-turn.commands.items c.in-Some.done i.ran e.issues e.memory e.below e.rest);
      count = ap length items ∙ length-append c.loop-turn.commands.items (c.in-Some.done.command ∷ []) ∙ ap (λ (n : ℕ). n + 1) i.count;
      room = omega (arith, i.room, c.push_reserved.ensures.capacity);
    }

pub returns-in-None-clause-ended : goal.returns-in-None-clause-ended
returns-in-None-clause-ended c less not =
    rw c.in-None.ensures.stays ((c.in-None.ensures.none (rw (ap (λ (s : ChannelState). s.phase) c.loop-turn.invariant.ran.rest) not)).0 refl)

pub returns-clause-ended : goal.returns-clause-ended
returns-clause-ended c = search rules
