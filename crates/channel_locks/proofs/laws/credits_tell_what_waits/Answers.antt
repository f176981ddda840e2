use Rattle.std.proofs.Common.{arith, ◌<◌, ◌≤◌, ◌≡◌, true}
use Rattle.std.proofs.lemmas.List.Elements.{All-weaker}
use Rattle.channel_log.specs.Log.{log_tells}
use Rattle.channel_port.specs.Waits.{IsPending}
use Rattle.channel_locks.specs.Queue.{waits_no_more}
use Rattle.channel_locks.specs.Stands.{queue_of}
use Rattle.channel_locks.proofs.Counting.{all_above, gone_below, held_count}
use Rattle.channel_locks.proofs.laws.credits_tell_what_waits.Goals as goal

pub returns-clause-above : goal.returns-clause-above
returns-clause-above g c = λ part channel base log number s before. all_above number (log_tells log).written (queue_of g.K.ChannelPort part) s.port.own.given before

pub returns-clause-held : goal.returns-clause-held
returns-clause-held g c = λ part channel base log s is n some.
    let few = held_count (log_tells log).written is.rise (queue_of g.K.ChannelPort part) n (s.port.held n some) in
    let covered = part.covered in
    omega (arith, few, covered)

pub returns-clause-below : goal.returns-clause-below
returns-clause-below g c = λ part channel base log s n some.
    let writes = queue_of g.K.ChannelPort part in
    All-weaker (λ w. n ≤ w.number → IsPending w.number writes) (λ w. waits_no_more writes w ≡ true → w.number < n) (λ w held. gone_below n w writes held) (log_tells log).written (s.port.held n some)
