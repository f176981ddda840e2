-- A write to a line of a channel that was looked at.
use Rattle.std.proofs.Common.{arith, length, refl, subst, sym, ◌<◌, ◌≡◌}
use Rattle.channel_locks.specs.Stands.{queue_of}
use Rattle.channel_port.specs.Waits.{AllBelow}
use Rattle.split_module.proofs.Lent.{tells_write, wrote}
use Rattle.split_module.proofs.SameSplit.{same_split}
use Rattle.split_module.proofs.lending.write_on.Goals as goal

pub write-requires-clause-above : goal.write-requires-clause-above
write-requires-clause-above g c =
    subst (λ n. AllBelow n (queue_of g.K.ChannelPort c.args.part.now)) (sym c.in-Ok.ensures.accepts.number) c.requires.below

pub returns-in-Err-clause-writes : goal.returns-in-Err-clause-writes
returns-in-Err-clause-writes g c = λ shape m logs log s of seen on.
    let L = g.K.ChannelPort in
    let old = c.args.front.now in
    let part = c.args.part.now in
    let write = c.args.write in
    let within : write.line < old.lines = omega arith in
    let told = tells_write L old part write c.is_full.result c.need-need.result c.requires.taken c.is_full.ensures c.need-need.ensures.value within shape m logs log s of seen (on (subst (λ k. write.line < k) s.lines within)) in
    (c.in-Err.ensures.refusal shape m write.line s.matches told, refl)

pub returns-in-Ok-clause-writes : goal.returns-in-Ok-clause-writes
returns-in-Ok-clause-writes g c = λ shape m logs log s of seen on.
    let L = g.K.ChannelPort in
    let old = c.args.front.now in
    let part = c.args.part.now in
    let write = c.args.write in
    let within : write.line < old.lines = omega arith in
    let here = on (subst (λ k. write.line < k) s.lines within) in
    let told = tells_write L old part write c.is_full.result c.need-need.result c.requires.taken c.is_full.ensures c.need-need.ensures.value within shape m logs log s of seen here in
    let long : length write.«data» ≡ 64 = omega arith in
    wrote L old _ part c.write.new.self write c.in-Ok.accepted c.in-Ok.ensures.accepts refl refl refl c.write.ensures.puts long shape m logs log s of seen here
    (c.in-Ok.ensures.admitted shape m write.line s.matches told)

pub returns-in-Err-clause-same_front : goal.returns-in-Err-clause-same_front
returns-in-Err-clause-same_front g c = same_split c.args.front.now _ c.in-Err.ensures.same refl refl refl
