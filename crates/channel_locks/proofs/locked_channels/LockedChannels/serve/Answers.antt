use Rattle.std.proofs.Common.{ℕ, ap, subst, ◌∙◌}
use Rattle.channel_locks.proofs.ServedLines.{served_line}
use Rattle.channel_locks.specs.Slots.{IsPartWhereDue}
use Rattle.channel_locks.specs.declared.locked_channel.LockedChannel.{LockedChannel}
use Rattle.channel_locks.proofs.locked_channels.LockedChannels.serve.Goals as goal

pub returns-clause-lent : goal.returns-clause-lent
returns-clause-lent g c = λ within.
    let slot = c.deref_mut.result.now in
    let L = g.K.ChannelPort in
    let here = ap (λ (s : LockedChannel g.row.K.Denot g.row.B.Denot L g.B.PartsName). s.number) c.deref_mut.ensures.value ∙ c.take.ensures in
    record {
      before = slot.part;
      after = c.serve.new.self.part;
      lent = (slot.seat.log, subst (λ (channel : ℕ). ∥ IsPartWhereDue L g.B.PartsName slot.part channel slot.seat.log ∥₁) here slot.kept.part_is);
      serves = c.serve.ensures.serves;
      has = served_line L g.B.PartsName slot.number slot.seat.log c.args.ticket c.serve.result slot.part c.serve.new.self.part slot.kept.part_is c.serve.ensures.serves;
    }
