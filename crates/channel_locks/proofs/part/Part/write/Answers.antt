use Rattle.std.proofs.Common.{refl}
use Rattle.channel_locks.proofs.Standing.{wrote}
use Rattle.channel_locks.proofs.part.Part.write.Goals as goal

pub returns-clause-stands : goal.returns-clause-stands
returns-clause-stands g c = wrote g.K.ChannelPort c.args.self.now _ c.args.number c.args.write c.put.ensures.puts c.put.ensures.carries c.pending.ensures.is refl
