use Rattle.std.proofs.Common.{arith, ◌≡◌, ap, length, refl}
use Rattle.channel_port.specs.View.{PortView, on_backup}
use Rattle.channel_locks.proofs.Standing.{ended, quiet_port}
use Rattle.channel_locks.proofs.part.Part.end.Goals as goal

pub returns-clause-stands : goal.returns-clause-stands
returns-clause-stands g c =
    let L = g.K.ChannelPort in
    let part = c.args.self.now in
    let did = c.lose_mains.ensures in
    let out : part.credits ≡ length (L.view c.lose_mains.new.self).waits.writes = let same = ap (λ (v : PortView). length v.waits.writes) did.lost in let covered = part.covered in let taken = c.requires.taken in omega (arith, same, covered, taken) in
    ended L part _ (quiet_port L part.port c.lose_mains.new.self (on_backup (L.view part.port)) did.lost refl refl refl did.keeps) out refl
