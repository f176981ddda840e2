use Rattle.std.proofs.Common.{arith, ◌≡◌, ap, length, refl}
use Rattle.channel_port.specs.View.{PortView}
use Rattle.channel_locks.proofs.Standing.{released}
use Rattle.channel_locks.proofs.part.Part.release.Goals as goal

pub returns-clause-stands : goal.returns-clause-stands
returns-clause-stands g c =
    let L = g.K.ChannelPort in
    let part = c.args.self.now in
    let did = c.hold.ensures in
    let out : part.credits ≡ length (L.view c.hold.new.self).waits.writes = let same = ap (λ (v : PortView). length v.waits.writes) did.held in let covered = part.covered in let taken = c.requires in omega (arith, same, covered, taken) in
    released L part _ (record { is = did.held; keeps = did.keeps }) out refl
