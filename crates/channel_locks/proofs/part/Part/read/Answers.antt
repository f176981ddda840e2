use Rattle.std.proofs.Common.{arith, ◌≡◌, ap, length, refl}
use Rattle.channel_locks.proofs.Standing.{looked, quiet_port}
use Rattle.channel_locks.proofs.part.Part.read.Goals as goal

pub returns-clause-stands : goal.returns-clause-stands
returns-clause-stands g c =
    let L = g.K.ChannelPort in
    let part = c.args.self.now in
    let did = c.get.ensures in
    let out : part.credits ≡ length (L.view c.get.new.self).waits.writes = let same = ap length did.writes in let covered = part.covered in let taken = c.requires.taken in omega (arith, same, covered, taken) in
    looked L part _ (quiet_port L part.port c.get.new.self (record (L.view part.port) { waits = (L.view c.get.new.self).waits }) did.rest refl refl did.writes did.keeps) out refl
