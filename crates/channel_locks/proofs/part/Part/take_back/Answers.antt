use Rattle.std.proofs.Common.{◌≡◌, ◌-◌, length, refl, arith}
use Rattle.channel_locks.specs.Stands.{queue_of}
use Rattle.channel_locks.proofs.Standing.{looked, quiet_port}
use Rattle.channel_locks.proofs.part.Part.take_back.Goals as goal

pub returns-clause-stands : goal.returns-clause-stands
returns-clause-stands g c =
    let L = g.K.ChannelPort in
    let part = c.args.self.now in
    let none : part.credits - c.returned-returned.result ≡ length (queue_of L part) = let covered = part.covered in omega (arith, covered, c.returned-returned.ensures) in
    looked L part _ (quiet_port L part.port part.port (L.view part.port) refl refl refl refl (λ base mine carried. carried)) none refl
