use Rattle.std.proofs.Common.{refl}
use Rattle.channel_locks.proofs.Queueing.{collected_came, collected_writes}
use Rattle.channel_locks.proofs.Standing.{quiet_port, still}
use Rattle.channel_locks.proofs.part.Part.collect.Goals as goal

pub returns-clause-stands : goal.returns-clause-stands
returns-clause-stands g c =
    let L = g.K.ChannelPort in
    let part = c.args.self.now in
    let did = c.collect.ensures in
    let old = (L.view part.port).waits in
    let new = (L.view c.collect.new.self).waits in
    let writes = collected_writes c.args.ticket c.collect.result old new did.collected in
    still L part _ (record { channel = refl; credits = refl; ended = refl }) (quiet_port L part.port c.collect.new.self (record (L.view part.port) { waits = new }) did.rest refl refl writes did.keeps)
    (λ channel told number hold ended came. collected_came channel told c.args.ticket c.collect.result old new did.collected came)
