-- All returned credits of a channel were taken back.
use Rattle.std.proofs.Common.{All, arith, refl, subst, sym, ◌∙◌, ◌≡◌}
use Rattle.split_module.specs.Telling.{AreOwn}
use Rattle.split_module.proofs.Lent.{looks}
use Rattle.split_module.proofs.lending.take_back.Goals as goal

pub returns-clause-looks : goal.returns-clause-looks
returns-clause-looks g c = λ shape m logs base log s of stands.
    let L = g.K.ChannelPort in
    let old = c.args.front.now in
    let part = c.args.part.now in
    let later = c.take_back-returned.new.self in
    let did = c.take_back-returned.ensures in
    let here : (L.view later.port).number ≡ part.channel = sym later.here ∙ did.channel in
    let own : AreOwn part.channel (L.view later.port).waits = record {
      writes = subst (λ n. All (λ w. w.channel ≡ n) (L.view later.port).waits.writes) here (g.met.K.ChannelPort.own_writes later.port);
      reads = subst (λ n. All (λ r. r.ticket.channel ≡ n) (L.view later.port).waits.reads) here (g.met.K.ChannelPort.own_reads later.port);
      given = subst (λ n. All (λ t. t.channel ≡ n) (L.view later.port).waits.given) here (g.met.K.ChannelPort.own_tickets later.port);
    } in
    looks L old _ part later refl refl refl (let all = did.all in let out = c.requires.out in omega (arith, all, out)) did.port shape m logs base log s of stands own
