use Rattle.std.proofs.Common.{arith, refl, sym, ap, subst, ◌∙◌}
use Rattle.std.specs.Prelude.{IfSome}
use Rattle.channel_port.specs.Answers.{IsServed}
use Rattle.channel_port.specs.View.{PortView}
use Rattle.channel_locks.proofs.Queueing.{worked_came, worked_length}
use Rattle.channel_locks.proofs.Standing.{still, worked_port}
use Rattle.channel_locks.proofs.part.Part.work.Goals as goal

pub invariant_of-self : goal.invariant_of-self
invariant_of-self g c =
    let L = g.K.ChannelPort in
    let part = c.args.self.now in
    let did = c.work.ensures in
    let v = L.view part.port in
    let fewer = worked_length v (L.view c.work.new.self) v.number c.work.result did.served did.stays in
    record {
      here = part.here ∙ sym (worked_port L part.port c.work.new.self c.work.result did.rest did.served did.stays did.keeps).number;
      covered = (let covered = part.covered in omega (arith, covered, fewer));
      mains = λ running. ap (λ (x : PortView). x.stage) did.rest ∙ part.mains running;
    }

pub returns-clause-returned : goal.returns-clause-returned
returns-clause-returned g c =
    let L = g.K.ChannelPort in
    let part = c.args.self.now in
    let did = c.work.ensures in
    let v = L.view part.port in
    let fewer = worked_length v (L.view c.work.new.self) v.number c.work.result did.served did.stays in
    let covered = part.covered in
    omega (arith, covered, fewer)

pub returns-clause-stands : goal.returns-clause-stands
returns-clause-stands g c =
    let L = g.K.ChannelPort in
    let part = c.args.self.now in
    let did = c.work.ensures in
    let v = L.view part.port in
    let w = L.view c.work.new.self in
    still L part _ (record { channel = refl; credits = refl; ended = refl }) (worked_port L part.port c.work.new.self c.work.result did.rest did.served did.stays did.keeps)
    (λ channel told number hold ended came.
    worked_came v w channel told c.work.result (subst (λ k. IfSome c.work.result (λ done. IsServed v.hold k done.served v.waits w.waits)) number did.served) did.stays hold (sym ended ∙ c.if-self.false) came)
