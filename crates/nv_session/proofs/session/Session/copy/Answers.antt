use Rattle.std.proofs.Common.{◌∙◌, ap, refl, subst, sym}
use Rattle.energy_budget.specs.Meter.{meter_gauge}
use Rattle.nv_session.specs.Living.{IsShapeFor, device_state}
use Rattle.nv_session.proofs.Copies.{device_same, living_same}
use Rattle.nv_session.proofs.session.Session.copy.Goals as goal

pub invariant_of-result : goal.invariant_of-result
invariant_of-result g c =
    let it = c.args.self.now in
    record {
      fits = λ map. subst (λ wires. IsShapeFor it.profile (g.A.Wires.shape wires map)) (sym c.in_ok-wires.ensures) (it.fits map);
      wired = ap g.A.Wires.checked c.in_ok-wires.ensures ∙ it.wired;
      living = living_same g.K.ChannelPort it.profile it.life c.in_ok-life.life (device_state it.device) (device_state c.in_ok-device.device) (meter_gauge it.gauge) (meter_gauge c.copy-gauge.result)
          c.in_ok-life.ensures (device_same it.device c.in_ok-device.device c.in_ok-device.ensures) c.copy-gauge.ensures.gauge it.living;
    }

pub returns : goal.returns
returns g c = record {
  profile = refl;
  wires_are = c.in_ok-wires.ensures;
  life = c.in_ok-life.ensures;
  device = c.in_ok-device.ensures;
  gauge = c.copy-gauge.ensures.gauge;
  lie = c.copy-gauge.ensures.lie;
}
