use Rattle.std.proofs.Common.{ap, subst, sym}
use Rattle.energy_budget.specs.Gauge.{Gauge}
use Rattle.energy_budget.specs.Meter.{meter_gauge}
use Rattle.nv_session.proofs.Common.{assembly, set_to}
use Rattle.open_life.specs.Lives.{IsAlive}
use Rattle.open_life.specs.Now.{now_of}
use Rattle.open_life.proofs.Goes.{alive_charged}
use Rattle.open_life.proofs.life.OpenLife.set_level.Goals as goal

pub returns-clause-now : goal.returns-clause-now
returns-clause-now g c =
    let it = c.args.self.now in let was : Gauge = set_to c.args.level (meter_gauge it.gauge) in
    ap (λ (gauge : Gauge). assembly it.running (g.D.SaveDevice.state it.device) gauge) {y = was} c.set.ensures.gauge

pub invariant_of-self : goal.invariant_of-self
invariant_of-self g c =
    let L = g.K.ChannelPort in let it = c.args.self.now in let device = g.D.SaveDevice.state it.device in let was : Gauge = set_to c.args.level (meter_gauge it.gauge) in
    record {
      alive = subst (λ (gauge : Gauge). IsAlive L it.profile (assembly it.running device gauge)) {x = was} (sym {b = was} c.set.ensures.gauge)
          (alive_charged L it.profile (now_of it) c.args.level it.alive);
    }
