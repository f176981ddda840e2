use Rattle.std.proofs.Common.{◌∙◌}
use Rattle.energy_budget.specs.Meter.{meter_gauge}
use Rattle.nv_session.proofs.Common.{Assembly, IsOneEvent, assembly}
use Rattle.nv_session.proofs.Coming.{one_event}
use Rattle.nv_session.proofs.Cutting.{comes_cut}
use Rattle.nv_machine.specs.declared.events.Event.TheVariants as events
use Rattle.nv_machine.specs.declared.events.Reply.TheVariants as replies
use Rattle.live_store.proofs.life.Life.lose.Goals as goal

pub returns-clause-goes : goal.returns-clause-goes
returns-clause-goes g c =
    let L = g.K.ChannelPort in let it = c.args.self.now in let state = g.D.SaveDevice.state in let made = c.power_loss-lost in let later = c.cut-cut_by_loss.new.self in
    let old : Assembly L = assembly it.running (state it.device) (meter_gauge it.gauge) in
    let mid : Assembly L = assembly made.new.self (state made.new.device) (meter_gauge made.new.energy) in
    record {
      comes = comes_cut L (IsOneEvent events.Lose (replies.Lose made.result)) old mid later (λ es rs m n cut told. told) made.ensures.setup
          (one_event L events.Lose (replies.Lose made.result) old mid made.ensures.answers) c.cut-cut_by_loss.ensures.cuts;
      setup = c.cut-cut_by_loss.ensures.setup ∙ made.ensures.setup;
    }
