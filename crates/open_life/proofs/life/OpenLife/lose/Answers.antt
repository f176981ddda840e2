use Rattle.energy_budget.specs.Meter.{meter_gauge}
use Rattle.nv_machine.specs.declared.events.Event.TheVariants as events
use Rattle.nv_machine.specs.declared.events.Reply.TheVariants as replies
use Rattle.nv_session.proofs.Common.{Assembly, IsOneEvent, assembly}
use Rattle.nv_session.proofs.Coming.{one_event}
use Rattle.open_life.proofs.Goes.{alive_cut, goes_cut}
use Rattle.open_life.proofs.life.OpenLife.lose.Goals as goal

pub power_loss-lost-requires : goal.power_loss-lost-requires
power_loss-lost-requires g c = record { size = c.args.self.now.alive.size }

pub returns-clause-goes : goal.returns-clause-goes
returns-clause-goes g c =
    let L = g.K.ChannelPort in let it = c.args.self.now in let state = g.D.SaveDevice.state in let made = c.power_loss-lost in let later = c.cut-cut_by_loss.new.self in
    let old : Assembly L = assembly it.running (state it.device) (meter_gauge it.gauge) in
    let mid : Assembly L = assembly made.new.self (state made.new.device) (meter_gauge made.new.energy) in
    goes_cut L (λ setup. IsOneEvent events.Lose (replies.Lose made.result)) it.profile old mid later made.ensures.setup (one_event L events.Lose (replies.Lose made.result) old mid made.ensures.answers) (λ es rs m n cut told. told) c.cut-cut_by_loss.ensures.cuts

pub invariant_of-self : goal.invariant_of-self
invariant_of-self g c =
    let L = g.K.ChannelPort in let it = c.args.self.now in let state = g.D.SaveDevice.state in let made = c.power_loss-lost in let later = c.cut-cut_by_loss.new.self in
    let old : Assembly L = assembly it.running (state it.device) (meter_gauge it.gauge) in
    let mid : Assembly L = assembly made.new.self (state made.new.device) (meter_gauge made.new.energy) in
    record { alive = alive_cut L (λ setup. IsOneEvent events.Lose (replies.Lose made.result)) it.profile old mid later made.ensures.setup (one_event L events.Lose (replies.Lose made.result) old mid made.ensures.answers) (λ es rs m n cut told. told) c.cut-cut_by_loss.ensures.cuts it.alive made.ensures.size c.cut-cut_by_loss.ensures.to }
