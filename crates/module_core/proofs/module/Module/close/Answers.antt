use Rattle.channel_port.specs.Draining.{Paid}
use Rattle.module_core.specs.Drained.{HasDrained}
use Rattle.module_core.proofs.Common.{◌≡◌, Ok, assembly, refl, subst, sym}
use Rattle.module_core.proofs.DrainedModules.{all_paid, closes_dark, closes_on}
use Rattle.module_core.proofs.WhereDrained.{on_err}
use Rattle.module_core.proofs.module.Module.close.Goals as goal

pub returns-then-is_err-clause-closes : goal.returns-then-is_err-clause-closes
returns-then-is_err-clause-closes g c = λ order old h s made base start writes ready carries same.
    let mid = assembly c.args.self.now (g.D.SaveDevice.state c.args.device.now) (g.E.Energy.gauge c.args.energy.now) in
    closes_dark g.K.ChannelPort order old mid s made base start writes ready carries same c.args.drained (sym c.if-is_err.ensures.value) h _ refl refl refl refl

pub returns-clause-fault : goal.returns-clause-fault
returns-clause-fault g c = on_err _ c.finish.result (λ cause is. all_paid c.args.drained (sym c.if-is_err.ensures.value))

pub returns-clause-closes : goal.returns-clause-closes
returns-clause-closes g c = λ order old h s made base start writes ready carries same.
    let mid = assembly c.args.self.now (g.D.SaveDevice.state c.args.device.now) (g.E.Energy.gauge c.args.energy.now) in
    let paid : c.args.drained ≡ Ok tt = all_paid c.args.drained (sym c.if-is_err.ensures.value) in
    closes_on g.K.ChannelPort order old mid s made base start writes ready carries same (subst (λ (p : Paid). HasDrained order p old mid) paid h) g.met.K.ChannelPort.settled c.finish.result
    c.finish.new.self (g.D.SaveDevice.state c.finish.new.device) (g.E.Energy.gauge c.finish.new.energy) c.finish.ensures.saves
