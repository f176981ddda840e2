use Rattle.std.proofs.Common.{◌∙◌, ap, length, refl, arith}
use Rattle.drain_core.proofs.Common.{ChannelState, Result}
use Rattle.energy_budget.specs.declared.energy.Dark.{Dark}
use Rattle.drain_core.specs.declared.report.DrainReport.{DrainReport}
use Rattle.drain_core.specs.Paying.{DrainsForPayment}
use Rattle.drain_core.proofs.DrainingChannel.{drained_channel, drained_from, drained_clocks, drained_most_clocks, drained_units, drained_spent}
use Rattle.drain_core.proofs.PaidDrain.{entered-all, entering-first, entering-next, entering-pending, granted-all, granted-next, handed-on, refused-entry}
use Rattle.drain_core.proofs.channel_drain.drain_for.Goals as goal

pub loop-entry-init : goal.loop-entry-init
loop-entry-init g c =
    let s = c.args.channel.now in
    let e = c.close_step-end.ensures in
    record {
      entering = entering-first c.args.numbers.now s c.close_step-end.new.channel c.close_step-end.result c.always.ensures.contents e.goes e.between e.clocks e.cost;
      granted = (c.args.payment.now, refl, c.in_ok-pay.ensures);
      all = c.pending-entry-end.ensures ∙ ap (λ (x : ChannelState). length x.writes) e.goes.takes.same;
    }

pub returns-in_err-pay-2-clause-drains : goal.returns-in_err-pay-2-clause-drains
returns-in_err-pay-2-clause-drains g c =
    let s = c.args.channel.now in
    let i = c.loop-entry.invariant in
    let dark = c.in_err-pay-2.field-0.0 in
    handed-on c.from_residual-in_err-pay-2.result (λ (result : Result DrainReport Dark). DrainsForPayment g.P.Payment.pays result s c.loop-entry.channel c.args.payment.now c.pay-in-loop-entry.new.self) dark c.from_residual-in_err-pay-2.ensures.0
    (refused-entry g.P.Payment.pays c.args.numbers.now s c.loop-entry.channel c.loop-entry.end c.loop-entry._entry c.args.payment.now c.loop-entry.payment c.pay-in-loop-entry.new.self dark i.entering (omega (arith, i.all, c.loop-entry-test.true)) i.granted c.in_err-pay-2.ensures)

pub unreachable-requires : goal.unreachable-requires
unreachable-requires g c =
    let i = c.loop-entry.invariant in
    entering-pending c.args.numbers.now c.args.channel.now c.loop-entry.channel c.entry_step.new.channel c.loop-entry.end c.loop-entry._entry i.entering (omega (arith, i.all, c.loop-entry-test.true)) c.in_default.ensures.enters

pub loop-entry-preserved : goal.loop-entry-preserved
loop-entry-preserved g c =
    let i = c.loop-entry.invariant in
    let e = c.in-Some.ensures in
    record {
      entering = entering-next c.args.numbers.now c.args.channel.now c.loop-entry.channel c.entry_step.new.channel c.loop-entry.end c.in-Some.entry c.loop-entry._entry e.enters.0 e.enters.1 e.enters.2 i.entering e.enters.3 e.enters.4 e.between e.clocks e.cost;
      granted = granted-next g.P.Payment.pays c.loop-entry._entry c.args.payment.now c.loop-entry.payment c.pay-in-loop-entry.new.self i.granted c.in_ok-pay-2.ensures;
      all = i.all;
    }

pub overflow_sub-clocks : goal.overflow_sub-clocks
overflow_sub-clocks g c =
    let i = c.loop-entry.invariant in
    let none = entered-all c.args.numbers.now c.args.channel.now c.loop-entry.channel c.loop-entry.end c.loop-entry._entry i.entering (omega (arith, i.all, c.loop-entry-test.false)) in
    drained_from i.entering.draining (none, refl) c.always-2.ensures.contents c.self_refresh-slept.ensures.goes c.start_clock-start.ensures

pub overflow_mul-result : goal.overflow_mul-result
overflow_mul-result g c =
    let i = c.loop-entry.invariant in
    let none = entered-all c.args.numbers.now c.args.channel.now c.loop-entry.channel c.loop-entry.end c.loop-entry._entry i.entering (omega (arith, i.all, c.loop-entry-test.false)) in
    let units = drained_units i.entering.draining (none, refl) c.always-2.ensures.contents c.self_refresh-slept.ensures.goes c.start_clock-start.ensures c.requires.can c.always.ensures.contents c.requires.limits.e_clk in
    omega (arith, units)

pub overflow_add-result-2 : goal.overflow_add-result-2
overflow_add-result-2 g c =
    let i = c.loop-entry.invariant in
    let none = entered-all c.args.numbers.now c.args.channel.now c.loop-entry.channel c.loop-entry.end c.loop-entry._entry i.entering (omega (arith, i.all, c.loop-entry-test.false)) in
    let units = drained_units i.entering.draining (none, refl) c.always-2.ensures.contents c.self_refresh-slept.ensures.goes c.start_clock-start.ensures c.requires.can c.always.ensures.contents c.requires.limits.e_clk in
    omega (arith, units, i.entering.draining.spent, c.self_refresh-slept.ensures.cost)

pub returns-clause-drains : goal.returns-clause-drains
returns-clause-drains g c =
    let s = c.args.channel.now in
    let i = c.loop-entry.invariant in
    let none = entered-all c.args.numbers.now s c.loop-entry.channel c.loop-entry.end c.loop-entry._entry i.entering (omega (arith, i.all, c.loop-entry-test.false)) in
    granted-all g.P.Payment.pays _ s c.self_refresh-slept.new.channel c.loop-entry._entry c.args.payment.now c.loop-entry.payment (omega (arith, i.all, c.loop-entry-test.false, c.loop-entry.auto._entry-end)) i.granted
    (drained_channel i.entering.draining (none, refl) c.always-2.ensures.contents c.self_refresh-slept.ensures.goes c.self_refresh-slept.ensures.stepped c.self_refresh-slept.ensures.asleep)

pub returns-clause-clocks : goal.returns-clause-clocks
returns-clause-clocks g c =
    let i = c.loop-entry.invariant in
    let none = entered-all c.args.numbers.now c.args.channel.now c.loop-entry.channel c.loop-entry.end c.loop-entry._entry i.entering (omega (arith, i.all, c.loop-entry-test.false)) in
    drained_clocks i.entering.draining (none, refl) c.always-2.ensures.contents c.self_refresh-slept.ensures.goes c.start_clock-start.ensures

pub returns-clause-spent : goal.returns-clause-spent
returns-clause-spent g c =
    let i = c.loop-entry.invariant in
    let none = entered-all c.args.numbers.now c.args.channel.now c.loop-entry.channel c.loop-entry.end c.loop-entry._entry i.entering (omega (arith, i.all, c.loop-entry-test.false)) in
    drained_spent i.entering.draining (none, refl) c.always-2.ensures.contents c.self_refresh-slept.ensures.goes c.start_clock-start.ensures

pub returns-clause-most_clocks : goal.returns-clause-most_clocks
returns-clause-most_clocks g c =
    let i = c.loop-entry.invariant in
    let none = entered-all c.args.numbers.now c.args.channel.now c.loop-entry.channel c.loop-entry.end c.loop-entry._entry i.entering (omega (arith, i.all, c.loop-entry-test.false)) in
    drained_most_clocks i.entering.draining (none, refl) c.always-2.ensures.contents c.self_refresh-slept.ensures.goes c.start_clock-start.ensures c.requires.can c.always.ensures.contents
