use Rattle.std.proofs.Common.{arith, ap, sym, ◌∙◌}
use Rattle.ddr4_timing.specs.declared.timing.Checked.{Checked}
use Rattle.drain_core.proofs.ClosingChannel.{closing_awake, may_close_rank, closing_early, closing_open_rank, closing_closed_rank, closing_all_closed, closing_start, closing_rests, closed_enter, closed_clock}
use Rattle.drain_core.proofs.steps.close_step.Goals.{then-has_open_bank, else-has_open_bank}
use Rattle.drain_core.proofs.steps.close_step.Goals as goal

pub has_open_bank-requires-clause-awake : goal.has_open_bank-requires-clause-awake
has_open_bank-requires-clause-awake c =
    let ranks = ap (λ (checked : Checked). checked.geometry.ranks) c.checked.ensures in
    closing_awake c.args.numbers.now c.args.channel.now c.loop-rank.channel c.loop-rank.end c.loop-rank.rank c.requires.can c.loop-rank.invariant.goes (omega (arith, ranks, c.loop-rank-test.true))

pub issue_next-end-requires-clause-may : goal.issue_next-end-requires-clause-may
issue_next-end-requires-clause-may c =
    let ranks = ap (λ (checked : Checked). checked.geometry.ranks) c.checked.ensures in
    may_close_rank c.args.numbers.now c.args.channel.now c.loop-rank.channel c.loop-rank.end c.loop-rank.rank c.requires.can c.loop-rank.invariant.goes (omega (arith, ranks, c.loop-rank-test.true)) (sym c.has_open_bank.ensures ∙ c.if-has_open_bank.true)

pub issue_next-end-requires-clause-early : goal.issue_next-end-requires-clause-early
issue_next-end-requires-clause-early c =
    let ranks = ap (λ (checked : Checked). checked.geometry.ranks) c.checked.ensures in
    closing_early c.args.numbers.now c.args.channel.now c.loop-rank.channel c.loop-rank.end c.loop-rank.rank c.requires.can c.loop-rank.invariant.goes (omega (arith, ranks, c.loop-rank-test.true))

pub loop-rank-preserved : goal.loop-rank-preserved
loop-rank-preserved c =
    let i = c.loop-rank.invariant in
    elim c.if-has_open_bank.branch [
      | then-has_open_bank w ↦
          let on = w.issue_next-end.ensures.on in
          rw (w.channel-is, w.end-is) (record {
            goes = closing_open_rank c.args.numbers.now c.args.channel.now c.loop-rank.channel c.loop-rank.end c.loop-rank.rank c.requires.can i.goes w.issue_next-end.new.channel w.issue_next-end.result (sym c.has_open_bank.ensures ∙ w.if-has_open_bank.true) on;
            cost = omega (arith, i.cost, on.cost, c.requires.limits.e_pre);
          })
      | else-has_open_bank w ↦
          rw (w.channel-is, w.end-is) (record {
            goes = closing_closed_rank c.args.numbers.now c.args.channel.now c.loop-rank.channel c.loop-rank.end c.loop-rank.rank c.requires.can i.goes (sym c.has_open_bank.ensures ∙ w.if-has_open_bank.false);
            cost = omega (arith, i.cost);
          })
    ]

pub rested_clock-requires-clause-awake : goal.rested_clock-requires-clause-awake
rested_clock-requires-clause-awake c =
    let ranks = ap (λ (checked : Checked). checked.geometry.ranks) c.checked.ensures in
    closing_awake c.args.numbers.now c.args.channel.now c.loop-rank.channel c.loop-rank.end c.loop-rank.rank c.requires.can c.loop-rank.invariant.goes (omega (arith, ranks, c.loop-rank.auto.rank-end))

pub rested_clock-requires-clause-closed : goal.rested_clock-requires-clause-closed
rested_clock-requires-clause-closed c =
    let ranks = ap (λ (checked : Checked). checked.geometry.ranks) c.checked.ensures in
    closing_all_closed c.args.numbers.now c.args.channel.now c.loop-rank.channel c.loop-rank.end c.loop-rank.rank c.requires.can c.loop-rank.invariant.goes (omega (arith, ranks, c.loop-rank.auto.rank-end, c.loop-rank-test.false))

pub rested_clock-requires-clause-from : goal.rested_clock-requires-clause-from
rested_clock-requires-clause-from c =
    let ranks = ap (λ (checked : Checked). checked.geometry.ranks) c.checked.ensures in
    closing_start c.args.numbers.now c.args.channel.now c.loop-rank.channel c.loop-rank.end c.loop-rank.rank c.requires.can c.loop-rank.invariant.goes (omega (arith, ranks, c.loop-rank.auto.rank-end, c.loop-rank-test.false))

pub returns-clause-goes : goal.returns-clause-goes
returns-clause-goes c =
    let ranks = ap (λ (checked : Checked). checked.geometry.ranks) c.checked.ensures in
    closing_rests c.args.numbers.now c.args.channel.now c.loop-rank.channel c.loop-rank.end c.loop-rank.rank c.requires.can c.loop-rank.invariant.goes c.rested_clock.result (omega (arith, ranks, c.loop-rank.auto.rank-end, c.loop-rank-test.false)) c.rested_clock.ensures

pub returns-clause-between : goal.returns-clause-between
returns-clause-between c =
    let ranks = ap (λ (checked : Checked). checked.geometry.ranks) c.checked.ensures in
    closed_enter c.args.numbers.now c.args.channel.now c.loop-rank.channel (record { clock = c.rested_clock.result; cost = c.loop-rank.end.cost }) c.requires.can (closing_rests c.args.numbers.now c.args.channel.now c.loop-rank.channel c.loop-rank.end c.loop-rank.rank c.requires.can c.loop-rank.invariant.goes c.rested_clock.result (omega (arith, ranks, c.loop-rank.auto.rank-end, c.loop-rank-test.false)) c.rested_clock.ensures)

pub returns-clause-clocks : goal.returns-clause-clocks
returns-clause-clocks c =
    let ranks = ap (λ (checked : Checked). checked.geometry.ranks) c.checked.ensures in
    closed_clock c.args.numbers.now c.args.channel.now c.loop-rank.channel (record { clock = c.rested_clock.result; cost = c.loop-rank.end.cost }) c.requires.can (closing_rests c.args.numbers.now c.args.channel.now c.loop-rank.channel c.loop-rank.end c.loop-rank.rank c.requires.can c.loop-rank.invariant.goes c.rested_clock.result (omega (arith, ranks, c.loop-rank.auto.rank-end, c.loop-rank-test.false)) c.rested_clock.ensures)
