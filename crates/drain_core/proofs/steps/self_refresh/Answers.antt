use Rattle.std.proofs.Common.{arith, ap}
use Rattle.ddr4_timing.specs.declared.timing.Checked.{Checked}
use Rattle.drain_core.proofs.SleepingChannel.{may_sleep_rank, sleeping_early, sleeping_rank, all_asleep, sleeping_ends, some_ranks}
use Rattle.drain_core.proofs.steps.self_refresh.Goals as goal

pub issue_next-end-requires-clause-may : goal.issue_next-end-requires-clause-may
issue_next-end-requires-clause-may c =
    let ranks = ap (λ (checked : Checked). checked.geometry.ranks) c.checked.ensures in
    may_sleep_rank c.args.numbers.now c.args.channel.now c.loop-rank.channel c.args.clock c.loop-rank.end c.loop-rank.rank c.requires.enter c.loop-rank.invariant.goes (omega (arith, ranks, c.loop-rank-test.true))

pub issue_next-end-requires-clause-early : goal.issue_next-end-requires-clause-early
issue_next-end-requires-clause-early c =
    let ranks = ap (λ (checked : Checked). checked.geometry.ranks) c.checked.ensures in
    sleeping_early c.args.numbers.now c.args.channel.now c.loop-rank.channel c.args.clock c.loop-rank.end c.loop-rank.rank c.requires.enter c.loop-rank.invariant.goes c.requires.early (omega (arith, ranks, c.loop-rank-test.true))

pub loop-rank-preserved : goal.loop-rank-preserved
loop-rank-preserved c =
    let i = c.loop-rank.invariant in
    let on = c.issue_next-end.ensures.on in record {
      goes = sleeping_rank c.args.numbers.now c.args.channel.now c.loop-rank.channel c.args.clock c.loop-rank.end c.loop-rank.rank c.requires.enter i.goes c.issue_next-end.new.channel c.issue_next-end.result on;
      cost = omega (arith, i.cost, on.cost, c.requires.limits.e_sre);
      stepped = λ _. c.issue_next-end.ensures.stepped;
    }

pub returns-clause-goes : goal.returns-clause-goes
returns-clause-goes c =
    let ranks = ap (λ (checked : Checked). checked.geometry.ranks) c.checked.ensures in
    sleeping_ends c.args.numbers.now c.args.channel.now c.loop-rank.channel c.args.clock c.loop-rank.end c.loop-rank.rank c.requires.enter c.loop-rank.invariant.goes (omega (arith, ranks, c.loop-rank.auto.rank-end, c.loop-rank-test.false))

pub returns-clause-stepped : goal.returns-clause-stepped
returns-clause-stepped c =
    let ranks = ap (λ (checked : Checked). checked.geometry.ranks) c.checked.ensures in
    c.loop-rank.invariant.stepped (omega (arith, ranks, c.loop-rank-test.false, some_ranks c.args.channel.now.checked))

pub returns-clause-asleep : goal.returns-clause-asleep
returns-clause-asleep c =
    let ranks = ap (λ (checked : Checked). checked.geometry.ranks) c.checked.ensures in
    let slept = all_asleep c.args.numbers.now c.args.channel.now c.loop-rank.channel c.args.clock c.loop-rank.end c.loop-rank.rank c.requires.enter c.loop-rank.invariant.goes (omega (arith, ranks, c.loop-rank.auto.rank-end, c.loop-rank-test.false)) in
    (c.loop-rank.invariant.stepped (omega (arith, ranks, c.loop-rank-test.false, some_ranks c.args.channel.now.checked))).phase.1 slept
