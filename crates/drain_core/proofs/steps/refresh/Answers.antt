use Rattle.std.proofs.Common.{arith, ap, sym, ◌∙◌}
use Rattle.ddr4_timing.specs.declared.timing.Checked.{Checked}
use Rattle.drain_core.proofs.RefreshingChannel.{may_refresh_rank, refreshing_early, refreshing_owing_rank, refreshing_other_rank, refreshing_awake, refreshing_closed, refreshing_start, refreshing_rests}
use Rattle.drain_core.proofs.steps.refresh.Goals.{then-owes_refresh, else-owes_refresh}
use Rattle.drain_core.proofs.steps.refresh.Goals as goal

pub issue_next-end-requires-clause-may : goal.issue_next-end-requires-clause-may
issue_next-end-requires-clause-may c =
    let ranks = ap (λ (checked : Checked). checked.geometry.ranks) c.checked.ensures in
    may_refresh_rank c.args.numbers.now c.args.channel.now c.loop-rank.channel c.args.clock c.loop-rank.end c.loop-rank.rank c.requires.enter c.loop-rank.invariant.goes (omega (arith, ranks, c.loop-rank-test.true)) (sym c.owes_refresh.ensures ∙ c.if-owes_refresh.true)

pub issue_next-end-requires-clause-early : goal.issue_next-end-requires-clause-early
issue_next-end-requires-clause-early c =
    let ranks = ap (λ (checked : Checked). checked.geometry.ranks) c.checked.ensures in
    refreshing_early c.args.numbers.now c.args.channel.now c.loop-rank.channel c.args.clock c.loop-rank.end c.loop-rank.rank c.requires.enter c.loop-rank.invariant.goes c.requires.early (omega (arith, ranks, c.loop-rank-test.true)) (sym c.owes_refresh.ensures ∙ c.if-owes_refresh.true)

pub loop-rank-preserved : goal.loop-rank-preserved
loop-rank-preserved c =
    let i = c.loop-rank.invariant in
    let ranks = ap (λ (checked : Checked). checked.geometry.ranks) c.checked.ensures in
    elim c.if-owes_refresh.branch [
      | then-owes_refresh w ↦
          let on = w.issue_next-end.ensures.on in
          rw (w.channel-is, w.end-is) (record {
            goes = refreshing_owing_rank c.args.numbers.now c.args.channel.now c.loop-rank.channel c.args.clock c.loop-rank.end c.loop-rank.rank c.requires.enter i.goes w.issue_next-end.new.channel w.issue_next-end.result (omega (arith, ranks, c.loop-rank-test.true)) (sym c.owes_refresh.ensures ∙ w.if-owes_refresh.true) on;
            cost = omega (arith, i.cost, on.cost, c.requires.limits.e_ref);
          })
      | else-owes_refresh w ↦
          rw (w.channel-is, w.end-is) (record {
            goes = refreshing_other_rank c.args.numbers.now c.args.channel.now c.loop-rank.channel c.args.clock c.loop-rank.end c.loop-rank.rank c.requires.enter i.goes (omega (arith, ranks, c.loop-rank-test.true)) (sym c.owes_refresh.ensures ∙ w.if-owes_refresh.false);
            cost = omega (arith, i.cost);
          })
    ]

pub rested_clock-requires-clause-awake : goal.rested_clock-requires-clause-awake
rested_clock-requires-clause-awake c =
    let ranks = ap (λ (checked : Checked). checked.geometry.ranks) c.checked.ensures in
    refreshing_awake c.args.numbers.now c.args.channel.now c.loop-rank.channel c.args.clock c.loop-rank.end c.loop-rank.rank c.requires.enter c.loop-rank.invariant.goes (omega (arith, ranks, c.loop-rank.auto.rank-end))

pub rested_clock-requires-clause-closed : goal.rested_clock-requires-clause-closed
rested_clock-requires-clause-closed c =
    let ranks = ap (λ (checked : Checked). checked.geometry.ranks) c.checked.ensures in
    refreshing_closed c.args.numbers.now c.args.channel.now c.loop-rank.channel c.args.clock c.loop-rank.end c.loop-rank.rank c.requires.enter c.loop-rank.invariant.goes (omega (arith, ranks, c.loop-rank.auto.rank-end))

pub rested_clock-requires-clause-from : goal.rested_clock-requires-clause-from
rested_clock-requires-clause-from c =
    let ranks = ap (λ (checked : Checked). checked.geometry.ranks) c.checked.ensures in
    refreshing_start c.args.numbers.now c.args.channel.now c.loop-rank.channel c.args.clock c.loop-rank.end c.loop-rank.rank c.requires.enter c.loop-rank.invariant.goes (omega (arith, ranks, c.loop-rank.auto.rank-end))

pub returns-clause-goes : goal.returns-clause-goes
returns-clause-goes c =
    let ranks = ap (λ (checked : Checked). checked.geometry.ranks) c.checked.ensures in
    refreshing_rests c.args.numbers.now c.args.channel.now c.loop-rank.channel c.args.clock c.loop-rank.end c.loop-rank.rank c.requires.enter c.loop-rank.invariant.goes c.rested_clock.result (omega (arith, ranks, c.loop-rank.auto.rank-end, c.loop-rank-test.false)) c.rested_clock.ensures
