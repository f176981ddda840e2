use Rattle.std.proofs.Common.{◌≤◌, arith, ap, below_more}
use Rattle.drain_core.proofs.Common.{Checked, Sre, floor, least_clock}
use Rattle.drain_core.proofs.Resting.{rests_by, sleeps_by}
use Rattle.drain_core.proofs.steps.rested_clock.Goals as goal

pub loop-rank-preserved : goal.loop-rank-preserved
unfolding least_clock
loop-rank-preserved c =
    let s = c.args.channel.now in
    let i = c.loop-rank.invariant in
    let least = c.in-Some.ensures.1 in
    let most = sleeps_by s.checked s.commands c.loop-rank.rank c.always.ensures.lawful in record {
      from = omega (arith, i.from, c.max-rested.ensures);
      most = omega (arith, i.most, c.max-rested.ensures, least, most, c.requires.from);
      least = below_more (λ rank. floor s.checked.timing s.commands (Sre rank) ≤ c.max-rested.result) c.loop-rank.rank
          (λ rank l. let f = i.least rank l in omega (arith, f, c.max-rested.ensures))
          (omega (arith, least, c.max-rested.ensures));
    }

pub returns : goal.returns
returns c =
    let s = c.args.channel.now in
    let i = c.loop-rank.invariant in
    let ranks = ap (λ (checked : Checked). checked.geometry.ranks) c.checked.ensures in
    let rests = rests_by s.checked s.commands c.loop-rank.rested c.always.ensures.lawful (λ rank l. i.least rank (omega (arith, l, ranks, c.loop-rank-test.false))) in
    omega (arith, rests, i.from, i.most)
