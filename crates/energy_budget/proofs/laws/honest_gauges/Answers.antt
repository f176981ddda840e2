use Rattle.std.proofs.Common.{◌+◌, ◌*◌, ◌≤◌, arith}
use Rattle.std.proofs.Math.Nat.{mul-le-mul_left}
use Rattle.energy_budget.specs.Sums.{backing_level}
use Rattle.energy_budget.proofs.laws.honest_gauges.Goals as goal

pub returns-clause-falls : goal.returns-clause-falls
returns-clause-falls c kind leak answer old new reads honest =
    let kept = reads.breach.0 honest.faultless in omega (arith, kept.falls, honest.bounded)

pub returns-clause-backs : goal.returns-clause-backs
unfolding backing_level
returns-clause-backs c kind costs k ticks answer old new reads honest enough =
    let kept = reads.breach.0 honest.faultless in omega (arith, kept.falls, honest.bounded, enough)

pub returns-clause-reserves : goal.returns-clause-reserves
unfolding backing_level
returns-clause-reserves c kind costs k ticks answer old new reads honest enough =
    let kept = reads.breach.0 honest.faultless in
    let one : costs.numbers.leak * 1 ≤ costs.numbers.leak * (ticks + 1) = mul-le-mul_left costs.numbers.leak (omega arith) in
    omega (arith, kept.falls, honest.bounded, enough, one)

pub returns-clause-rest : goal.returns-clause-rest
returns-clause-rest c leak cost rest result old new pays honest enough = let kept = pays.breach.0 honest.faultless in omega (arith, kept.falls, enough)

pub returns-clause-last : goal.returns-clause-last
returns-clause-last c leak old mid new kept rest same honest = record { bounded = omega (arith, same, honest.bounded); faultless = omega (arith, kept, rest, honest.faultless) }
