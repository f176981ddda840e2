-- How the sums rise with the pending writes and with the ticks.
use Rattle.std.proofs.Common.{◌≡◌, ℕ, ◌+◌, ◌*◌, ◌≤◌, arith}
use Rattle.std.proofs.Math.Nat.{mul-le-mul_left}
use Rattle.energy_budget.specs.declared.costs.Costs.{Costs}
use Rattle.energy_budget.specs.Costs.{entry_cost}
use Rattle.energy_budget.specs.Sums.{reserve, steps, save_ticks, backing_level, floor_level, needed_level}
use Rattle.energy_budget.proofs.Totals.{reserve-closed, steps-closed}

module _ (costs : Costs) where
  pub reserve-next : (k : ℕ) → reserve costs (k + 1) ≡ reserve costs k + entry_cost costs
  reserve-next k = omega (arith, reserve-closed costs (k + 1), reserve-closed costs k)

  pub steps-next : (k : ℕ) → steps costs (k + 1) ≡ steps costs k + 1
  steps-next k = omega (arith, steps-closed costs (k + 1), steps-closed costs k)

  pub floor_level-next : (k : ℕ) → floor_level costs (k + 1) ≡ floor_level costs k + entry_cost costs + costs.numbers.leak
  unfolding floor_level backing_level
  floor_level-next k = rw (reserve-next k, steps-next k) (omega arith)

  pub needed_level-next : (k : ℕ) → needed_level costs (k + 1) ≡ needed_level costs k + entry_cost costs + costs.numbers.leak
  unfolding needed_level
  needed_level-next k = omega (arith, floor_level-next k)

  pub reserve-le : (j k : ℕ) → j ≤ k → reserve costs j ≤ reserve costs k
  reserve-le j k le =
      let entries : entry_cost costs * j ≤ entry_cost costs * k = mul-le-mul_left (entry_cost costs) le in
      omega (arith, reserve-closed costs j, reserve-closed costs k, entries)

  pub backing_level-le : (j k ticks : ℕ) → j ≤ k → backing_level costs j ticks ≤ backing_level costs k ticks
  unfolding backing_level
  backing_level-le j k ticks le = omega (arith, reserve-le j k le)

  pub backing_level-ticks : (k fewer ticks : ℕ) → fewer ≤ ticks → backing_level costs k fewer ≤ backing_level costs k ticks
  unfolding backing_level
  backing_level-ticks k fewer ticks le =
      let leaks : costs.numbers.leak * fewer ≤ costs.numbers.leak * ticks = mul-le-mul_left costs.numbers.leak le in omega (arith, leaks)

  pub floor_level-le : (j k : ℕ) → j ≤ k → floor_level costs j ≤ floor_level costs k
  unfolding floor_level
  floor_level-le j k le =
      let more : steps costs j ≤ steps costs k = omega (arith, steps-closed costs j, steps-closed costs k) in
      omega (arith, backing_level-le j k (steps costs j) le, backing_level-ticks k (steps costs j) (steps costs k) more)

  pub needed_level-le : (j k : ℕ) → j ≤ k → needed_level costs j ≤ needed_level costs k
  unfolding needed_level
  needed_level-le j k le = omega (arith, floor_level-le j k le)

  pub floor_backs : (k : ℕ) → backing_level costs k (save_ticks costs) ≤ floor_level costs k
  unfolding floor_level
  floor_backs k = backing_level-ticks k (save_ticks costs) (steps costs k) (omega (arith, steps-closed costs k))

  backing_level-next : (k ticks : ℕ) → backing_level costs k (ticks + 1) ≡ backing_level costs k ticks + costs.numbers.leak
  unfolding backing_level
  backing_level-next k ticks = omega arith

  pub need_backs : (k : ℕ) → backing_level costs k (save_ticks costs + 1) ≤ needed_level costs k
  unfolding needed_level
  need_backs k = rw (backing_level-next k (save_ticks costs)) (omega (arith, floor_backs k))
