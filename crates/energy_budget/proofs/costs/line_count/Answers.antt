use Rattle.std.proofs.Common.{ℕ, ◌*◌, ◌≤◌, inl, inr, refl, arith}
use Rattle.std.proofs.lemmas.Bool.{cases_lt}
use Rattle.std.proofs.Math.Nat.{mul-le-mul_left}
use Rattle.ddr4_timing.specs.Limits.{lines_of}
use Rattle.energy_budget.proofs.costs.line_count.Goals as goal

-- a factor of a number that isn't 0 is no greater
factor-le : (m n : ℕ) → 64 ≤ m * n → m * n ≤ 65536 → m ≤ 65536
factor-le m n low high =
    elim (cases_lt 0 n) [
      | inl some ↦ (let e = mul-le-mul_left m some in omega (arith, e))
      | inr none ↦ grind arith
    ]

pub overflow_mul-result : goal.overflow_mul-result
unfolding lines_of
overflow_mul-result c =
    let few = factor-le _ c.args.g.now.columns c.requires.lines.0 c.requires.lines.1 in omega (arith, few)

pub overflow_mul-result-2 : goal.overflow_mul-result-2
unfolding lines_of
overflow_mul-result-2 c = let most = c.requires.lines.1 in omega (arith, most)

pub returns : goal.returns
unfolding lines_of
returns c = refl
