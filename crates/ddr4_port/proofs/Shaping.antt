-- The shape of the channels of a profile: its lines make whole pages, and each lies on one of its channels.
use Rattle.std.proofs.Common.{◌≡◌, ℕ, zero, suc, ◌+◌, ◌*◌, ◌%◌, ◌^◌, ◌≤◌, IsTrue, sym, ap, subst, ◌∙◌, arith}
use Rattle.std.specs.Int.{is_power_of_two, trailing_zeros, w64}
use Rattle.std.proofs.Math.Nat.{mul-le-mul_left, pow-suc}
use Rattle.std.proofs.lemmas.Nat.{div-add-mod', pow-add}
use Rattle.ddr4_port.proofs.Common.{Checked, Costs, Geometry, IsGeometry, IsInterleaving, IsSmall, Place, lines_of}
use Rattle.ddr4_port.proofs.Common.{shape_over}
use Rattle.energy_budget.specs.Costs.{AreReckonedFor}
use Rattle.interleave_map.proofs.Digits.{left_factor}
use Rattle.interleave_map.proofs.Numbering.{few_rows_in_all, is_whole}
use Rattle.interleave_map.proofs.PowersOfTwo.{power_at}
use Rattle.channel_port.specs.Shape.{IsShape}
use Rattle.ddr4_port.proofs.Seen.{place-named}

record IsPower (n : ℕ) : Type 0 where
  exponent : ℕ
  is : n ≡ 2 ^ exponent

power-of : (n : ℕ) → n ≤ 65536 → IsTrue (is_power_of_two n) → IsPower n
power-of n few power = record { exponent = trailing_zeros w64 n; is = (power_at n (omega (arith, few)) power).1 }

powers-times : (a b : ℕ) → IsPower a → IsPower b → IsPower (a * b)
powers-times a b x y = record { exponent = x.exponent + y.exponent; is = ap (λ k. k * b) x.is ∙ ap (λ k. 2 ^ x.exponent * k) y.is ∙ sym (pow-add 2 x.exponent y.exponent) }

-- a power of two from 64 on has 64 as a factor
whole-power : (k : ℕ) → 64 ≤ 2 ^ k → 2 ^ k % 64 ≡ 0
whole-power zero most = absurd (omega (arith, most))
whole-power (suc zero) most = absurd (omega (arith, most))
whole-power (suc (suc zero)) most = absurd (omega (arith, most))
whole-power (suc (suc (suc zero))) most = absurd (omega (arith, most))
whole-power (suc (suc (suc (suc zero)))) most = absurd (omega (arith, most))
whole-power (suc (suc (suc (suc (suc zero))))) most = absurd (omega (arith, most))
whole-power (suc (suc (suc (suc (suc (suc k)))))) most =
    omega (arith, pow-suc 2 k, pow-suc 2 (suc k), pow-suc 2 (suc (suc k)), pow-suc 2 (suc (suc (suc k))), pow-suc 2 (suc (suc (suc (suc k)))), pow-suc 2 (suc (suc (suc (suc (suc k))))))

times-more : (a b : ℕ) → 1 ≤ a → b ≤ a * b
times-more a b some = let more : b * 1 ≤ b * a = mul-le-mul_left b some in omega (arith, more)

-- the lines make whole pages
pub whole-pages : (g : Geometry) → IsSmall g → IsGeometry g → lines_of g % 64 ≡ 0
unfolding lines_of
whole-pages g small is =
    let whole = is_whole g small in
    let few = few_rows_in_all g small in
    let banks_in_all = g.channels * g.ranks * g.groups * g.banks in
    let some_banks : 1 ≤ banks_in_all = left_factor banks_in_all g.rows (left_factor (banks_in_all * g.rows) g.columns (omega (arith, small.lines.0))) in
    let some_rows : 1 ≤ banks_in_all * g.rows = left_factor (banks_in_all * g.rows) g.columns (omega (arith, small.lines.0)) in
    let rows : g.rows ≤ 65536 = omega (arith, few, times-more banks_in_all g.rows some_banks) in
    let columns : g.columns ≤ 65536 = omega (arith, small.lines.1, times-more (banks_in_all * g.rows) g.columns some_rows) in
    let four : IsPower g.banks = record { exponent = 2; is = small.banks } in
    let power = powers-times (banks_in_all * g.rows) g.columns
    (powers-times banks_in_all g.rows
    (powers-times (g.channels * g.ranks * g.groups) g.banks
    (powers-times (g.channels * g.ranks) g.groups
    (powers-times g.channels g.ranks (power-of g.channels (omega (arith, small.channels)) is.channels.0) (power-of g.ranks (omega (arith, small.ranks)) is.ranks.0))
    (power-of g.groups (omega (arith, small.groups)) is.groups.0))
    four)
    (power-of g.rows rows is.rows))
    (power-of g.columns columns is.columns) in
    let some : 64 ≤ 2 ^ power.exponent = subst (λ (n : ℕ). 64 ≤ n) power.is small.lines.0 in
    ap (λ n. n % 64) power.is ∙ whole-power power.exponent some

pub is-shape : (place_of : ℕ → Place) (checked : Checked) (depth reads : ℕ) (costs : Costs) → AreReckonedFor checked costs → IsInterleaving checked.geometry place_of → IsShape (shape_over place_of checked depth reads costs)
is-shape place_of checked depth reads costs reckoned map =
    let g = checked.geometry in
    let whole = whole-pages g checked.is_small checked.is_geometry in
    record {
      some = checked.is_small.lines.0;
      most = checked.is_small.lines.1;
      whole = whole;
      pages = omega (arith, whole, reckoned.pages, div-add-mod' (lines_of g) 64);
      channels = sym reckoned.channels;
      known = λ line less. omega (arith, ap (λ (p : Place). p.channel) (place-named place_of g line less), (map.lies_in line less).channel);
    }
