use Rattle.std.proofs.Common.{ap, ap₂, sym, subst, ℕ, ◌≡◌, ◌-◌, ◌/◌, ◌%◌}
use Rattle.std.specs.Int.{trailing_zeros, w64}
use Rattle.std.proofs.lemmas.Nat.{and_mask}
use Rattle.std.specs.Int.Bits.{bit_and}
use Rattle.interleave_map.proofs.PowersOfTwo.{power_at}
use Rattle.interleave_map.proofs.lines.parts_by.Goals as goal

pub overflow_shr-result : goal.overflow_shr-result
overflow_shr-result c = (power_at c.args.size c.ranges.size.fits c.requires).0

pub returns : goal.returns
returns c =
    let shift = trailing_zeros w64 c.args.size in
    let power = (power_at c.args.size c.ranges.size.fits c.requires).1 in
    ap₂ (λ (q r : ℕ). (q, r)) (ap (λ (size : ℕ). c.args.number / size) (sym power)) (subst (λ (size : ℕ). bit_and c.args.number (size - 1) ≡ c.args.number % size) (sym power) (and_mask c.args.number shift))
