use Rattle.std.proofs.Common.{◌≡◌, ◌+◌, ◌-◌, ◌*◌, ◌%◌, ◌<◌, ◌^◌, ℕ, ap, arith, refl, slice_index_or, subst, sym}
use Rattle.std.specs.Char.{digit_value}
use Rattle.command_trace.proofs.Digits.{comes_on, digit_worth, fits_more, wrapped}
use Rattle.command_trace.proofs.row.number.Goals as goal

pub loop-byte-preserved : goal.loop-byte-preserved
loop-byte-preserved c =
    let field = c.args.field.now in let index : ℕ = c.loop-byte.byte-index in let value : ℕ = c.loop-byte.value in
    let byte : ℕ = slice_index_or c.args.field.now c.loop-byte.byte-index 0 in
    let product : ℕ = (value * 10) % 2 ^ 64 in
    let next : ℕ = (product + (byte - 48)) % 2 ^ 64 in
    let digit = c.if-not-is_ascii_digit.ensures in
    let few : index < 19 = omega arith in
    let fits = fits_more index value (digit_value byte) few c.loop-byte.invariant.1 digit.bound in
    let worth = digit_worth byte digit.bound digit.cases.0 digit.cases.1 in
    let is : next ≡ value * 10 + digit_value byte = wrapped value (digit_value byte) product next fits.1 refl (ap (λ (d : ℕ). (product + d) % 2 ^ 64) worth) in (
      comes_on c.args.field.now index value next byte c.loop-byte-test.true refl digit.bound is c.loop-byte.invariant.0,
      subst (λ (n : ℕ). n < 10 ^ (index + 1)) (sym is) fits.0,
    )
