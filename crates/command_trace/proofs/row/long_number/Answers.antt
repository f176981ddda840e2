use Rattle.std.proofs.Common.{◌+◌, ◌*◌, ◌≤◌, ◌^◌, ℕ, arith, refl, slice_index_or}
use Rattle.std.specs.Char.{digit_value}
use Rattle.command_trace.proofs.Digits.{comes_too_far, digit_worth}
use Rattle.command_trace.proofs.row.long_number.Goals as goal

pub returns-in_err-checked_mul-clause-none : goal.returns-in_err-checked_mul-clause-none
returns-in_err-checked_mul-clause-none c = λ none n said.
    let byte : ℕ = slice_index_or c.args.field.now c.loop-byte.byte-index 0 in
    let far : 2 ^ 64 ≤ c.loop-byte.value * 10 + digit_value byte = omega (arith, c.in_err-checked_mul.ensures) in
    comes_too_far c.args.field.now c.loop-byte.byte-index c.loop-byte.value byte n c.loop-byte-test.true refl c.if-not-is_ascii_digit.ensures.bound far c.loop-byte.invariant said

pub returns-in_err-value-clause-none : goal.returns-in_err-value-clause-none
returns-in_err-value-clause-none c = λ none n said.
    let byte : ℕ = slice_index_or c.args.field.now c.loop-byte.byte-index 0 in
    let digit = c.if-not-is_ascii_digit.ensures in
    let worth = digit_worth byte digit.bound digit.cases.0 digit.cases.1 in
    let far : 2 ^ 64 ≤ c.loop-byte.value * 10 + digit_value byte = omega (arith, c.in_err-value.ensures, c.in_ok-checked_mul.ensures, worth) in
    comes_too_far c.args.field.now c.loop-byte.byte-index c.loop-byte.value byte n c.loop-byte-test.true refl digit.bound far c.loop-byte.invariant said
