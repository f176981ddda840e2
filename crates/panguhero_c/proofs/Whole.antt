-- A read of all bytes of a device.
use Rattle.std.proofs.Common.{◌≡◌, ℕ, ◌+◌, ◌-◌, List, length, slice_range, arith, take_all}

-- the range of the whole row
pub whole_row : (row : List ℕ) (n : ℕ) → n ≡ length row → slice_range row 0 (0 + n) ≡ row
whole_row row n is = take_all (0 + n - 0) row (omega (arith, is))
