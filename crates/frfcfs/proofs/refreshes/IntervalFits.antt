-- What the checks of a profile say of the clocks between two refreshes.
use Rattle.std.proofs.Common.{◌+◌, ◌*◌, ◌≤◌, ◌<◌, arith}
use Rattle.frfcfs.proofs.Common.{Checked, close_of, row_time}

-- a row, its precharge and a turn or two of each rank are within an interval; so are a refresh and those
pub record Fits (c : Checked) : Type 0 where
  pub row : row_time c.timing + c.timing.t_rp + 2 * c.geometry.ranks ≤ c.timing.t_refi
  pub refresh : c.timing.t_rfc + c.timing.t_rp + 2 * c.geometry.ranks ≤ c.timing.t_refi

-- both follow where a close step is shorter than an interval
pub fits : (c : Checked) → Fits c
fits c =
    let h : close_of c.timing c.geometry < c.timing.t_refi = omega (arith, c.fits_entry, c.in_limits.t_rp.0) in
    record { row = omega (arith, h, c.in_limits.t_rp.0); refresh = omega (arith, h, c.in_limits.t_rp.0) }
