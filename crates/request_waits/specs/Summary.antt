-- What a list of waits comes to, in numbers of the list itself.
use Rattle.std.specs.Prelude.{◌≡◌, ℕ, ◌*◌, ◌<◌, ◌≤◌, List, All, count_by, length, nat_le}
use Rattle.std.specs.List.{Contains}
use Rattle.request_waits.specs.declared.summary.Waits.{Waits}

-- how many of a list don't exceed a number
abbrev pub up_to : ℕ → List ℕ → ℕ
up_to n list = count_by (λ x. nat_le x n) list

-- The percentile of a list by the nearest rank: a number of the list which at least so many of a hundred of the list don't exceed, and
-- the least number of which that is so.
pub record IsPercentile (percent : ℕ) (list : List ℕ) (value : ℕ) : Type 0 where
  pub among : Contains list value
  pub reached : percent * length list ≤ 100 * up_to value list
  pub least : (other : ℕ) → other < value → 100 * up_to other list < percent * length list

pub record IsLeast (list : List ℕ) (value : ℕ) : Type 0 where
  pub among : Contains list value
  pub below : All (λ x. value ≤ x) list

pub record IsMost (list : List ℕ) (value : ℕ) : Type 0 where
  pub among : Contains list value
  pub above : All (λ x. x ≤ value) list

-- the numbers of a list of waits; the median is the percentile of fifty
pub record AreOf (list : List ℕ) (waits : Waits) : Type 0 where
  pub count : waits.count ≡ length list
  pub least : IsLeast list waits.least
  pub median : IsPercentile 50 list waits.median
  pub p99 : IsPercentile 99 list waits.p99
  pub most : IsMost list waits.most
