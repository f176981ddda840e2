-- A count that has one more where a level falls.
use Rattle.std.proofs.Common.{◌≡◌, ◌<◌, ◌≤◌, ◌+◌, ℕ, if◌then◌else◌, nat_lt, rules}

pub one_more : (level old faults count : ℕ) → level < old → count ≡ faults + 1 → count ≡ faults + (if nat_lt level old then 1 else 0)
one_more level old faults count below more = search rules

pub no_more : (level old faults : ℕ) → old ≤ level → faults ≡ faults + (if nat_lt level old then 1 else 0)
no_more level old faults above = search rules
