-- What is counted of restores.
use Rattle.std.specs.Prelude.{◌≡◌, ℕ, ◌-◌, ◌^◌, min, max, Bool, true, false, not, List, length, fold, filter}
use Rattle.slot_store.specs.declared.restoring.Verdict.TheVariants.{Complete}
use Rattle.crash_table.specs.declared.outcome.Found.{Found}
use Rattle.crash_table.specs.declared.outcome.Found.TheVariants.{Image}
use Rattle.crash_table.specs.declared.outcome.Outcome.{Outcome}
use Rattle.crash_table.specs.declared.tried.Tried.{Tried}
use Rattle.crash_table.specs.declared.counts.Counts.{Counts}

-- how many writes what was found holds
abbrev pub writes_found : Found → ℕ
writes_found (Image generation count verdict) = count
writes_found other = 0

abbrev pub is_complete : Found → Bool
is_complete (Image generation count Complete) = true
is_complete other = false

-- how many of the writes that were told to be persistent it lacks
abbrev pub missing : Outcome → ℕ
missing outcome = outcome.told - writes_found outcome.found

-- the most that one of these lacks
abbrev pub most_missing : List Tried → ℕ
most_missing tried = fold (λ most one. max most (missing one.outcome)) 0 tried

abbrev pub complete_ones : List Tried → List Tried
complete_ones tried = filter (λ one. is_complete one.outcome.found) tried

abbrev pub other_ones : List Tried → List Tried
other_ones tried = filter (λ one. not (is_complete one.outcome.found)) tried

-- how many there are, as far as a number of 64 bits counts
abbrev pub number_of : List Tried → ℕ
number_of tried = min (length tried) (2 ^ 64 - 1)

-- these counts are of what was tried
pub record IsCountOf (tried : List Tried) (counts : Counts) : Type 0 where
  pub stops : counts.stops ≡ number_of tried
  pub complete : counts.complete ≡ most_missing (complete_ones tried)
  pub possible : counts.possible ≡ most_missing (other_ones tried)
