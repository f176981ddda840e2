-- What a profile means.
use Rattle.std.specs.Prelude.{◌≡◌, ℕ, ◌*◌, List, [], ◌∷◌, min, nat_lt, if◌then◌else◌, Option, Some, None}
use Rattle.ddr4_timing.specs.Limits.{close_of, entry_of, lines_of}
use Rattle.ddr4_timing.specs.declared.timing.CommandRules.{CommandRules}
use Rattle.energy_budget.specs.Costs.{AreReckonedFor}
use Rattle.nv_profile.specs.declared.profile.Profile.{Profile}
use Rattle.slot_store.specs.Slots.{device_size}
use Rattle.profile_report.specs.declared.command_meaning.CommandMeaning.{CommandMeaning}
use Rattle.profile_report.specs.declared.meaning.Meaning.{Meaning}

pub record IsMeaningOf (profile : Profile) (m : Meaning) : Type 0 where
  pub profile_is : m.profile ≡ profile
  pub lines : m.lines ≡ lines_of profile.checked.geometry
  pub device_bytes : m.device_bytes ≡ device_size (lines_of profile.checked.geometry)
  pub entry : m.entry ≡ entry_of profile.checked.timing profile.checked.geometry
  pub close : m.close ≡ close_of profile.checked.timing profile.checked.geometry
  pub costs : AreReckonedFor profile.checked m.costs
  pub numbers : m.costs.numbers ≡ profile.costs
  pub retries : m.costs.retries ≡ profile.sizes.retries

-- of numbers by which commands alone are checked
pub record IsCommandMeaningOf (rules : CommandRules) (m : CommandMeaning) : Type 0 where
  pub rules_are : m.rules ≡ rules
  pub banks : m.banks ≡ rules.geometry.ranks * rules.geometry.groups * rules.geometry.banks

-- a number where it is above another one
abbrev pub if_above : ℕ → ℕ → Option ℕ
if_above other number = if nat_lt other number then Some number else None

-- No pending write, one, a full queue of one channel, and full queues of all; no more than 1,024.
abbrev pub pending_told : Meaning → List (Option ℕ)
pending_told m =
    let depth = min m.profile.sizes.depth 1024 in
    let all = min (m.profile.checked.geometry.channels * m.profile.sizes.depth) 1024 in
    Some 0 ∷ Some 1 ∷ if_above 1 depth ∷ if_above depth all ∷ []
