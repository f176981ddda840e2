-- A list that is kept of what the commands of a channel stand for.
use Rattle.std.specs.Prelude.{◌≡◌, ◌<◌, ◌^◌, List, All}
use Rattle.ddr4_timing.specs.declared.timing.CommandRules.{CommandRules}
use Rattle.auto_precharge.specs.Unfolding.{Stands, Unfolded}
use Rattle.auto_precharge.specs.declared.full_list.FullList.{FullList}
use Rattle.auto_precharge.specs.declared.issued.Issued.{Issued}

-- all clocks are those that a check takes
abbrev pub AreEarly : List Issued → Type 0
AreEarly found = All (λ x. x.command.clock < 2 ^ 63) found

-- the list that the commands of a channel stand for, with the line of each, and the state behind it
pub record ListsAll (r : CommandRules) (full : FullList) (u : Unfolded) : Type 0 where
  pub commands : full.commands.items ≡ u.list
  pub lines : full.lines.items ≡ u.lines
  pub stands : Stands r full.behind u
