-- What single commands and steps cost, in units of energy.
use Rattle.std.specs.Prelude.{ℕ, ◌+◌, ◌*◌, ◌≤◌, max, List, if◌then◌else◌}
use Rattle.std.specs.List.{sum_by}
use Rattle.ddr4_timing.specs.declared.command.Command.{Command}
use Rattle.ddr4_timing.specs.declared.command.Stamped.{Stamped}
use Rattle.ddr4_timing.specs.Command.{is_act, is_column, is_precharge, is_ref}
use Rattle.energy_budget.specs.declared.costs.CostNumbers.{CostNumbers}

pub record AreCostsInLimits (n : CostNumbers) : Type 0 where
  pub e_act : n.e_act ≤ 1000000
  pub e_col : n.e_col ≤ 1000000
  pub e_pre : n.e_pre ≤ 1000000
  pub e_ref : n.e_ref ≤ 1000000
  pub e_sre : n.e_sre ≤ 1000000
  pub e_clk : n.e_clk ≤ 1000000
  pub e_mark : n.e_mark ≤ 1000000
  pub e_sync : n.e_sync ≤ 1000000
  pub e_page : n.e_page ≤ 1000000
  pub e_digest : n.e_digest ≤ 1000000
  pub leak : n.leak ≤ 1000000

-- a command: a PREA costs what a PRE does, and RD and WR cost the same
abbrev pub command_cost : CostNumbers → Command → ℕ
command_cost n cmd =
    if is_act cmd then n.e_act else
    if is_column cmd then n.e_col else
    if is_precharge cmd then n.e_pre else
    if is_ref cmd then n.e_ref else n.e_sre

-- these commands, and this many clocks
abbrev pub spent_on : CostNumbers → List Stamped → ℕ → ℕ
spent_on n commands clocks = sum_by (λ x. command_cost n x.cmd) commands + n.e_clk * clocks

-- a drain's close step of so many ranks, in at most so many clocks: a PREA and an SRE of each rank
abbrev pub close_cost_of : CostNumbers → ℕ → ℕ → ℕ
close_cost_of n ranks clocks = ranks * (n.e_pre + n.e_sre) + n.e_clk * clocks

-- its entry step: a REF of each rank, then ACT, WR and PRE
abbrev pub entry_cost_of : CostNumbers → ℕ → ℕ → ℕ
entry_cost_of n ranks clocks = ranks * n.e_ref + n.e_act + n.e_col + n.e_pre + n.e_clk * clocks

-- one page of a save: it is written, and its bytes go into the digest
abbrev pub page_cost_of : CostNumbers → ℕ
page_cost_of n = n.e_page + n.e_digest

-- all of a save but its pages: the gate is closed, the header written and the gate opened, with a sync after each
abbrev pub frame_cost_of : CostNumbers → ℕ
frame_cost_of n = 3 * n.e_mark + 3 * n.e_sync

-- one step of a save that is made again: what the dearest of them costs
abbrev pub repeat_cost_of : CostNumbers → ℕ
repeat_cost_of n = max (max n.e_mark n.e_sync) (page_cost_of n)
