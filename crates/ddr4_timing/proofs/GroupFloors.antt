-- The least clock of a command to a bank, by what its group and its bank leave to it.
use Rattle.std.proofs.Common.{◌≡◌, ℕ, List, [], false, refl, arith, max, slice_index_or}
use Rattle.ddr4_timing.specs.declared.command.BankCommand.{BankCommand}
use Rattle.ddr4_timing.proofs.Common.{BankAddress, BankCells, Geometry, HasBank, Keeps, RankState, Stamped, Timing, TimingState, least_clock}
use Rattle.ddr4_timing.proofs.FloorLemmas.{floor-Act, floor-Rd, floor-Wr}
use Rattle.ddr4_timing.specs.Command.{command_to}
use Rattle.ddr4_timing.specs.TimingState.{IsBankClock}

-- what a state has where no rank and no bank is
abbrev no_cells : BankCells
no_cells = record { act = 0; column = 0; pre = 0 }

abbrev pub no_rank : RankState
no_rank = record {
  rows = record { is_open = []; rows = [] };
  banks = [];
  group_act = [];
  group_rd = [];
  group_wr = [];
  act = 0;
  pre_all = 0;
  idle = 0;
  window = record { fourth = 0; third = 0; second = 0; last = 0 };
  refresh = record { next = 0; deadline = 0 };
  is_asleep = false;
}

-- what a rank leaves to the commands of a kind to the banks of a group
abbrev pub in_rank : TimingState → ℕ → RankState → ℕ → BankCommand → ℕ
in_rank m column r group BankCommand.Act = max (slice_index_or r.group_act group 0) (max r.act r.window.fourth)
in_rank m column r group BankCommand.Pre = 0
in_rank m column r group BankCommand.Rd = max column (slice_index_or r.group_rd group 0)
in_rank m column r group BankCommand.Wr = max column (max m.write (slice_index_or r.group_wr group 0))

-- and what the channel does
abbrev pub group_floor : TimingState → ℕ → ℕ → BankCommand → ℕ
group_floor m rank group kind = max m.next (in_rank m (slice_index_or m.columns rank 0) (slice_index_or m.ranks rank no_rank) group kind)

pub joined : (t : Timing) (g : Geometry) (m : TimingState) (list : List Stamped) (at : BankAddress) (kind : BankCommand) (number clock : ℕ) →
    Keeps t g m list → HasBank g at → IsBankClock m at kind clock →
    max (group_floor m at.rank at.group kind) clock ≡ least_clock t list (command_to kind at number)
unfolding least_clock
joined t g m list at BankCommand.Act number clock s place cell =
    let here = s at.rank 0 no_rank place.rank in
    let bank = here.banks at no_cells 0 place refl in
    rw floor-Act (omega (arith, cell no_rank no_cells, here.windows.fourth, bank.act))
joined t g m list at BankCommand.Pre number clock s place cell =
    let here = s at.rank 0 no_rank place.rank in
    let bank = here.banks at no_cells 0 place refl in
    omega (arith, cell no_rank no_cells, bank.pre)
joined t g m list at BankCommand.Rd number clock s place cell =
    let here = s at.rank 0 no_rank place.rank in
    let bank = here.banks at no_cells 0 place refl in
    rw floor-Rd (omega (arith, cell no_rank no_cells, bank.rd))
joined t g m list at BankCommand.Wr number clock s place cell =
    let here = s at.rank 0 no_rank place.rank in
    let bank = here.banks at no_cells 0 place refl in
    rw floor-Wr (omega (arith, cell no_rank no_cells, bank.wr))
