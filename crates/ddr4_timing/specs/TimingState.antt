-- Which lists of commands a `TimingState` stands for.
use Rattle.std.specs.Prelude.{◌≡◌, ◌↔◌, ℕ, ◌+◌, ◌*◌, ◌<◌, Bool, ◌||◌, max, List, length, slice_index_or, IsTrue}
use Rattle.ddr4_timing.specs.declared.place.BankAddress.{BankAddress}
use Rattle.ddr4_timing.specs.declared.command.BankCommand.{BankCommand}
use Rattle.ddr4_timing.specs.declared.command.Command.{Command}
use Rattle.ddr4_timing.specs.declared.command.Command.TheVariants.{Act, Rd, Wr, Pre, PreAll, Ref, Sre}
use Rattle.ddr4_timing.specs.declared.command.Stamped.{Stamped}
use Rattle.ddr4_timing.specs.declared.timing.Timing.{Timing}
use Rattle.ddr4_timing.specs.declared.timing.Geometry.{Geometry}
use Rattle.ddr4_timing.specs.declared.cells.BankCells.{BankCells}
use Rattle.ddr4_timing.specs.declared.rank.RankState.{RankState}
use Rattle.ddr4_timing.specs.declared.rank.Window.{Window}
use Rattle.ddr4_timing.specs.declared.rank.Refresh.{Refresh}
use Rattle.ddr4_timing.specs.declared.timing_state.TimingState.{TimingState}
use Rattle.ddr4_timing.specs.Command.{command_to, is_sre, rank_of}
use Rattle.ddr4_timing.specs.Demands.{Demand, beyond_rank, demand_of, in_bank, in_groups}
use Rattle.ddr4_timing.specs.Floors.{floor, least_clock, window}
use Rattle.ddr4_timing.specs.Lawful.{row_after, open_row, last_ref, ref_count, is_asleep, with_command, AllClosed, FitsRows, IsLawfulIn, IsNotEarly, KeepsRows, MayComeNext}
use Rattle.ddr4_timing.specs.Places.{HasBank, HasSlot, slot_of}
use Rattle.ddr4_timing.specs.Rows.{row_in}

-- The least clock of each command to a bank is the greatest of these: of its bank's, its group's, its rank's and the
-- channel's. `next` is one past the last command, `write` is behind each RD, `column` behind each RD and WR of another rank.
pub record BankStands (t : Timing) (list : List Stamped) (next write column : ℕ) (at : BankAddress) (r : RankState) (b : BankCells) (group_act group_rd group_wr : ℕ) : Type 0 where
  pub row : row_in r.rows at ≡ open_row at list
  pub act : max next (max b.act (max group_act r.act)) ≡ floor t list (Act at 0)
  pub rd : max next (max column (max b.column group_rd)) ≡ floor t list (Rd at 0)
  pub wr : max next (max column (max write (max b.column group_wr))) ≡ floor t list (Wr at 0)
  pub pre : max next b.pre ≡ floor t list (Pre at)

-- tFAW after each of a rank's last four ACT
pub record WindowStands (t : Timing) (rank : ℕ) (list : List Stamped) (w : Window) : Type 0 where
  pub fourth : w.fourth ≡ window t rank 3 list
  pub third : w.third ≡ window t rank 2 list
  pub second : w.second ≡ window t rank 1 list
  pub last : w.last ≡ window t rank 0 list

-- a rank's refreshes
pub record RefreshStands (t : Timing) (rank : ℕ) (list : List Stamped) (r : Refresh) : Type 0 where
  pub next : r.next ≡ (ref_count rank list + 1) * t.t_refi
  pub deadline : r.deadline ≡ last_ref rank list + 9 * t.t_refi

-- a rank's banks, windows, refreshes and sleep, and the least clock of each command to it
pub record RankStands (t : Timing) (g : Geometry) (list : List Stamped) (next write column rank : ℕ) (r : RankState) : Type 0 where
  pub banks : (at : BankAddress) (bank : BankCells) (none : ℕ) → HasBank g at → at.rank ≡ rank →
      BankStands t list next write column at r (slice_index_or r.banks (slot_of at) bank)
      (slice_index_or r.group_act at.group none) (slice_index_or r.group_rd at.group none) (slice_index_or r.group_wr at.group none)
  pub pre_all : max next r.pre_all ≡ floor t list (PreAll rank)
  pub refresh : max next r.idle ≡ floor t list (Ref rank)
  pub sleep : max next r.idle ≡ floor t list (Sre rank)
  pub windows : WindowStands t rank list r.window
  pub refreshes : RefreshStands t rank list r.refresh
  pub asleep : r.is_asleep ≡ is_asleep rank list

-- The clocks and rows are those that the list leaves.
abbrev pub Keeps : Timing → Geometry → TimingState → List Stamped → Type 0
Keeps t g m list =
    (rank column : ℕ) (none : RankState) → rank < g.ranks →
    RankStands t g list m.next m.write (slice_index_or m.columns rank column) rank (slice_index_or m.ranks rank none)

-- And the list is lawful.
pub record StandsFor (t : Timing) (g : Geometry) (m : TimingState) (list : List Stamped) : Type 0 where
  pub lawful : IsLawfulIn t g list
  pub ranks : Keeps t g m list

-- new is the state old after a command, for each list that the command leaves lawful
abbrev pub IsStateAfter : Timing → Geometry → ℕ → Command → TimingState → TimingState → Type 0
IsStateAfter t g clock x old new =
    (list : List Stamped) → StandsFor t g old list → IsLawfulIn t g (with_command list clock x) →
    StandsFor t g new (with_command list clock x)

-- and for each list, where the command isn't an early REF
abbrev pub IsKeptAfter : Timing → Geometry → ℕ → Command → TimingState → TimingState → Type 0
IsKeptAfter t g clock x old new =
    (list : List Stamped) → Keeps t g old list → IsNotEarly t list (record { clock = clock; cmd = x }) →
    Keeps t g new (with_command list clock x)

-- r is what the state keeps of a rank
abbrev pub IsRankOf : Timing → Geometry → TimingState → ℕ → RankState → Type 0
IsRankOf t g m rank r =
    (list : List Stamped) (column : ℕ) → Keeps t g m list →
    RankStands t g list m.next m.write (slice_index_or m.columns rank column) rank r

-- The answers of a state, of each list that it keeps: whether a rank's banks are all closed,
abbrev pub TellsClosed : Timing → Geometry → TimingState → ℕ → Bool → Type 0
TellsClosed t g m rank answer =
    (list : List Stamped) → Keeps t g m list → (IsTrue answer ↔ AllClosed g rank list)

-- whether the banks are as a command wants them,
abbrev pub TellsFit : Timing → Geometry → TimingState → Command → Bool → Type 0
TellsFit t g m x answer = (list : List Stamped) → Keeps t g m list → (IsTrue answer ↔ FitsRows g list x)

-- whether it keeps the rule on rows,
abbrev pub TellsRows : Timing → Geometry → TimingState → Command → Bool → Type 0
TellsRows t g m x answer = (list : List Stamped) → Keeps t g m list → (IsTrue answer ↔ KeepsRows g list x)

-- its least clock,
abbrev pub TellsLeastClock : Timing → Geometry → TimingState → Command → ℕ → Type 0
TellsLeastClock t g m x answer = (list : List Stamped) → Keeps t g m list → answer ≡ least_clock t list x

-- that of a bank's command of a kind, whatever row or column it names,
abbrev pub TellsClockTo : Timing → Geometry → TimingState → BankCommand → BankAddress → ℕ → Type 0
TellsClockTo t g m kind at answer = (number : ℕ) → TellsLeastClock t g m (command_to kind at number) answer

-- whether it may come next,
abbrev pub TellsNext : Timing → Geometry → TimingState → Command → ℕ → Bool → Type 0
TellsNext t g m x clock answer =
    (list : List Stamped) → Keeps t g m list → (IsTrue answer ↔ MayComeNext t g list (record { clock = clock; cmd = x }))

-- and of each list that it stands for, whether the list with it is lawful
abbrev pub TellsLawful : Timing → Geometry → TimingState → Command → ℕ → Bool → Type 0
TellsLawful t g m x clock answer =
    (list : List Stamped) → StandsFor t g m list → (IsTrue answer ↔ IsLawfulIn t g (with_command list clock x))

-- the cell of a bank for its next command of a kind
abbrev pub cell_of : BankCommand → BankCells → ℕ
cell_of BankCommand.Act cells = cells.act
cell_of BankCommand.Pre cells = cells.pre
cell_of BankCommand.Rd cells = cells.column
cell_of BankCommand.Wr cells = cells.column

-- The clock is what the commands of a bank leave to its next one of a kind, by what is kept of its rank,
abbrev pub LeavesTo : BankCommand → RankState → BankAddress → ℕ → Type 0
LeavesTo kind r at clock = (none : BankCells) → clock ≡ cell_of kind (slice_index_or r.banks (slot_of at) none)

-- by what is kept of its channel.
abbrev pub IsBankClock : TimingState → BankAddress → BankCommand → ℕ → Type 0
IsBankClock m at kind clock = (none : RankState) → LeavesTo kind (slice_index_or m.ranks at.rank none) at clock

-- The floor is what all other commands leave to the next one of a kind to any bank of a group: the greater of it and the bank's clock
-- is the least clock of that command, whatever row or column it names.
abbrev pub IsGroupFloor : Timing → Geometry → TimingState → ℕ → ℕ → BankCommand → ℕ → Type 0
IsGroupFloor t g m rank group kind floor =
    (list : List Stamped) (at : BankAddress) (number clock : ℕ) → Keeps t g m list → HasBank g at → at.rank ≡ rank → at.group ≡ group
    → IsBankClock m at kind clock → max floor clock ≡ least_clock t list (command_to kind at number)

-- A least clock rises to what a gap leaves behind a clock, as far as that lies past the clock.
abbrev pub ClockRises : ℕ → ℕ → ℕ → ℕ → Type 0
ClockRises clock gap old new = max (clock + 1) new ≡ max (clock + 1) (max old (clock + gap))

pub record BankRises (clock : ℕ) (x : Command) (at : BankAddress) (to_act to_column to_pre : ℕ) (old new : BankCells) : Type 0 where
  pub act : ClockRises clock (in_bank x at to_act) old.act new.act
  pub column : ClockRises clock (in_bank x at to_column) old.column new.column
  pub pre : ClockRises clock (in_bank x at to_pre) old.pre new.pre

-- the cells of the banks of a command's rank, by the gaps to the commands of its bank
abbrev pub BanksRise : ℕ → Command → ℕ → ℕ → ℕ → List BankCells → List BankCells → Type 0
BanksRise clock x to_act to_column to_pre old new =
    (at : BankAddress) (none : BankCells) → HasSlot at → at.rank ≡ rank_of x →
    BankRises clock x at to_act to_column to_pre (slice_index_or old (slot_of at) none) (slice_index_or new (slot_of at) none)

-- the cells of the groups of a command's rank, by the gaps to the commands of its group and of the others
abbrev pub GroupsRise : ℕ → Command → ℕ → ℕ → List ℕ → List ℕ → Type 0
GroupsRise clock x near far old new =
    (at : BankAddress) (none : ℕ) → HasSlot at → at.rank ≡ rank_of x →
    ClockRises clock (in_groups x at near far) (slice_index_or old at.group none) (slice_index_or new at.group none)

-- the cells of a rank, behind a command of it
pub record CellsRise (clock : ℕ) (x : Command) (d : Demand) (old new : RankState) : Type 0 where
  pub banks : BanksRise clock x d.bank_act d.bank_column d.bank_pre old.banks new.banks
  pub group_act : GroupsRise clock x d.near_act d.far_act old.group_act new.group_act
  pub group_rd : GroupsRise clock x d.near_rd d.far_rd old.group_rd new.group_rd
  pub group_wr : GroupsRise clock x d.near_wr d.far_wr old.group_wr new.group_wr
  pub act : ClockRises clock d.rank_act old.act new.act
  pub pre_all : ClockRises clock d.rank_pre_all old.pre_all new.pre_all
  pub idle : ClockRises clock d.rank_idle old.idle new.idle

-- a rank's windows, refreshes and sleep, behind a command of it
pub record HistoryFollows (t : Timing) (clock : ℕ) (x : Command) (old new : RankState) : Type 0 where
  pub windows : (list : List Stamped) → WindowStands t (rank_of x) list old.window → WindowStands t (rank_of x) (with_command list clock x) new.window
  pub refreshes : (list : List Stamped) → RefreshStands t (rank_of x) list old.refresh → IsNotEarly t list (record { clock = clock; cmd = x }) →
      RefreshStands t (rank_of x) (with_command list clock x) new.refresh
  pub asleep : new.is_asleep ≡ (old.is_asleep || is_sre x)

-- new is the rank old after a command of it
pub record RankTakes (t : Timing) (clock : ℕ) (x : Command) (old new : RankState) : Type 0 where
  pub rows : (at : BankAddress) → HasSlot at → at.rank ≡ rank_of x → row_in new.rows at ≡ row_after at (row_in old.rows at) x
  pub cells : CellsRise clock x (demand_of t x) old new
  pub history : HistoryFollows t clock x old new

-- what all ranks share, after a command
pub record ChannelTakes (t : Timing) (clock : ℕ) (x : Command) (old new : TimingState) : Type 0 where
  pub ranks : new.ranks ≡ old.ranks
  pub next : new.next ≡ max old.next (clock + 1)
  pub write : ClockRises clock (demand_of t x).write old.write new.write
  pub columns : (rank none : ℕ) → rank < length old.columns →
      ClockRises clock (beyond_rank x rank (demand_of t x).beyond) (slice_index_or old.columns rank none) (slice_index_or new.columns rank none)
