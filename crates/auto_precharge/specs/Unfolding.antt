-- The list of commands that the commands of a channel stand for. A read or a write with auto-precharge stands for a read or a write, and
-- for a precharge of its bank at the least clock that the rules allow behind it. The precharge takes no clock of the command bus:
-- it stands behind all commands up to its clock, and before those at later ones.
use Rattle.std.specs.Prelude.{◌≡◌, ℕ, ◌≤◌, Bool, false, ◌&&◌, if◌then◌else◌, nat_le, List, [], ◌∷◌, ◌++◌, flat_map, fold, map, replicate, Option, Some, None, IsTrue, slice_index_or, slice_set}
use Rattle.ddr4_timing.specs.Command.{bank_of, is_column}
use Rattle.ddr4_timing.specs.Floors.{least_clock}
use Rattle.ddr4_timing.specs.Lawful.{MayComeNext}
use Rattle.ddr4_timing.specs.Places.{HasBank, bank_index}
use Rattle.ddr4_timing.specs.TimingState.{Keeps}
use Rattle.ddr4_timing.specs.declared.command.Command.{Command}
use Rattle.ddr4_timing.specs.declared.command.Command.TheVariants.{Pre}
use Rattle.ddr4_timing.specs.declared.command.Stamped.{Stamped}
use Rattle.ddr4_timing.specs.declared.timing.CommandRules.{CommandRules}
use Rattle.ddr4_timing.specs.declared.timing.Geometry.{Geometry}
use Rattle.ddr4_timing.specs.declared.timing.Timing.{Timing}
use Rattle.auto_precharge.specs.declared.issued.Issued.{Issued}
use Rattle.auto_precharge.specs.declared.waiting.Closing.{Closing}
use Rattle.auto_precharge.specs.declared.unfolding.Unfolding.{Unfolding}

-- The list as far as it is settled, the line of each command of it, and the precharges that are still to come, each in the place of
-- its bank
pub record Unfolded : Type 0 where
  pub list : List Stamped
  pub lines : List ℕ
  pub waiting : List (Option Closing)

-- before any command
abbrev pub unfolded_none : Unfolded
unfolded_none = record { list = []; lines = []; waiting = replicate 128 None }

-- a precharge as a command, where it goes before a clock,
abbrev pub gone : ℕ → Option Closing → List Stamped
gone clock None = []
gone clock (Some p) = if nat_le clock p.clock then [] else record { clock = p.clock; cmd = Pre p.at } ∷ []

-- with the line of the command that brings it,
abbrev pub gone_line : ℕ → Option Closing → List ℕ
gone_line clock None = []
gone_line clock (Some p) = if nat_le clock p.clock then [] else p.line ∷ []

-- and as one that is still to come, where it doesn't
abbrev pub rest : ℕ → Option Closing → Option Closing
rest clock None = None
rest clock (Some p) = if nat_le clock p.clock then Some p else None

-- the precharges that go before a clock, in the order of their banks, and those that are to come behind it
abbrev pub due : ℕ → List (Option Closing) → List Stamped
due clock waiting = flat_map (λ p. gone clock p) waiting

abbrev pub due_lines : ℕ → List (Option Closing) → List ℕ
due_lines clock waiting = flat_map (λ p. gone_line clock p) waiting

abbrev pub later : ℕ → List (Option Closing) → List (Option Closing)
later clock waiting = map (λ p. rest clock p) waiting

-- up to a clock
abbrev pub settled : ℕ → Unfolded → Unfolded
settled clock u = record { list = u.list ++ due clock u.waiting; lines = u.lines ++ due_lines clock u.waiting; waiting = later clock u.waiting }

-- the precharge that a command brings with it, behind the list that it is the last of
abbrev pub brought : Timing → List Stamped → Issued → Closing
brought t list x =
    let at = bank_of x.command.cmd in
    record { at = at; clock = least_clock t list (Pre at); line = x.line }

-- a command goes
abbrev pub went : Timing → Unfolded → Issued → Unfolded
went t u x =
    let list = u.list ++ x.command ∷ [] in record {
      list = list;
      lines = u.lines ++ x.line ∷ [];
      waiting = if x.closes && is_column x.command.cmd
          then slice_set u.waiting (bank_index (bank_of x.command.cmd)) (Some (brought t list x)) else u.waiting;
    }

-- with one more command
abbrev pub unfolded_with : Timing → Unfolded → Issued → Unfolded
unfolded_with t u x = went t (settled x.command.clock u) x

-- the commands of a channel, auto-precharge aside
abbrev pub plain_commands : List Issued → List Stamped
plain_commands found = map (λ x. x.command) found

-- what they stand for
abbrev pub unfolded : Timing → List Issued → Unfolded
unfolded t found = fold (λ u x. unfolded_with t u x) unfolded_none found

-- it is no RD or WR of a bank of which a precharge is still to come
abbrev pub IsOpenFor : List (Option Closing) → Command → Type 0
IsOpenFor waiting x = IsTrue (is_column x) → slice_index_or waiting (bank_index (bank_of x)) None ≡ None

-- The command may follow: the sixteen rules hold of it behind what goes before it, and its bank isn't about to be closed.
pub record MayFollow (r : CommandRules) (u : Unfolded) (x : Stamped) : Type 0 where
  pub next : MayComeNext r.timing r.geometry (settled x.clock u).list x
  pub is_open : IsOpenFor (settled x.clock u).waiting x.cmd

-- each command may follow those before it
abbrev pub MayAllFollow : CommandRules → Unfolded → List Issued → Type 0
MayAllFollow r u [] = 0 ≤ 0
MayAllFollow r u (x ∷ found) = MayFollow r u x.command × MayAllFollow r (unfolded_with r.timing u x) found

-- the commands of a channel are lawful
abbrev pub IsLawfulTrace : CommandRules → List Issued → Type 0
IsLawfulTrace r found = MayAllFollow r unfolded_none found

-- each precharge is one of a bank of the geometry
abbrev pub ArePlaced : Geometry → List (Option Closing) → Type 0
ArePlaced g waiting = (i : ℕ) (p : Closing) → slice_index_or waiting i None ≡ Some p → HasBank g p.at

-- none is before a clock
abbrev pub AreFrom : ℕ → List (Option Closing) → Type 0
AreFrom clock waiting = (i : ℕ) (p : Closing) → slice_index_or waiting i None ≡ Some p → clock ≤ p.clock

-- none is to come
abbrev pub NoneWaits : List (Option Closing) → Type 0
NoneWaits waiting = (i : ℕ) → slice_index_or waiting i None ≡ None

-- the state is that behind the list, and the table has the precharges that are to come
pub record Stands (r : CommandRules) (m : Unfolding) (u : Unfolded) : Type 0 where
  pub keeps : Keeps r.timing r.geometry m.state u.list
  pub closings : m.closings ≡ u.waiting
  pub from : AreFrom m.soonest u.waiting
  pub placed : ArePlaced r.geometry u.waiting
  pub quiet : m.waits ≡ false → NoneWaits u.waiting
