-- Bars and the rows that are open by the timing rules.
use Rattle.std.specs.Prelude.{◌≡◌, ℕ, ◌==◌, List, [], ◌∷◌, ◌++◌, Option, Some, None, IfSome, IsTrue, filter, map, take}
use Rattle.ddr4_timing.specs.Command.{is_precharge}
use Rattle.ddr4_timing.specs.Lawful.{open_row}
use Rattle.ddr4_timing.specs.declared.command.Command.TheVariants.{Act}
use Rattle.ddr4_timing.specs.declared.command.Stamped.{Stamped}
use Rattle.ddr4_timing.specs.declared.place.BankAddress.{BankAddress}
use Rattle.command_trace.specs.declared.entry.ChannelCommand.{ChannelCommand}
use Rattle.schedule_drawing.specs.declared.shapes.Shape.{Shape}
use Rattle.schedule_drawing.specs.Drawing.{row_bar}
use Rattle.schedule_drawing.specs.Lanes.{bank_lane}

-- what goes to a channel
abbrev pub entries_to : ℕ → List ChannelCommand → List ChannelCommand
entries_to channel entries = filter (λ entry. entry.channel == channel) entries

-- the commands of a channel
abbrev pub commands_to : ℕ → List ChannelCommand → List Stamped
commands_to channel entries = map (λ entry. entry.command) (entries_to channel entries)

-- From an ACT of the bank on, its row is the one that is open there, behind each front of these commands.
abbrev pub StaysOpen : ℕ → BankAddress → List ChannelCommand → Type 0
StaysOpen channel bank between =
    (n row : ℕ) (before : List ChannelCommand) (act : ChannelCommand) → act.channel ≡ channel → act.command.cmd ≡ Act bank row
    → open_row bank (commands_to channel (before ++ act ∷ take n between)) ≡ Some row

-- it is up to the command that closes the bank, or to the end where none does
abbrev pub IsOpenUntil : ℕ → BankAddress → List ChannelCommand → Option ChannelCommand → Type 0
IsOpenUntil channel bank behind None = StaysOpen channel bank behind
IsOpenUntil channel bank behind (Some close) =
    (between : List ChannelCommand) × (after : List ChannelCommand) × (behind ≡ between ++ close ∷ after) × StaysOpen channel bank between

-- behind a precharge no row is open there
abbrev pub IsShutBy : ℕ → BankAddress → ChannelCommand → Type 0
IsShutBy channel bank close =
    IsTrue (is_precharge close.command.cmd) → (before : List ChannelCommand)
    → open_row bank (commands_to channel (before ++ close ∷ [])) ≡ None

-- The bar shows the row: it ends with a command up to which the row is open, and none is behind it where that is a precharge.
pub record ShowsRow (channel : ℕ) (bank : BankAddress) (row from end : ℕ) (behind : List ChannelCommand) (bar : Shape) : Type 0 where
  pub close : Option ChannelCommand
  pub bar_is : bar ≡ row_bar (bank_lane channel bank) row from end close
  pub stays : IsOpenUntil channel bank behind close
  pub shut : IfSome close (λ last. IsShutBy channel bank last)
