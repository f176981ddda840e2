-- What is written of the statistics of a trace, one text behind another.
use Rattle.std.specs.Prelude.{◌≡◌, ℕ, zero, suc, ◌/◌, ◌%◌, ◌⊎◌, if◌then◌else◌, List, [], ◌++◌}
use Rattle.auto_precharge.specs.Unfolding.{IsLawfulTrace, plain_commands}
use Rattle.auto_precharge.specs.declared.issued.Issued.{Issued}
use Rattle.command_trace.specs.Channels.{FollowsAll, issued_to}
use Rattle.command_trace.specs.declared.entry.Located.{Located}
use Rattle.ddr4_timing.specs.Places.{HasBank}
use Rattle.ddr4_timing.specs.declared.place.BankAddress.{BankAddress}
use Rattle.ddr4_timing.specs.declared.timing.CommandRules.{CommandRules}
use Rattle.trace_statistics.specs.Margins.{AreMarginsOf}
use Rattle.trace_statistics.specs.Numbers.{AreNumbersOfBank, AreNumbersOfChannel, AreNumbersOfRanks, is_none, last_clock, latest}
use Rattle.trace_statistics.specs.Standing.{AreOfLawful}
use Rattle.trace_statistics.specs.Texts.{bank_line, channel_line, rank_line}
use Rattle.trace_statistics.specs.declared.margins.Margins.{Margins}
use Rattle.trace_statistics.specs.declared.numbers.BankNumbers.{BankNumbers}
use Rattle.trace_statistics.specs.declared.numbers.RankNumbers.{RankNumbers}
use Rattle.trace_statistics.specs.declared.stream.Measured.{Measured}

-- the check is of the commands that came, and counted are those of the channels that are lawful
pub record IsMeasured (r : CommandRules) (m : Measured) : Type 0 where
  pub follows : FollowsAll r m.check
  pub lawful : AreOfLawful r m.check.given.items m.statistics.given.items
  pub rules : m.statistics.rules ≡ r

-- a text for each number below a count, in their order
unfoldable pub TellsBelow : (ℕ → List ℕ → Type 0) → ℕ → List ℕ → Type 0
TellsBelow Tells zero text = text ≡ []
TellsBelow Tells (suc n) text = (before : List ℕ) × (here : List ℕ) × TellsBelow Tells n before × Tells n here × (text ≡ before ++ here)

-- the bank of a number, in the order of ranks, of their groups and of the banks of these
abbrev pub bank_numbered : ℕ → BankAddress
bank_numbered n = record { rank = n / 16; group = n / 4 % 4; bank = n % 4 }

-- a bank that had a command is told with its numbers, in some writing of both; no other one is told
abbrev pub TellsBank : (BankAddress → BankNumbers → List ℕ) → List Issued → BankAddress → List ℕ → Type 0
TellsBank written list at text = (n : BankNumbers) × AreNumbersOfBank at list n × (text ≡ (if is_none n then [] else written at n))

-- of the banks that the geometry has, by their numbers
abbrev pub TellsNumbered : (BankAddress → BankNumbers → List ℕ) → CommandRules → List Issued → ℕ → List ℕ → Type 0
TellsNumbered written r list n text =
    (HasBank r.geometry (bank_numbered n) × TellsBank written list (bank_numbered n) text) ⊎ ((¬ HasBank r.geometry (bank_numbered n)) × (text ≡ []))

-- the line of a bank, by the clock of the last command of its channel
abbrev pub told_bank : ℕ → List Issued → BankAddress → BankNumbers → List ℕ
told_bank channel list at n = bank_line channel at (record { numbers = n; last = last_clock list })

-- a rank is told with its margins
abbrev pub TellsRank : (ℕ → Margins → List ℕ) → CommandRules → List Issued → ℕ → List ℕ → Type 0
TellsRank written r list rank text = (m : Margins) × AreMarginsOf r.timing rank (plain_commands list) m × (text ≡ written rank m)

-- a channel whose commands are lawful is told by these, and no other one is told
abbrev pub TellsChannel : (ℕ → List Issued → List ℕ → Type 0) → CommandRules → List Located → ℕ → List ℕ → Type 0
TellsChannel Tells r found channel text =
    (IsLawfulTrace r (issued_to channel found) × Tells channel (issued_to channel found) text) ⊎ ((¬ IsLawfulTrace r (issued_to channel found)) × (text ≡ []))

-- the lines of a channel, by its commands: its own, those of its banks, and those of its ranks
pub record AreLinesOf (r : CommandRules) (channel : ℕ) (list : List Issued) (text : List ℕ) : Type 0 where
  pub total : BankNumbers
  pub shared : RankNumbers
  pub banks : List ℕ
  pub ranks : List ℕ
  pub of_all : AreNumbersOfChannel list total
  pub of_ranks : AreNumbersOfRanks (latest list) shared
  pub each_bank : TellsBelow (TellsNumbered (told_bank channel list) r list) 128 banks
  pub each_rank : TellsBelow (TellsRank (rank_line channel) r list) r.geometry.ranks ranks
  pub lines : text ≡ channel_line channel (record { numbers = total; last = last_clock list }) shared ++ (banks ++ ranks)

-- the lines of a trace, channel by channel
abbrev pub TellsStatistics : CommandRules → List Located → List ℕ → Type 0
TellsStatistics r found text = TellsBelow (TellsChannel (AreLinesOf r) r found) r.geometry.channels text
