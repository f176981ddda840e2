-- What is written of the statistics of a trace as objects, each a line of its own.
use Rattle.std.specs.Prelude.{◌≡◌, ℕ, List, [], ◌∷◌, ◌++◌}
use Rattle.auto_precharge.specs.declared.issued.Issued.{Issued}
use Rattle.command_trace.specs.declared.entry.Located.{Located}
use Rattle.ddr4_timing.specs.declared.place.BankAddress.{BankAddress}
use Rattle.ddr4_timing.specs.declared.timing.CommandRules.{CommandRules}
use Rattle.serde_json.specs.Data.{Data}
use Rattle.serde_json.specs.Written.{compact_text}
use Rattle.statistics_report.specs.Objects.{bank_data, channel_data, rank_data, shared_data}
use Rattle.trace_statistics.specs.Numbers.{AreNumbersOfChannel, AreNumbersOfRanks, last_clock, latest}
use Rattle.trace_statistics.specs.Telling.{TellsBelow, TellsChannel, TellsNumbered, TellsRank}
use Rattle.trace_statistics.specs.declared.margins.Margins.{Margins}
use Rattle.trace_statistics.specs.declared.numbers.BankNumbers.{BankNumbers}
use Rattle.trace_statistics.specs.declared.numbers.RankNumbers.{RankNumbers}

-- an object as a line: its text without spaces, and a newline
abbrev pub object_line : Data → List ℕ
object_line value = compact_text value ++ 10 ∷ []

-- that of a rank, and that of a bank
abbrev pub told_rank : ℕ → ℕ → Margins → List ℕ
told_rank channel rank m = object_line (rank_data channel rank m)

abbrev pub told_bank : ℕ → BankAddress → BankNumbers → List ℕ
told_bank channel at n = object_line (bank_data channel at n)

-- the objects of a channel, by its commands: its own, that of its ranks together, one of each rank, and one of each bank
pub record AreObjectsOf (r : CommandRules) (channel : ℕ) (list : List Issued) (text : List ℕ) : Type 0 where
  pub total : BankNumbers
  pub shared : RankNumbers
  pub ranks : List ℕ
  pub banks : List ℕ
  pub of_all : AreNumbersOfChannel list total
  pub of_ranks : AreNumbersOfRanks (latest list) shared
  pub each_rank : TellsBelow (TellsRank (told_rank channel) r list) r.geometry.ranks ranks
  pub each_bank : TellsBelow (TellsNumbered (told_bank channel) r list) 128 banks
  pub objects : text ≡ object_line (channel_data channel (last_clock list) total) ++ (object_line (shared_data channel shared) ++ (ranks ++ banks))

-- the objects of a trace, channel by channel
abbrev pub TellsObjects : CommandRules → List Located → List ℕ → Type 0
TellsObjects r found text = TellsBelow (TellsChannel (AreObjectsOf r) r found) r.geometry.channels text
