-- For which commands the state of the statistics stands.
use Rattle.std.specs.Prelude.{◌≡◌, ℕ, ◌<◌, Bool, true, false, ◌&&◌, if◌then◌else◌, min, ◌+◌, ◌-◌, ◌^◌, List, [], ◌∷◌, slice_index_or}
use Rattle.ddr4_timing.specs.Command.{is_act, is_column, is_pre, is_rd, is_wr}
use Rattle.ddr4_timing.specs.Places.{HasSlot, is_bank, slot_of}
use Rattle.ddr4_timing.specs.declared.command.Command.{Command}
use Rattle.ddr4_timing.specs.declared.command.Command.TheVariants.{Act, Rd, Wr, Pre, PreAll, Ref, Sre}
use Rattle.ddr4_timing.specs.declared.place.BankAddress.{BankAddress}
use Rattle.auto_precharge.specs.Unfolding.{IsLawfulTrace}
use Rattle.auto_precharge.specs.declared.issued.Issued.{Issued}
use Rattle.ddr4_timing.specs.declared.timing.CommandRules.{CommandRules}
use Rattle.command_trace.specs.Channels.{issued_to}
use Rattle.command_trace.specs.declared.entry.Located.{Located}
use Rattle.trace_statistics.specs.declared.channel.Channel.{Channel}
use Rattle.trace_statistics.specs.declared.numbers.BankNumbers.{BankNumbers}
use Rattle.trace_statistics.specs.declared.phase.Phase.{Phase}
use Rattle.trace_statistics.specs.declared.phase.Phase.TheVariants.{Closed, Precharged, Opened, Reopened, Used}
use Rattle.trace_statistics.specs.declared.rank.Rank.{Rank}
use Rattle.trace_statistics.specs.Numbers.{AreNumbersOf, AreNumbersOfRanks, is_behind_pre, last_clock, latest, touching}

-- how a command leaves a bank that it touches
abbrev pub phase_behind : Command → Bool → List Issued → Phase
phase_behind (Act at row) closes before = if is_behind_pre before then Reopened else Opened
phase_behind (Rd at column) closes before = if closes then Closed else Used
phase_behind (Wr at column) closes before = if closes then Closed else Used
phase_behind (Pre at) closes before = Precharged
phase_behind (PreAll rank) closes before = Closed
phase_behind (Ref rank) closes before = Closed
phase_behind (Sre rank) closes before = Closed

-- what the commands that touched a bank left it, the latest first
abbrev pub phase_of : List Issued → Phase
phase_of [] = Closed
phase_of (x ∷ before) = phase_behind x.command.cmd x.closes before

abbrev pub is_used : Phase → Bool
is_used Used = true
is_used _ = false

abbrev pub is_opened : Phase → Bool
is_opened Opened = true
is_opened _ = false

abbrev pub is_reopened : Phase → Bool
is_reopened Reopened = true
is_reopened _ = false

-- a count with one more, where something is so
abbrev pub counted : Bool → ℕ → ℕ
counted so n = if so then min (n + 1) (2 ^ 64 - 1) else n

-- the numbers with a command that found its bank so
pub record AreWith (cmd : Command) (phase : Phase) (old new : BankNumbers) : Type 0 where
  pub activates : new.activates ≡ counted (is_act cmd) old.activates
  pub reads : new.reads ≡ counted (is_rd cmd) old.reads
  pub writes : new.writes ≡ counted (is_wr cmd) old.writes
  pub precharges : new.precharges ≡ counted (is_pre cmd) old.precharges
  pub hits : new.hits ≡ counted (is_column cmd && is_used phase) old.hits
  pub misses : new.misses ≡ counted (is_column cmd && is_opened phase) old.misses
  pub conflicts : new.conflicts ≡ counted (is_column cmd && is_reopened phase) old.conflicts

-- the numbers with what a RD or WR found
pub record AreFound (phase : Phase) (old new : BankNumbers) : Type 0 where
  pub hits : new.hits ≡ counted (is_used phase) old.hits
  pub misses : new.misses ≡ counted (is_opened phase) old.misses
  pub conflicts : new.conflicts ≡ counted (is_reopened phase) old.conflicts
  pub others : new ≡ record old { hits = new.hits; misses = new.misses; conflicts = new.conflicts }

-- a bank behind the commands of its channel
pub record BankStands (phase : Phase) (n : BankNumbers) (at : BankAddress) (list : List Issued) : Type 0 where
  pub stands : phase ≡ phase_of (touching at list)
  pub numbers : AreNumbersOf (λ bank. is_bank bank at) list n

-- a rank
pub record RankStands (rank : ℕ) (r : Rank) (list : List Issued) : Type 0 where
  pub banks : (at : BankAddress) (phase : Phase) (none : BankNumbers) → HasSlot at → at.rank ≡ rank →
      BankStands (slice_index_or r.phases (slot_of at) phase) (slice_index_or r.banks (slot_of at) none) at list

-- and a channel
pub record ChannelStands (c : Channel) (list : List Issued) : Type 0 where
  pub ranks : (rank : ℕ) (none : Rank) → rank < 8 → RankStands rank (slice_index_or c.ranks rank none) (latest list)
  pub total : AreNumbersOf (λ bank. true) (latest list) c.total
  pub shared : AreNumbersOfRanks (latest list) c.shared
  pub last : c.last ≡ last_clock list

-- each channel stands for its commands
abbrev pub StandForAll : List Channel → List Located → Type 0
StandForAll channels found =
    (channel : ℕ) (none : Channel) → channel < 8 → ChannelStands (slice_index_or channels channel none) (issued_to channel found)

-- what was counted of each channel whose commands are lawful are these
abbrev pub AreOfLawful : CommandRules → List Located → List Located → Type 0
AreOfLawful r found counted =
    (channel : ℕ) → channel < 8 → IsLawfulTrace r (issued_to channel found) → issued_to channel counted ≡ issued_to channel found

-- a command to one bank, which it names
abbrev pub IsOfBank : BankAddress → Command → Type 0
IsOfBank at (Act bank row) = bank ≡ at
IsOfBank at (Rd bank column) = bank ≡ at
IsOfBank at (Wr bank column) = bank ≡ at
IsOfBank at (Pre bank) = bank ≡ at
IsOfBank at (PreAll rank) = ⊥
IsOfBank at (Ref rank) = ⊥
IsOfBank at (Sre rank) = ⊥
