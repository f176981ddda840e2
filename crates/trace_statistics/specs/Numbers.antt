-- What the commands of a channel come to, in numbers. Each is a function of the list of commands that came, the latest first: a
-- count of those that pass a test, seen with the ones before them. Where one closes its bank, by auto-precharge, no further command
-- says so.
use Rattle.std.specs.Prelude.{◌≡◌, ℕ, ◌+◌, ◌-◌, ◌*◌, ◌/◌, ◌^◌, Bool, true, false, ◌&&◌, not, ◌==◌, if◌then◌else◌, min, max, List, [], ◌∷◌, count_by, filter, fold, reverse}
use Rattle.auto_precharge.specs.declared.issued.Issued.{Issued}
use Rattle.ddr4_timing.specs.Command.{bank_of, is_act, is_column, is_pre, is_precharge, is_rd, is_ref, is_sre, is_wr}
use Rattle.ddr4_timing.specs.Places.{is_bank}
use Rattle.ddr4_timing.specs.declared.command.Command.{Command}
use Rattle.ddr4_timing.specs.declared.command.Command.TheVariants.{PreAll, Ref, Sre}
use Rattle.ddr4_timing.specs.declared.place.BankAddress.{BankAddress}
use Rattle.trace_statistics.specs.declared.numbers.BankNumbers.{BankNumbers}
use Rattle.trace_statistics.specs.declared.numbers.RankNumbers.{RankNumbers}

-- a number as 64 bits tell it
abbrev pub told : ℕ → ℕ
told n = min n (2 ^ 64 - 1)

-- the commands of a list, the latest first
unfoldable pub latest : List Issued → List Issued
latest list = reverse list

-- a command opens, uses or closes the bank, or goes to its rank while it is closed
abbrev pub touches : BankAddress → Command → Bool
touches at (PreAll rank) = rank == at.rank
touches at (Ref rank) = rank == at.rank
touches at (Sre rank) = rank == at.rank
touches at x = is_bank (bank_of x) at

-- those of a list that touch a bank
abbrev pub touching : BankAddress → List Issued → List Issued
touching at list = filter (λ x. touches at x.command.cmd) list

-- What a RD or WR finds, by the commands that touched its bank before it, the latest first. A hit: the row is open since the access
-- before it, which didn't close it.
abbrev pub is_hit : List Issued → Bool
is_hit [] = false
is_hit (x ∷ before) = is_column x.command.cmd && not x.closes

-- the bank was closed last, by a PRE of it alone
abbrev pub is_behind_pre : List Issued → Bool
is_behind_pre [] = false
is_behind_pre (x ∷ before) = is_pre x.command.cmd

-- A conflict: it is the first access of its row, and the row before was closed for it, by a PRE of the bank right before its ACT.
abbrev pub is_conflict : List Issued → Bool
is_conflict [] = false
is_conflict (x ∷ before) = is_act x.command.cmd && is_behind_pre before

-- A miss: it is the first access of its row, and the bank was closed: by nothing yet, by an access that closed it, by a PREA, or for a
-- REF.
abbrev pub is_miss : List Issued → Bool
is_miss [] = false
is_miss (x ∷ before) = is_act x.command.cmd && not (is_behind_pre before)

-- how many RD and WR of some banks find them so
abbrev pub accesses : (BankAddress → Bool) → (List Issued → Bool) → List Issued → ℕ
accesses which so [] = 0
accesses which so (x ∷ before) =
    (if is_column x.command.cmd && which (bank_of x.command.cmd) && so (touching (bank_of x.command.cmd) before) then 1 else 0) + accesses which so before

-- how many commands of a kind went to some banks
abbrev pub commands : (BankAddress → Bool) → (Command → Bool) → List Issued → ℕ
commands which kind list = count_by (λ x. kind x.command.cmd && which (bank_of x.command.cmd)) list

-- the numbers of some banks
pub record AreNumbersOf (which : BankAddress → Bool) (list : List Issued) (n : BankNumbers) : Type 0 where
  pub activates : n.activates ≡ told (commands which is_act list)
  pub reads : n.reads ≡ told (commands which is_rd list)
  pub writes : n.writes ≡ told (commands which is_wr list)
  pub precharges : n.precharges ≡ told (commands which is_pre list)
  pub hits : n.hits ≡ told (accesses which is_hit list)
  pub misses : n.misses ≡ told (accesses which is_miss list)
  pub conflicts : n.conflicts ≡ told (accesses which is_conflict list)

-- of one bank,
abbrev pub AreNumbersOfBank : BankAddress → List Issued → BankNumbers → Type 0
AreNumbersOfBank at list n = AreNumbersOf (λ bank. is_bank bank at) (latest list) n

-- and of all banks of a channel
abbrev pub AreNumbersOfChannel : List Issued → BankNumbers → Type 0
AreNumbersOfChannel list n = AreNumbersOf (λ bank. true) (latest list) n

-- a precharge of a whole rank
abbrev pub is_pre_all : Command → Bool
is_pre_all x = is_precharge x && not (is_pre x)

-- no command went to the banks
abbrev pub is_none : BankNumbers → Bool
is_none n = n.activates == 0 && n.precharges == 0 && n.reads == 0 && n.writes == 0

-- how many commands went to whole ranks
pub record AreNumbersOfRanks (list : List Issued) (n : RankNumbers) : Type 0 where
  pub precharges : n.precharges ≡ told (count_by (λ x. is_pre_all x.command.cmd) list)
  pub refreshes : n.refreshes ≡ told (count_by (λ x. is_ref x.command.cmd) list)
  pub sleeps : n.sleeps ≡ told (count_by (λ x. is_sre x.command.cmd) list)

-- the greatest clock of a command
unfoldable pub last_clock : List Issued → ℕ
last_clock list = fold (λ last x. max last x.command.clock) 0 list

-- The clocks in which the data bus carries data, four for each RD and WR, of 10,000 clocks up to the last command
abbrev pub share_of : BankNumbers → ℕ → ℕ
share_of n last = 40000 * (n.reads + n.writes) / (last + 1)

-- and the bytes that it carries in a thousand clocks, 64 for each
abbrev pub bytes_of : BankNumbers → ℕ → ℕ
bytes_of n last = 64000 * (n.reads + n.writes) / (last + 1)
