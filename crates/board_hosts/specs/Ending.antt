-- When a life bears out what its hosts were told.
use Rattle.std.specs.Prelude.{◌≡◌, ◌⊎◌, ℕ, ◌+◌, ◌<◌, List, All, count_by, length, nat_lt, slice_get, take, Some, MatchBool, if◌then◌else◌}
use Rattle.line_memory.specs.History.{Recorded, IsSeenAt}
use Rattle.line_memory.specs.Memory.{line_of, memory_at}
use Rattle.line_memory.specs.History.{write_at}
use Rattle.line_memory.specs.declared.Write.{Write}
use Rattle.channel_port.specs.declared.port.ChannelPort.{Ghosts}
use Rattle.board_hosts.specs.declared.checking.Cut.{Cut}
use Rattle.board_hosts.specs.declared.checking.Stranger.{Stranger}
use Rattle.board_hosts.specs.declared.host.Receipt.{Receipt}
use Rattle.worker_turns.specs.declared.awaiting.Seen.{Seen}
use Rattle.board_hosts.specs.declared.recorded_module.RecordedModule.{RecordedModule}

-- the write that a receipt is for
abbrev pub receipted : Receipt → Write
receipted receipt = record { line = receipt.line; «data» = receipt.«data» }

-- the write of a receipt stands in the history at its number
abbrev pub StandsIn : Recorded → Receipt → Type 0
StandsIn history receipt = write_at history.start history.writes receipt.number ≡ Some (receipted receipt)

-- an answer is its line of the memory after the first `at` writes
unfoldable pub IsBorneOut : Recorded → Seen → Type 0
IsBorneOut history answer =
    IsSeenAt history answer.line answer.at
    × (answer.«data» ≡ line_of (memory_at history.base history.start history.writes answer.at) answer.line)

-- the first element that isn't so stands at this place
pub record IsFirstWithout {A : Type 0} (P : A → Type 0) (xs : List A) (place : ℕ) : Type 0 where
  pub element : A
  pub here : slice_get xs place ≡ Some element
  pub differs : ¬ P element
  pub before : All P (take place xs)

-- or it is past: what it tells of lies below this number
abbrev pub StandsOrIsPast : ℕ → Recorded → Receipt → Type 0
StandsOrIsPast below history receipt = (receipt.number < below) ⊎ StandsIn history receipt

abbrev pub IsBorneOutOrPast : ℕ → Recorded → Seen → Type 0
IsBorneOutOrPast below history answer = (answer.at < below) ⊎ IsBorneOut history answer

-- how many receipts and answers are past
abbrev pub past_among : ℕ → List Receipt → List Seen → ℕ
past_among below receipts answers = count_by (λ r. nat_lt r.number below) receipts + count_by (λ a. nat_lt a.at below) answers

-- the first receipt that doesn't stand in the history and isn't past; where there is none, the first answer that isn't borne
-- out and isn't past
abbrev pub IsFirstStranger : ℕ → Recorded → List Receipt → List Seen → Stranger → Type 0
IsFirstStranger below history receipts answers stranger =
    MatchBool stranger.answer
    (All (StandsOrIsPast below history) receipts × IsFirstWithout (IsBorneOutOrPast below history) answers stranger.index)
    (IsFirstWithout (StandsOrIsPast below history) receipts stranger.index)

abbrev pub cut : ℕ → ℕ → ℕ → Cut
cut from checked past = record { from = from; checked = checked; past = past }

-- Where writes of a life that began at this number were cut off, whatever lies below the stored ones is past. Before a cut nothing
-- is.
abbrev pub past_below : ℕ → Recorded → ℕ
past_below start history = if nat_lt start history.start then history.start else 0

-- No stranger is among these receipts and answers of such a life: each is past or was checked, and this is told of it.
pub record AreChecked (start : ℕ) (history : Recorded) (receipts : List Receipt) (answers : List Seen) (told : Cut) : Type 0 where
  pub starts : told.from ≡ history.start
  pub past : told.past ≡ past_among (past_below start history) receipts answers
  pub counted : told.checked + told.past ≡ length receipts + length answers
  pub stand : All (StandsOrIsPast (past_below start history) history) receipts
  pub borne_out : All (IsBorneOutOrPast (past_below start history) history) answers

-- this one is the first stranger among them
abbrev pub IsStranger : ℕ → Recorded → List Receipt → List Seen → Stranger → Type 0
IsStranger start history receipts answers stranger = IsFirstStranger (past_below start history) history receipts answers stranger

module _ {K D E : Type 0} (L : Ghosts K) where
  -- the same of a module with its record
  abbrev pub HasChecked : RecordedModule K D E L → List Receipt → List Seen → Cut → Type 0
  HasChecked it receipts answers told = AreChecked it.running.front.terms.start it.history receipts answers told
