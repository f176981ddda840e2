-- What a worker and a read that waits do under one channel's lock alone.
use Rattle.std.specs.Prelude.{◌≡◌, ◌≢◌, ◌⊎◌, ℕ, ◌<◌, ◌≤◌, Option, Result, Ok, Err, if◌then◌else◌}
use Rattle.std.specs.Option.{is_some}
use Rattle.arm_state.specs.declared.refusal.ReadRefusal.{ReadRefusal}
use Rattle.arm_state.specs.declared.refusal.ReadRefusal.TheVariants as refusals
use Rattle.channel_port.specs.declared.answers.Collected.{Collected}
use Rattle.channel_port.specs.declared.answers.Collected.TheVariants.{Data, Pending, Unknown}
use Rattle.channel_port.specs.declared.answers.Got.{Got}
use Rattle.channel_port.specs.declared.answers.Got.TheVariants.{Now, Later}
use Rattle.channel_port.specs.declared.answers.Ticket.{Ticket}
use Rattle.channel_port.specs.declared.port.ChannelPort.{Ghosts}
use Rattle.channel_locks.specs.declared.parts_name.PartsName.{Ghosts as PartsGhosts}
use Rattle.channel_locks.specs.declared.turns.ChannelTurn.{ChannelTurn}
use Rattle.channel_locks.specs.Alone.{ServesAlone}
use Rattle.channel_locks.specs.Lent.{LentServe, LentTurn}
use Rattle.channel_locks.specs.declared.part.Part.{Part}
use Rattle.worker_turns.specs.declared.Gate.{Ghosts as GateGhosts}
use Rattle.worker_turns.specs.declared.Turn.{Turn}
use Rattle.worker_turns.specs.declared.shift.Shift.{Ghosts as ShiftGhosts}
use Rattle.worker_turns.specs.declared.shift.Working.{Working}
use Rattle.worker_turns.specs.declared.shift.Working.TheVariants.{Worked, Rested, Closed}
use Rattle.worker_turns.specs.declared.turns.Ended.{Ended}
use Rattle.worker_turns.specs.declared.awaiting.Seen.{Seen}
use Rattle.worker_turns.specs.Shifts.{WorksUntil}

-- how a channel's worker goes on behind its turn
abbrev pub going_on : ChannelTurn → Working
going_on turn = if turn.ended then Closed else if is_some turn.done then Worked else Rested

-- A worker that is lent this asks its gate, and each of its turns comes to something; nothing else is known of it.
abbrev pub by_gate : (ℕ → ℕ → Turn → Type 0) → (ℕ → Working → Type 0) → ShiftGhosts (Unit {0})
by_gate says takes = record {
  is_of = λ worker. Unit {0};
  asks = λ worker turn told old new. says worker turn told;
  works = λ worker done old new. takes worker done;
  rests = λ idle old new. Unit {0};
}

-- A worker took turns until one ended it so: it asked its gate once at each of them, and took one turn at each Go.
abbrev pub WorksByGate : (ℕ → ℕ → Turn → Type 0) → (ℕ → Working → Type 0) → ℕ → Ended → Type 0
WorksByGate says takes worker why = WorksUntil (by_gate says takes) worker why tt tt

-- what there is for a ticket isn't this line's bytes behind so many writes
abbrev pub IsNotOwn : ℕ → ℕ → Collected → Type 0
IsNotOwn line at (Data other bytes behind) = (other ≢ line) ⊎ (behind ≢ at)
IsNotOwn line at answer = Unit {0}

-- A read of this line, behind so many writes, is told the bytes where its ticket has them, and else goes on to wait.
abbrev pub TellsOwn : ℕ → ℕ → Ticket → Collected → Got → Type 0
TellsOwn line at ticket answer (Now bytes) = answer ≡ Data line bytes at
TellsOwn line at ticket answer (Later left) = (left ≡ ticket) × IsNotOwn line at answer

module _ {K : Type 0} (L : Ghosts K) where
  -- A read's first answer, what the host is told, and what the channel's lock lent, before and behind it: where the read had to wait it
  -- was served once, and nothing else was done.
  abbrev pub ServesOnce : ℕ → ℕ → Got → Got → Option (Part K L) → Option (Part K L) → Type 0
  ServesOnce line at (Now bytes) told old new = (told ≡ Now bytes) × (new ≡ old)
  ServesOnce line at (Later ticket) told old new = (answer : Collected) × ServesAlone L ticket answer old new × TellsOwn line at ticket answer told

module _ {K B : Type 0} (L : Ghosts K) (P : PartsGhosts B) where
  -- The worker of a channel took one turn under the channel's lock, and goes on so.
  abbrev pub TakesChannelTurn : {G : Type 0} → GateGhosts G → ℕ → G → Working → Type 0
  TakesChannelTurn H channel gate working = (turn : ChannelTurn) × LentTurn L P H channel gate turn × (working ≡ going_on turn)

  -- A ticket was served so under its channel's lock; one of no channel is unknown.
  pub record LooksFor (ticket : Ticket) (answer : Collected) : Type 0 where
    pub lent : ticket.channel < 8 → LentServe L P ticket answer
    pub none : 8 ≤ ticket.channel → answer ≡ Unknown

  -- A read of this line, behind so many writes, was answered by what its ticket had, which was its own; or its ticket has nothing of its
  -- own any more.
  abbrev pub AwaitsOwn : Ticket → ℕ → ℕ → Result Seen ReadRefusal → Type 0
  AwaitsOwn ticket line at (Ok seen) = (seen.line ≡ line) × (seen.at ≡ at) × LooksFor ticket (Data line seen.data at)
  AwaitsOwn ticket line at (Err refusal) = (refusal ≡ refusals.Closed) × (answer : Collected) × LooksFor ticket answer × (answer ≢ Pending) × IsNotOwn line at answer

  -- A read's first answer, and what the host is told once the read was served under its channel's lock.
  abbrev pub ServesFirst : ℕ → ℕ → Got → Got → Type 0
  ServesFirst line at (Now bytes) told = told ≡ Now bytes
  ServesFirst line at (Later ticket) told = (answer : Collected) × LentServe L P ticket answer × TellsOwn line at ticket answer told
