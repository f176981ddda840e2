-- What is recorded of a life, the write of a number, and a record that was cut.
use Rattle.std.specs.Prelude.{◌≡◌, ◌↔◌, ℕ, ◌+◌, ◌-◌, ◌<◌, ◌≤◌, List, length, drop, nat_lt, slice_get, Option, None, if◌then◌else◌}
use Rattle.line_memory.specs.declared.Write.{Write}
use Rattle.line_memory.specs.Memory.{memory_at}

-- a memory of the life, the number of the first write that it lacks, the writes that were accepted from that one on, and how
-- many of them there is room for
pub record Recorded : Type 0 where
  pub base : List (List ℕ)
  pub start : ℕ
  pub writes : List Write
  pub room : ℕ

abbrev pub recorded : List (List ℕ) → ℕ → List Write → ℕ → Recorded
recorded base start writes room = record { base = base; start = start; writes = writes; room = room }

-- the life has this line, and this number is one from that of the record's memory to all that were accepted
pub record IsSeenAt (life : Recorded) (line at : ℕ) : Type 0 where
  pub here : line < length life.base
  pub least : life.start ≤ at
  pub most : at ≤ life.start + length life.writes

-- the write of a number, where it is one of these
abbrev pub write_at : ℕ → List Write → ℕ → Option Write
write_at start writes number = if nat_lt number start then None else slice_get writes (number - start)

-- the record where the writes with smaller numbers went into its memory
abbrev pub cut_at : ℕ → Recorded → Recorded
cut_at at life = recorded (memory_at life.base life.start life.writes at) at (drop (at - life.start) life.writes) life.room

-- Two records tell the same of each number from this one on.
pub record TellsSameFrom (at : ℕ) (old new : Recorded) : Type 0 where
  pub memory : (n : ℕ) → at ≤ n → memory_at new.base new.start new.writes n ≡ memory_at old.base old.start old.writes n
  pub accepted : (n : ℕ) → at ≤ n → write_at new.start new.writes n ≡ write_at old.start old.writes n
  pub seen : (line n : ℕ) → at ≤ n → IsSeenAt new line n ↔ IsSeenAt old line n
