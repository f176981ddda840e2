-- What an open read of a machine has.
use Rattle.std.specs.Prelude.{◌≡◌, ℕ, ◌≤◌}
use Rattle.channel_port.specs.Waits.{Has, OpenRead}
use Rattle.line_memory.specs.Memory.{line_of}
use Rattle.nv_machine.specs.State.{Machine, all_of, memory_after, start_of_life}

-- It has its line of the memory after the writes that had been accepted when it was asked, and waits on the line's channel.
pub record HasItsLine (channel_of : ℕ → ℕ) (m : Machine) (read : OpenRead) : Type 0 where
  pub from : start_of_life m.life ≤ read.at
  pub to : read.at ≤ all_of m
  pub bytes : read.bytes ≡ line_of (memory_after m read.at) read.line
  pub here : channel_of read.line ≡ read.ticket.channel

abbrev pub ReadsHaveTheirLines : (ℕ → ℕ) → Machine → Type 0
ReadsHaveTheirLines channel_of m = (read : OpenRead) → Has read m.waits.reads → HasItsLine channel_of m read
