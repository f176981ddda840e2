-- What is told of the reads that wait on a channel.
use Rattle.std.specs.Prelude.{◌≡◌, ℕ, List}
use Rattle.line_memory.specs.Memory.{after, line_of}
use Rattle.line_memory.specs.Parts.{below, writes_of}
use Rattle.line_memory.specs.declared.parts.Numbered.{Numbered}
use Rattle.channel_port.specs.Waits.{Has, OpenRead}
use Rattle.channel_log.specs.Log.{Told}

-- The line has these bytes behind so many writes of a life that began with this memory. The writes that are told are those on the
-- line's channel: no other one can have made the line.
abbrev pub IsLineBehind : List (List ℕ) → List Numbered → ℕ → ℕ → List ℕ → Type 0
IsLineBehind base written line at bytes = bytes ≡ line_of (after base (writes_of (below at written))) line

-- each read that is told to wait has its line, behind as many writes as had been accepted when it was asked
abbrev pub ReadsHaveLines : List (List ℕ) → Told → Type 0
ReadsHaveLines base told = (read : OpenRead) → Has read told.waits.reads → IsLineBehind base told.written read.line read.at read.bytes
