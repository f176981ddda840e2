-- The commands of the channels of a life, as those of a trace.
use Rattle.std.specs.Prelude.{ℕ, ◌+◌, ◌<◌, ◌≤◌, ◌^◌, false, List, [], ◌∷◌, ◌++◌, All, length, map}
use Rattle.ddr4_timing.specs.declared.command.Stamped.{Stamped}
use Rattle.command_trace.specs.declared.entry.Located.{Located}

-- a command of a channel as one of a trace, of which no line is known
abbrev pub located : ℕ → Stamped → Located
located channel x = record { line = 0; entry = record { channel = channel; command = x }; closes = false }

-- the lists of channels, the first of this number, one behind another
abbrev pub located_from : ℕ → List (List Stamped) → List Located
located_from channel [] = []
located_from channel (commands ∷ later) = map (λ x. located channel x) commands ++ located_from (channel + 1) later

-- a clock that a trace may have
abbrev pub IsEarly : Stamped → Type 0
IsEarly x = x.clock < 2 ^ 63

-- no more lists than a trace has channels, and each clock early
pub record AreEarly (lists : List (List Stamped)) : Type 0 where
  pub few : length lists ≤ 8
  pub early : All (λ commands. All IsEarly commands) lists
