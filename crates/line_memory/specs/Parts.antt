-- A history by its channels.
use Rattle.std.specs.Prelude.{◌==◌, ℕ, ◌+◌, ◌<◌, All, List, [], ◌∷◌, filter, map, nat_lt, if◌then◌else◌}
use Rattle.line_memory.specs.declared.Write.{Write}
use Rattle.line_memory.specs.declared.parts.Numbered.{Numbered}

abbrev pub numbered : ℕ → Write → Numbered
numbered number write = record { number = number; write = write }

-- the writes of a history that lie on a channel, with their numbers; the first write has the number `start`
abbrev pub written_on : (ℕ → ℕ) → ℕ → ℕ → List Write → List Numbered
written_on channel_of channel start [] = []
written_on channel_of channel start (w ∷ ws) =
    if channel_of w.line == channel then numbered start w ∷ written_on channel_of channel (start + 1) ws
    else written_on channel_of channel (start + 1) ws

-- the writes below a number, and the writes without their numbers
abbrev pub below : ℕ → List Numbered → List Numbered
below n part = filter (λ w. nat_lt w.number n) part

abbrev pub writes_of : List Numbered → List Write
writes_of part = map (λ w. w.write) part

-- each of these writes has a smaller number
abbrev pub AreBefore : ℕ → List Numbered → Type 0
AreBefore number part = All (λ w. w.number < number) part
