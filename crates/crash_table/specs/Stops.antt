-- The stops of a line of a script, and the lines that are run for each.
use Rattle.std.specs.Prelude.{ℕ, zero, suc, ◌-◌, ◌^◌, List, [], ◌∷◌, ◌++◌, map, Some}
use Rattle.std.specs.List.{flat_map}
use Rattle.save_device.specs.declared.memory.Pick.{Pick}
use Rattle.save_device.specs.declared.memory.Pick.TheVariants.{Old, New, Torn}
use Rattle.nv_script.specs.declared.line.ScriptLine.{ScriptLine}
use Rattle.nv_script.specs.declared.line.ScriptLine.TheVariants as line
use Rattle.crash_table.specs.declared.stop.Stop.{Stop}
use Rattle.crash_table.specs.declared.stop.Stop.TheVariants.{Dark, Loss}

-- The lines of a stop of a line: a fuse goes before it, in place of any call that was to fail, or a loss of mains behind it. No line
-- makes 2^64 - 1 calls.
abbrev pub stopped : ScriptLine → Stop → List ScriptLine
stopped last (Dark calls) = line.OneFault (2 ^ 64 - 1) ∷ line.Fuse (Some calls) ∷ last ∷ []
stopped last Loss = last ∷ line.Lose ∷ []

-- and those before it
abbrev pub stopped_lines : List ScriptLine → ScriptLine → Stop → List ScriptLine
stopped_lines before last stop = before ++ stopped last stop

-- what may become of unsettled bytes: the old ones, the new ones, and sixteen kinds of torn ones
abbrev pub picks : List Pick
picks = Old ∷ New ∷ map Torn (0x00 ∷ 0x11 ∷ 0x22 ∷ 0x33 ∷ 0x44 ∷ 0x55 ∷ 0x66 ∷ 0x77 ∷ 0x88 ∷ 0x99 ∷ 0xaa ∷ 0xbb ∷ 0xcc ∷ 0xdd ∷ 0xee ∷ 0xff ∷ [])

-- darkness behind each number of calls below this one
abbrev pub dark_below : ℕ → List Stop
dark_below zero = []
dark_below (suc calls) = dark_below calls ++ Dark calls ∷ []

-- each stop of a line that makes so many calls: darkness behind each of them, darkness behind the line, and a loss of mains
abbrev pub stops_of : ℕ → List Stop
stops_of calls = dark_below calls ++ Dark calls ∷ Loss ∷ []

-- a stop with these picks
abbrev pub with_picks : List Pick → Stop → List (Stop × Pick)
with_picks some stop = map (λ pick. (stop, pick)) some

-- stops, each with every pick
abbrev pub with_each_pick : List Stop → List (Stop × Pick)
with_each_pick stops = flat_map (with_picks picks) stops
