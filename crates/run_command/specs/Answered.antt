-- The lines of a script that were answered, and the lives that begin by them.
use Rattle.std.specs.Prelude.{ℕ, ◌+◌, min, Option, Some, None, unwrap_or, List, [], ◌∷◌, ◌++◌, drop, length, take}
use Rattle.std.specs.List.{prefix_len}
use Rattle.std.specs.Option.{option_map}
use Rattle.interleave_map.specs.declared.ready.Interleaving.{Interleaving}
use Rattle.interleave_map.specs.declared.ready.ReadyMap.{ReadyMap}
use Rattle.nv_profile.specs.declared.profile.Profile.{Profile}
use Rattle.nv_script.specs.declared.line.ScriptLine.{ScriptLine}
use Rattle.nv_script.specs.declared.line.ScriptLine.TheVariants as line
use Rattle.nv_script.specs.declared.answer.Answer.{Answer}
use Rattle.nv_script.specs.declared.answer.Answer.TheVariants as answer
use Rattle.run_command.specs.declared.answered.AnsweredLine.{AnsweredLine}
use Rattle.script_runner.specs.Story.{is_busy, turns_of}

-- How many answers are to a line, of those that begin with its first one: as many as it has turns, and no more than up to the first
-- behind which no command may follow.
abbrev pub count_to : ScriptLine → List Answer → ℕ
count_to asked answers = min (min (turns_of asked) (length answers)) (prefix_len is_busy answers + 1)

-- a line by the first of its answers, if it has some
abbrev pub answered : ℕ → ScriptLine → List Answer → List AnsweredLine
answered number asked [] = []
answered number asked (first ∷ later) = record { number = number; line = asked; answer = first } ∷ []

-- the lines that have answers, the first of this number: to each the next of the answers
abbrev pub answered_lines : ℕ → List ScriptLine → List Answer → List AnsweredLine
answered_lines number [] answers = []
answered_lines number (asked ∷ lines) answers =
    answered number asked (take (count_to asked answers) answers) ++ answered_lines (number + 1) lines (drop (count_to asked answers) answers)

-- the map over which a life begins by a line
abbrev pub interleaving_begun : Interleaving → ScriptLine → Answer → Option Interleaving
interleaving_begun own line.Format answer.Formatted = Some own
interleaving_begun own (line.Restore pick map) (answer.Restored generation count verdict) = Some (unwrap_or map own)
interleaving_begun own asked given = None

abbrev pub map_begun : Profile → AnsweredLine → Option ReadyMap
map_begun profile begin = option_map (λ interleaving. record { interleaving = interleaving; checked = profile.checked }) (interleaving_begun profile.map begin.line begin.answer)
