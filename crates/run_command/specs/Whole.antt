-- A script that was run to its end.
use Rattle.std.specs.Prelude.{◌≡◌, ℕ, List, [], ◌++◌, Bool, true, false, Option}
use Rattle.std.specs.Io.KnownBytes.{Appends}
use Rattle.ddr4_timing.specs.Limits.{lines_of}
use Rattle.nv_profile.specs.declared.profile.Profile.{Profile}
use Rattle.nv_script.specs.declared.line.ScriptLine.{ScriptLine}
use Rattle.nv_script.specs.declared.answer.Answer.{Answer}
use Rattle.nv_script.specs.Texts.{IsScript}
use Rattle.run_command.specs.Forms.{lines_in}
use Rattle.script_runner.specs.Story.{AreAllAnswered}

-- the text is a script, and each of its lines has all its answers, which follow those that were there
abbrev pub RunsWhole : Profile → List ℕ → List Answer → List Answer → Type 0
RunsWhole profile text before after =
    (lines : List ScriptLine) × IsScript profile.checked.geometry text lines × AreAllAnswered (lines_of profile.checked.geometry) lines before after

-- there are such answers, the first of them to its first line, and what a writer holds grew by the line of each, in turn
pub record WritesRun (is_json : Bool) (old new : Option (List ℕ)) (profile : Profile) (text : List ℕ) : Type 0 where
  pub answers : List Answer
  pub whole : RunsWhole profile text [] answers
  pub written : Appends old new (lines_in is_json answers)

-- it grew by a text behind them, unless they stay alone
pub record WritesBehind (alone : Bool) (old new : Option (List ℕ)) : Type 0 where
  pub behind : List ℕ
  pub none : alone ≡ true → behind ≡ []
  pub written : Appends old new behind

-- both: where statistics are asked for, their text stands behind the lines, and else nothing does
pub record IsRunTold (is_json stats : Bool) (old new : Option (List ℕ)) (profile : Profile) (text : List ℕ) : Type 0 where
  pub answers : List Answer
  pub whole : RunsWhole profile text [] answers
  pub behind : List ℕ
  pub alone : stats ≡ false → behind ≡ []
  pub written : Appends old new (lines_in is_json answers ++ behind)

-- so it was told: each answer in its own words or as an object, with or without statistics
abbrev pub IsToldRun : Option (List ℕ) → Option (List ℕ) → Profile → List ℕ → Type 0
IsToldRun old new profile text = (is_json stats : Bool) × IsRunTold is_json stats old new profile text
