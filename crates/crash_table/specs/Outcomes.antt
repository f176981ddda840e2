-- What a restore finds behind lines of a script, and what is tried of a line.
use Rattle.std.specs.Prelude.{◌≡◌, ℕ, ◌<◌, ◌-◌, max, Bool, true, false, List, [], ◌∷◌, ◌++◌, length, map, All, Option, Some, None, slice_get, MatchOption}
use Rattle.std.specs.List.{flat_map}
use Rattle.std.specs.Option.{option_map}
use Rattle.save_device.specs.declared.memory.Pick.{Pick}
use Rattle.slot_store.specs.Outcomes.{restored}
use Rattle.slot_store.specs.declared.restoring.RestoreError.TheVariants as errors
use Rattle.arm_state.specs.declared.loss.Loss.TheVariants as lost
use Rattle.nv_machine.specs.Headline.{RecoversAfterwards}
use Rattle.nv_machine.specs.State.{Machine}
use Rattle.nv_script.specs.declared.line.ScriptLine.{ScriptLine}
use Rattle.nv_script.specs.declared.line.ScriptLine.TheVariants as line
use Rattle.nv_script.specs.declared.answer.Answer.{Answer}
use Rattle.nv_script.specs.declared.answer.Answer.TheVariants as answer
use Rattle.script_runner.specs.Keeping.{IsKeptBy}
use Rattle.script_runner.specs.Ledger.{Ledger, told_by, IsTrueOf}
use Rattle.script_runner.specs.Story.{Exchange, IsTrueStory, IsWhole, known_after}
use Rattle.crash_table.specs.declared.outcome.Found.{Found}
use Rattle.crash_table.specs.declared.outcome.Found.TheVariants.{Image, Refused}
use Rattle.crash_table.specs.declared.outcome.Outcome.{Outcome}
use Rattle.crash_table.specs.declared.stop.Stop.{Stop}
use Rattle.crash_table.specs.declared.stop.Stop.TheVariants.{Dark}
use Rattle.crash_table.specs.declared.tried.Tried.{Tried}
use Rattle.crash_table.specs.Stops.{dark_below, stopped_lines, stops_of, with_each_pick}

-- these lines were run from the first to the last on a device of zero bytes of so many lines, and each answer is true
pub record IsTrueRun (size : ℕ) (lines : List ScriptLine) (story : List Exchange) : Type 0 where
  pub asked : map (λ exchange. exchange.asked) story ≡ lines
  pub holds : IsTrueStory size None story
  pub whole : All IsWhole story

-- a stop after a machine that has accepted what is known leaves these bytes
abbrev pub MayBeLeft : ℕ → Option Ledger → List ℕ → Type 0
MayBeLeft size known bytes = (ledger : Ledger) → known ≡ Some ledger → (m : Machine) × IsKeptBy size ledger m × RecoversAfterwards m (restored size bytes)

-- how many writes were told to be persistent, none where nothing is known
abbrev pub told_of : Option Ledger → ℕ
told_of (Some ledger) = ledger.told
told_of None = 0

-- what an answer to a restore found
abbrev pub found_by : Answer → Found
found_by (answer.Restored generation count verdict) = Image generation count verdict
found_by (answer.RestoreRefused error) = Refused error
found_by other = Refused errors.NoImage

-- an answer to a restore of these bytes, true by whatever is known of who left them
abbrev pub IsRestoreOf : ℕ → List ℕ → Answer → Type 0
IsRestoreOf size bytes given = (known : Option Ledger) (pick : Pick) → MayBeLeft size known bytes → IsTrueOf size known (line.Restore (Some pick) None) given

-- what such an answer found, where so many writes were told to be persistent
abbrev pub IsFoundOf : ℕ → List ℕ → ℕ → Outcome → Type 0
IsFoundOf size bytes told outcome = (given : Answer) × IsRestoreOf size bytes given × (outcome ≡ record { found = found_by given; told = told })

-- Behind a run of these lines a restore by this pick gave this outcome: it is told what the restore of that very device
-- answered, true by what was known before it, and how many writes were told to be persistent by then.
pub record IsOutcomeOf (size : ℕ) (lines : List ScriptLine) (pick : Pick) (outcome : Outcome) : Type 0 where
  pub story : List Exchange
  pub run : IsTrueRun size lines story
  pub told : outcome.told ≡ told_of (known_after None story)
  pub given : Answer
  pub holds : IsTrueOf size (known_after None story) (line.Restore (Some pick) None) given
  pub found : outcome.found ≡ found_by given

-- how many writes are told to be persistent behind one more answer, where that is known
abbrev pub told_behind : Answer → Option ℕ → Option ℕ
told_behind answer.Formatted told = Some 0
told_behind answer.FormatFault told = None
told_behind (answer.Restored generation count verdict) told = option_map (λ _. count) told
told_behind (answer.RestoreRefused error) told = told
told_behind given told = option_map (λ n. max n (told_by given)) told

-- whether an answer tells a fault of the device, also one after which the call is made again
abbrev pub tells_fault : Answer → Bool
tells_fault answer.FormatFault = true
tells_fault answer.ArmFault = true
tells_fault answer.StepRetry = true
tells_fault answer.SaveFault = true
tells_fault (answer.Lost lost.Fault) = true
tells_fault other = false

-- whether the last of these answers does
abbrev pub EndsWithFault : List Answer → Bool → Type 0
EndsWithFault answers fails = MatchOption (slice_get answers (length answers - 1)) (fails ≡ false) (λ last. fails ≡ tells_fault last)

-- a run of these lines may end with a fault of the device, or without one
pub record MayEnd (size : ℕ) (lines : List ScriptLine) (fails : Bool) : Type 0 where
  pub story : List Exchange
  pub run : IsTrueRun size lines story
  pub ends : EndsWithFault (flat_map (λ exchange. exchange.answers) story) fails

-- a line behind others makes so many calls of the device: behind fewer it fails, and behind so many it doesn't
pub record MakesDeviceCalls (size : ℕ) (before : List ScriptLine) (last : ScriptLine) (calls : ℕ) : Type 0 where
  pub fails : (fewer : ℕ) → fewer < calls → MayEnd size (stopped_lines before last (Dark fewer)) true
  pub passes : MayEnd size (stopped_lines before last (Dark calls)) false

abbrev pub tried_at : Tried → Stop × Pick
tried_at tried = (tried.stop, tried.pick)

-- what was tried is the restore of the device that its stop left, by its pick
abbrev pub IsTried : ℕ → List ScriptLine → ScriptLine → Tried → Type 0
IsTried size before last tried = IsOutcomeOf size (stopped_lines before last tried.stop) tried.pick tried.outcome

-- darkness behind each call of a line, and behind the line, was tried with each pick
pub record AreTriedDark (size : ℕ) (before : List ScriptLine) (last : ScriptLine) (tried : List Tried) : Type 0 where
  pub calls : ℕ
  pub makes : MakesDeviceCalls size before last calls
  pub each : map tried_at tried ≡ with_each_pick (dark_below calls ++ Dark calls ∷ [])
  pub are : All (IsTried size before last) tried

-- Each stop of a line was tried with each pick.
pub record AreTried (size : ℕ) (before : List ScriptLine) (last : ScriptLine) (tried : List Tried) : Type 0 where
  pub calls : ℕ
  pub makes : MakesDeviceCalls size before last calls
  pub each : map tried_at tried ≡ with_each_pick (stops_of calls)
  pub are : All (IsTried size before last) tried
