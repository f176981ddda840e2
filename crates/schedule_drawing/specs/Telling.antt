-- The schedule that the answers of a script tell.
use Rattle.std.specs.Prelude.{◌≡◌, ℕ, Bool, true, false, List, [], ◌∷◌, map, take, drop, filter_map, All, AllPairs}
use Rattle.std.specs.List.{flat_map}
use Rattle.ddr4_timing.specs.declared.timing.Timing.{Timing}
use Rattle.command_trace.specs.declared.entry.ChannelCommand.{ChannelCommand}
use Rattle.nv_script.specs.declared.answer.Answer.{Answer}
use Rattle.nv_script.specs.declared.answer.Answer.TheVariants as answer
use Rattle.schedule_drawing.specs.declared.schedule.Schedule.{Schedule}
use Rattle.schedule_drawing.specs.declared.shapes.Shape.{Shape}
use Rattle.schedule_drawing.specs.Drawing.{drawn, later}
use Rattle.schedule_drawing.specs.Events.{EventPlace, entry_told, event_place, events_told}
use Rattle.schedule_drawing.specs.Lives.{EndBy, latest_clock}
use Rattle.schedule_drawing.specs.Schedules.{IsShownWhole}

-- whether a life begins with an answer
abbrev pub begins_life : Answer → Bool
begins_life answer.Formatted = true
begins_life (answer.Restored generation count verdict) = true
begins_life other = false

-- none begins but with the first of these answers
abbrev pub IsOneLife : List Answer → Type 0
IsOneLife answers = All (λ answer. begins_life answer ≡ false) (drop 1 answers)

-- one begins with the first of them, where there is one
abbrev pub StartsLife : List Answer → Type 0
StartsLife [] = Unit {0}
StartsLife (first ∷ others) = begins_life first ≡ true

-- the answers of a life, and the clock that its clocks begin with
pub record ToldLife : Type 0 where
  pub begin : ℕ
  pub answers : List Answer

abbrev pub entries_told : ToldLife → List ChannelCommand
entries_told life = filter_map (entry_told life.begin) life.answers

-- what is drawn of it
abbrev pub life_drawn : Timing → ToldLife → List Shape
life_drawn t life = drawn t (later (latest_clock life.begin (entries_told life)) 20) (entries_told life)

-- its events
abbrev pub life_events : ToldLife → List EventPlace
life_events life = events_told life.begin life.begin life.answers

-- no shape of a life ends behind the begin of another
abbrev pub BeginsBehind : Timing → ToldLife → ToldLife → Type 0
BeginsBehind t life next = EndBy next.begin (life_drawn t life)

-- Of answers each life is drawn, from clock 0 on, each behind all that is drawn of those before it: each command that they
-- tell, and what is drawn from it on; and its events in their turn. What stands before the first formatting is drawn as a life too.
-- None is told to break a rule.
pub record TellsAll (t : Timing) (answers : List Answer) (schedule : Schedule) : Type 0 where
  pub lives : List ToldLife
  pub answers_are : answers ≡ flat_map (λ life. life.answers) lives
  pub one : All (λ life. IsOneLife life.answers) lives
  pub started : All (λ life. StartsLife life.answers) (drop 1 lives)
  pub first : All (λ life. life.begin ≡ 0) (take 1 lives)
  pub behind : AllPairs (BeginsBehind t) lives
  pub begins : schedule.begins.items ≡ map (λ life. life.begin) lives
  pub shapes : schedule.shapes.items ≡ flat_map (life_drawn t) lives
  pub events : map event_place schedule.events.items ≡ flat_map life_events lives
  pub flaws : schedule.flaws.items ≡ []
  pub whole : IsShownWhole schedule
