-- How long the requests of a life waited, by what is kept of its run. The clock of a channel is that of its last command.
use Rattle.std.specs.Prelude.{◌≡◌, ℕ, ◌+◌, ◌-◌, ◌^◌, Bool, true, false, if◌then◌else◌, min, nat_lt, List, [], ◌∷◌, Option, Some, None, MatchOption, is_none, length, map, option_to_list, slice_index_or, count_by, take}
use Rattle.std.specs.List.{flat_map, prefix_len}
use Rattle.ddr4_timing.specs.Limits.{lines_of}
use Rattle.ddr4_timing.specs.declared.command.Stamped.{Stamped}
use Rattle.ddr4_timing.specs.declared.place.Place.{Place}
use Rattle.interleave_map.specs.Ready.{place_by}
use Rattle.interleave_map.specs.declared.ready.ReadyMap.{ReadyMap}
use Rattle.nv_profile.specs.declared.profile.Profile.{Profile}
use Rattle.nv_script.specs.declared.line.ScriptLine.{ScriptLine}
use Rattle.nv_script.specs.declared.line.ScriptLine.TheVariants as line
use Rattle.nv_script.specs.declared.answer.Answer.{Answer}
use Rattle.nv_script.specs.declared.answer.Answer.TheVariants as answer
use Rattle.request_waits.specs.Summary.{AreOf}
use Rattle.request_waits.specs.Writes.{clock_after, write_waits_of}
use Rattle.request_waits.specs.declared.writes.AcceptedWrite.{AcceptedWrite}
use Rattle.run_command.specs.Answered.{map_begun}
use Rattle.run_command.specs.declared.answered.AnsweredLine.{AnsweredLine}
use Rattle.run_command.specs.declared.requests.LifeWaits.{LifeWaits}
use Rattle.run_command.specs.declared.requests.Requests.{Requests}
use Rattle.script_runner.specs.Ended.{Kept}
use Rattle.statistics_report.specs.declared.waits.KindWaits.{KindWaits}

-- the lists of a life's channels, and of one of them
abbrev pub lists_of : Kept → ℕ → List (List Stamped)
lists_of run life = slice_index_or run.lives life []

abbrev pub commands_of : Kept → ℕ → ℕ → List Stamped
commands_of run life channel = slice_index_or (lists_of run life) channel []

-- how many of them it had issued behind so many lines of the script
abbrev pub count_behind : Kept → ℕ → ℕ → ℕ
count_behind run channel lines = slice_index_or (slice_index_or run.counts lines []) channel 0

-- and its clock then
abbrev pub clock_behind : Kept → ℕ → ℕ → ℕ → ℕ
clock_behind run life channel lines = clock_after (commands_of run life channel) (count_behind run channel lines)

-- how long a read waited which was answered at the line of a number: up to the last command of the line, which is its RD
abbrev pub read_wait : Kept → ℕ → ℕ → ℕ → ℕ
read_wait run life channel number = clock_behind run life channel number - clock_behind run life channel (number - 1)

-- a life of a run: how many come before it, and the map over which it runs
pub record Scene : Type 0 where
  pub run : Kept
  pub life : ℕ
  pub map : ReadyMap

-- where a line of memory lies, if there is one of this number
abbrev pub place_in : ReadyMap → ℕ → Option Place
place_in over line =
    if nat_lt line (lines_of over.checked.geometry) then Some (place_by over.interleaving over.checked.geometry line) else None

-- what a write comes to that was accepted at the line of a number: its place, and the clock of that place's channel before
abbrev pub writes_to : Scene → ℕ → ℕ → List AcceptedWrite
writes_to scene line number =
    map (λ place. record { place = place; clock = clock_behind scene.run scene.life place.channel (number - 1) }) (option_to_list (place_in scene.map line))

-- and a read that was answered: how long it waited
abbrev pub reads_of : Scene → ℕ → ℕ → List ℕ
reads_of scene line number = map (λ place. read_wait scene.run scene.life place.channel number) (option_to_list (place_in scene.map line))

-- the write that a line tells to be accepted, if it does
abbrev pub write_in : Scene → ℕ → ScriptLine → Answer → List AcceptedWrite
write_in scene number (line.Write write) (answer.Accepted serial mark) = writes_to scene write.line number
write_in scene number asked given = []

abbrev pub writes_told : Scene → AnsweredLine → List AcceptedWrite
writes_told scene l = write_in scene l.number l.line l.answer

-- the wait of the read that it tells to be answered
abbrev pub read_in : Scene → ℕ → ScriptLine → Answer → List ℕ
read_in scene number (line.Read read) (answer.Content of bytes) = reads_of scene read number
read_in scene number asked given = []

abbrev pub reads_told : Scene → AnsweredLine → List ℕ
reads_told scene l = read_in scene l.number l.line l.answer

-- it tells that a read still waits
abbrev pub is_waiting : ScriptLine → Answer → Bool
is_waiting (line.Read read) (answer.ReadWaiting of) = true
is_waiting asked given = false

abbrev pub tells_waiting : AnsweredLine → Bool
tells_waiting l = is_waiting l.line l.answer

-- the life to which these requests belong
abbrev pub scene_of : Requests → Scene
scene_of r = record { run = r.run.now; life = r.life; map = r.map }

-- those of the same life, with these writes, these waits of reads, and so many reads that still wait
pub record AreRequests (scene : Scene) (writes : List AcceptedWrite) (reads : List ℕ) (unanswered : ℕ) (r : Requests) : Type 0 where
  pub scene_is : scene_of r ≡ scene
  pub writes_are : r.writes.items ≡ writes
  pub reads_are : r.reads.items ≡ reads
  pub unanswered_are : r.unanswered ≡ unanswered

-- one more read that still waits, if the line tells of one
abbrev pub more_waiting : ℕ → AnsweredLine → ℕ
more_waiting n l = if tells_waiting l then min (n + 1) (2 ^ 64 - 1) else n

-- the numbers of these waits, and how many requests of the kind still wait
pub record AreWaits (waits : List ℕ) (waiting : ℕ) (told : KindWaits) : Type 0 where
  pub known : MatchOption told.waits (waits ≡ []) (AreOf waits)
  pub waiting_are : told.waiting ≡ waiting

-- What is told of the requests of a life, by its reads that were answered and that weren't, and by its writes and the commands of its
-- channels
pub record TellsWaits (channels : List (List Stamped)) (writes : List AcceptedWrite) (reads : List ℕ) (unanswered : ℕ) (told : LifeWaits) : Type 0 where
  pub reads_are : AreWaits reads unanswered told.reads
  pub writes_are : AreWaits (write_waits_of channels writes) (length writes - length (write_waits_of channels writes)) told.writes

-- those of a life, by the lines that it has
abbrev pub TellsLife : Kept → ℕ → ReadyMap → List AnsweredLine → LifeWaits → Type 0
TellsLife run life over lines told =
    let scene : Scene = record { run = run; life = life; map = over } in
    TellsWaits (lists_of run life) (flat_map (writes_told scene) lines) (flat_map (reads_told scene) lines) (count_by tells_waiting lines) told

-- how many lines stand before the first that begins a life, and these lines
abbrev pub count_before_begin : Profile → List AnsweredLine → ℕ
count_before_begin profile lines = prefix_len (λ l. is_none (map_begun profile l)) lines

abbrev pub before_begin : Profile → List AnsweredLine → List AnsweredLine
before_begin profile lines = take (count_before_begin profile lines) lines

-- The lives of a run, the first behind so many others, by the lines that were answered: a life begins at each line that begins one, and
-- has the lines behind it up to the next such line.
abbrev pub TellsLives : Profile → Kept → ℕ → List AnsweredLine → List LifeWaits → Type 0
TellsLives profile run life [] told = told ≡ []
TellsLives profile run life (l ∷ later) told =
    MatchOption (map_begun profile l) (TellsLives profile run life later told) (λ over.
    (first : LifeWaits) × (others : List LifeWaits) × TellsLife run life over (before_begin profile later) first
    × TellsLives profile run (life + 1) later others × (told ≡ first ∷ others))
