-- The schedule that words name.
use Rattle.std.specs.Prelude.{◌≡◌, ◌≢◌, ◌⊎◌, ℕ, false, List, Option, Some, IfSome, [], codes, filter, filter_map}
use Rattle.std.specs.Borrow.{Bor}
use Rattle.std.specs.Option.{option_map}
use Rattle.clap.specs.Words.{first_value, found_of}
use Rattle.clap.specs.declared.parser.matches.ArgMatches.{ArgMatches}
use Rattle.command_faults.specs.Named.{NamesProfile, NamesRules}
use Rattle.command_line.specs.Check.{IsReadAs}
use Rattle.command_line.specs.Forms.{IsFormAsked}
use Rattle.command_line.specs.Verbs.{profile_word, schedule_word}
use Rattle.command_line.specs.Whole.{HasAllCommands}
use Rattle.command_line.specs.declared.draw.Pictures.{Pictures}
use Rattle.command_trace.specs.Traces.{AreCommandsOf}
use Rattle.command_trace.specs.declared.entry.Located.{Located}
use Rattle.command_trace.specs.declared.reading.Form.{Form}
use Rattle.ddr4_timing.specs.Limits.{lines_of}
use Rattle.ddr4_timing.specs.declared.timing.CommandRules.{CommandRules}
use Rattle.nv_profile.specs.declared.profile.Profile.{Profile}
use Rattle.nv_script.specs.Texts.{IsScript}
use Rattle.nv_script.specs.declared.answer.Answer.{Answer}
use Rattle.nv_script.specs.declared.line.ScriptLine.{ScriptLine}
use Rattle.schedule_drawing.specs.Range.{is_within, part_within}
use Rattle.schedule_drawing.specs.Telling.{TellsAll}
use Rattle.schedule_drawing.specs.Traces.{DrawsTrace}
use Rattle.schedule_drawing.specs.declared.schedule.Schedule.{Schedule}
use Rattle.script_runner.specs.Ended.{Lives}
use Rattle.script_runner.specs.Story.{AreAllAnswered}

-- the schedule of a script by a profile: its lines are answered, and all commands of its lives are drawn
pub record DrawsScript (profile : Profile) (text : List ℕ) (schedule : Schedule) : Type 0 where
  pub lines : List ScriptLine
  pub script : IsScript profile.checked.geometry text lines
  pub answers : List Answer
  pub answered : AreAllAnswered (lines_of profile.checked.geometry) lines [] answers
  pub lives : Lives
  pub whole : List Answer
  pub all : HasAllCommands lives answers whole
  pub drawn : TellsAll profile.checked.timing whole schedule

-- that of a trace, this text, by these rules: all its commands are drawn, read in the form that is asked for, and else in its own
pub record DrawsCommands (rules : CommandRules) (asked : Option Form) (text : List ℕ) (schedule : Schedule) : Type 0 where
  pub form : Form
  pub found : List Located
  pub read_as : IsReadAs asked false form
  pub reads : AreCommandsOf form (Some text) found
  pub draws : DrawsTrace rules found schedule

-- by the rules of a profile's word
abbrev pub DrawsTraceBy : (List ℕ → List ℕ → Type 0) → List ℕ → Option Form → List ℕ → Schedule → Type 0
DrawsTraceBy gives profile_word asked text schedule = (rules : CommandRules) × NamesRules gives profile_word rules × DrawsCommands rules asked text schedule

abbrev pub DrawsScriptBy : (List ℕ → List ℕ → Type 0) → List ℕ → List ℕ → Schedule → Type 0
DrawsScriptBy gives profile_word text schedule = (profile : Profile) × NamesProfile gives profile_word profile × DrawsScript profile text schedule

-- a trace or a script, this text, is drawn by the profile of this word
abbrev pub IsDrawnBy : (List ℕ → List ℕ → Type 0) → List ℕ → Option Form → List ℕ → Schedule → Type 0
IsDrawnBy gives profile_word asked text schedule = DrawsTraceBy gives profile_word asked text schedule ⊎ DrawsScriptBy gives profile_word text schedule

-- the file of this name is one that the words have for what a drawing reads
abbrev pub IsReadBy : ArgMatches → List ℕ → Type 0
IsReadBy matches name = (name ≢ codes "-") × ((name ≡ profile_word matches) ⊎ (name ≡ schedule_word matches))

-- the words ask for a picture of this form, and name its file
abbrev pub IsAskedPicture : ArgMatches → List ℕ → Option (Bor (List ℕ)) → Type 0
IsAskedPicture matches form file = option_map (λ name. name.now) file ≡ first_value (found_of matches) form

-- the files of the pictures that the words ask for: none is read, and they are two
pub record ArePicturesOf (matches : ArgMatches) (pictures : Pictures) : Type 0 where
  pub svg : IsAskedPicture matches (codes "svg") pictures.svg
  pub vcd : IsAskedPicture matches (codes "vcd") pictures.vcd
  pub svg_unread : IfSome pictures.svg (λ name. ¬ IsReadBy matches name.now)
  pub vcd_unread : IfSome pictures.vcd (λ name. ¬ IsReadBy matches name.now)
  pub apart : IfSome pictures.svg (λ one. IfSome pictures.vcd (λ other. one.now ≢ other.now))

-- what of a schedule lies from one clock to another: of each shape the part there, the events and the flaws there, over the same lives
pub record IsCutTo (first last : ℕ) (whole shown : Schedule) : Type 0 where
  pub shapes : shown.shapes.items ≡ filter_map (part_within first last) whole.shapes.items
  pub events : shown.events.items ≡ filter (λ event. is_within first last event.clock) whole.events.items
  pub flaws : shown.flaws.items ≡ filter (λ flaw. is_within first last flaw.clock) whole.flaws.items
  pub begins : shown.begins ≡ whole.begins

-- the whole schedule is shown, or what of it lies between two clocks
abbrev pub IsRangeShown : Schedule → Schedule → Type 0
IsRangeShown whole shown = (shown ≡ whole) ⊎ ((first : ℕ) × (last : ℕ) × IsCutTo first last whole shown)

-- the text is what is given for its own word, and the form is the one that the words ask for
pub record IsScheduleNamed (gives : List ℕ → List ℕ → Type 0) (matches : ArgMatches) (schedule : Schedule) : Type 0 where
  pub text : List ℕ
  pub asked : Option Form
  pub of_word : gives (schedule_word matches) text
  pub of_form : IsFormAsked (first_value (found_of matches) (codes "form")) (first_value (found_of matches) (codes "columns")) asked
  pub drawn : IsDrawnBy gives (profile_word matches) asked text schedule

-- a schedule is had by these words
abbrev pub HasSchedule : (List ℕ → List ℕ → Type 0) → ArgMatches → Type 0
HasSchedule gives matches = (schedule : Schedule) × IsScheduleNamed gives matches schedule
