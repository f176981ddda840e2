-- What a check of a trace goes by.
use Rattle.std.specs.Prelude.{◌≡◌, ◌≢◌, ◌↔◌, ℕ, Bool, true, false, List, [], ◌++◌, Option, None, Some, codes}
use Rattle.std.specs.Io.KnownBytes.{Appends}
use Rattle.std.specs.Process.{exit_status}
use Rattle.std.specs.declared.process.ExitCode.{ExitCode}
use Rattle.clap.specs.Words.{first_value, found_of, one_text}
use Rattle.clap.specs.declared.parser.matches.ArgMatches.{ArgMatches}
use Rattle.command_faults.specs.Exit.{IsOfOutput}
use Rattle.command_faults.specs.Named.{NamesRules}
use Rattle.command_faults.specs.declared.fault.ProgramFault.{ProgramFault}
use Rattle.command_faults.specs.declared.fault.ProgramFault.TheVariants as fault
use Rattle.command_line.specs.Forms.{IsFormAsked}
use Rattle.command_line.specs.Verbs.{IsOfFileNamed, profile_word, word_of}
use Rattle.command_line.specs.declared.check.Asked.{Asked}
use Rattle.command_trace.specs.Channels.{AreLawful, FollowsAll}
use Rattle.command_trace.specs.Reading.{IsFormWith}
use Rattle.command_trace.specs.Sources.{bytes_of}
use Rattle.command_trace.specs.Traces.{AreCommandsOf}
use Rattle.command_trace.specs.declared.entry.Located.{Located}
use Rattle.command_trace.specs.declared.reading.Form.{Form}
use Rattle.command_trace.specs.declared.reading.TraceFault.{TraceFault}
use Rattle.command_trace.specs.declared.reading.TraceFault.TheVariants as trace
use Rattle.command_trace.specs.declared.source.Source.{Source}
use Rattle.command_trace.specs.declared.source.Source.TheVariants.{Bytes, File}
use Rattle.command_trace.specs.declared.trace_check.TraceCheck.{TraceCheck}
use Rattle.ddr4_timing.specs.declared.timing.CommandRules.{CommandRules}
use Rattle.report_json.specs.Checked.{TellsAllFaults, TellsVerdicts}
use Rattle.statistics_report.specs.Telling.{TellsObjects}
use Rattle.trace_statistics.specs.Telling.{TellsStatistics}

-- the trace is in the file of this name, or is what was given for it
abbrev pub IsSourceNamed : (List ℕ → List ℕ → Type 0) → List ℕ → Source → Type 0
IsSourceNamed gives word (File name) = name.now ≡ word
IsSourceNamed gives word (Bytes bytes) = gives word bytes.items

-- a flag is set or not, as the words have it
pub record IsFlag (matches : ArgMatches) (name : List ℕ) (flag : Bool) : Type 0 where
  pub none : one_text (found_of matches) name ≡ None → flag ≡ false
  pub set : one_text (found_of matches) name ≡ Some (codes "true") → flag ≡ true
  pub unset : one_text (found_of matches) name ≡ Some (codes "false") → flag ≡ false

-- a trace is read in the form that is asked for, and else as a table or as lines, with others among them or not
abbrev pub IsReadAs : Option Form → Bool → Form → Type 0
IsReadAs (Some asked) others form = form ≡ asked
IsReadAs None others form = IsFormWith others form

-- what is told of each channel of a trace that was checked: that it is lawful, or its fault, or where all are asked for each rule that
-- it breaks
abbrev pub TellsChannels : Bool → CommandRules → Form → Option (List ℕ) → TraceCheck → Bool → List ℕ → Type 0
TellsChannels false rules form bytes check is_json text = TellsVerdicts rules form bytes check is_json text
TellsChannels true rules form bytes check is_json text = TellsAllFaults rules form bytes check is_json text

-- The status is 0 exactly where the commands of every channel are lawful; a trace of none has one only where that is allowed. The text
-- tells of each channel.
pub record IsJudged (rules : CommandRules) (form : Form) (bytes : Option (List ℕ)) (check : TraceCheck) (asked : Asked) (code : ExitCode) (text : List ℕ) : Type 0 where
  pub status : (exit_status code ≡ 0) ↔ AreLawful rules check
  pub some : asked.allows_empty ≡ false → check.given.items ≢ []
  pub channels : TellsChannels asked.all rules form bytes check asked.is_json text

-- what is told of the commands' numbers, as lines or as objects; nothing where they aren't asked for
abbrev pub TellsCounts : Bool → Bool → CommandRules → List Located → List ℕ → Type 0
TellsCounts false is_json rules found text = text ≡ []
TellsCounts true false rules found text = TellsStatistics rules found text
TellsCounts true true rules found text = TellsObjects rules found text

-- The commands of the trace's bytes were checked by these rules and judged, and what is told of them was written. Of a file that is read
-- as it is checked, whose bytes no one knows before, they are commands that some rows say.
pub record HasVerdict (rules : CommandRules) (source : Source) (asked : Asked) (code : ExitCode) (old new : Option (List ℕ)) : Type 0 where
  pub form : Form
  pub check : TraceCheck
  pub read_as : IsReadAs asked.form asked.others form
  pub reads : AreCommandsOf form (bytes_of source) check.given.items
  pub follows : FollowsAll rules check
  pub verdicts : List ℕ
  pub judged : IsJudged rules form (bytes_of source) check asked code verdicts
  pub statistics : List ℕ
  pub counted : TellsCounts asked.stats asked.is_json rules check.given.items statistics
  pub told : Appends old new (verdicts ++ statistics)

-- the word of a verb for its trace
abbrev pub trace_word : ArgMatches → List ℕ
trace_word matches = word_of matches (codes "TRACE") (codes "-")

-- what is asked of a check by its words
pub record AreAsked (matches : ArgMatches) (asked : Asked) : Type 0 where
  pub form : IsFormAsked (first_value (found_of matches) (codes "form")) (first_value (found_of matches) (codes "columns")) asked.form
  pub others : IsFlag matches (codes "answers") asked.others
  pub empty : IsFlag matches (codes "allow-empty") asked.allows_empty
  pub json : IsFlag matches (codes "json") asked.is_json
  pub all : IsFlag matches (codes "all") asked.all
  pub stats : IsFlag matches (codes "stats") asked.stats

-- the rules are those of the word for the profile, the trace is that of its word, and of it is told what the words ask for
pub record HasVerdictBy (gives : List ℕ → List ℕ → Type 0) (matches : ArgMatches) (code : ExitCode) (old new : Option (List ℕ)) : Type 0 where
  pub rules : CommandRules
  pub source : Source
  pub asked : Asked
  pub of_profile : NamesRules gives (profile_word matches) rules
  pub of_trace : IsSourceNamed gives (trace_word matches) source
  pub of_words : AreAsked matches asked
  pub verdict : HasVerdict rules source asked code old new

-- the fault that the program tells where the trace of this name isn't read
abbrev pub IsOfTrace : List ℕ → TraceFault → ProgramFault → Type 0
IsOfTrace name (trace.Line line why) told = told ≡ fault.Trace line
IsOfTrace name trace.Reader told = IsOfFileNamed name told
IsOfTrace name trace.Writer told = IsOfOutput told
IsOfTrace name trace.Memory told = told ≡ fault.Memory
