-- What a trace comes from, and what is told of it.
use Rattle.std.specs.Prelude.{◌≡◌, ℕ, List, Option, Some, None}
use Rattle.auto_precharge.specs.declared.issued.Issued.{Issued}
use Rattle.ddr4_timing.specs.declared.timing.CommandRules.{CommandRules}
use Rattle.command_trace.specs.Channels.{Lists, found_of, found_up_to, issued_to}
use Rattle.command_trace.specs.Faults.{EndsAtFault}
use Rattle.command_trace.specs.Following.{IsFirstFault}
use Rattle.command_trace.specs.Tallies.{AreTallies}
use Rattle.command_trace.specs.Traces.{AreCommandsOf, AreFirstOf}
use Rattle.command_trace.specs.declared.diagnosis.Diagnosis.{Diagnosis}
use Rattle.command_trace.specs.declared.diagnosis.Listed.{Listed}
use Rattle.command_trace.specs.declared.entry.Located.{Located}
use Rattle.command_trace.specs.declared.reading.Form.{Form}
use Rattle.command_trace.specs.declared.source.Source.{Source}
use Rattle.command_trace.specs.declared.source.Source.TheVariants.{Bytes, File}
use Rattle.command_trace.specs.declared.tally.BrokenRule.{BrokenRule}
use Rattle.command_trace.specs.declared.trace_check.TraceCheck.{TraceCheck}

-- its bytes, where they are known before they are read
abbrev pub bytes_of : Source → Option (List ℕ)
bytes_of (File name) = None
bytes_of (Bytes bytes) = Some bytes.items

-- all commands of a channel of a trace, and their lines
abbrev pub ListsAll : Form → Option (List ℕ) → ℕ → Listed → Type 0
ListsAll form bytes channel listed = (found : List Located) × AreCommandsOf form bytes found × Lists channel listed found

-- those as far as a line, with all that the trace tells of each
abbrev pub AreIssuedOf : Form → Option (List ℕ) → ℕ → ℕ → List Issued → Type 0
AreIssuedOf form bytes channel last issued =
    (found : List Located) × AreFirstOf form bytes found × (issued ≡ issued_to channel (found_up_to last found))

-- The first command of a channel that a check found at fault stands on a line. As far as there the trace has these commands for the
-- channel: all but the last are lawful, and this is why that one may not follow them.
pub record HasFault (r : CommandRules) (form : Form) (bytes : Option (List ℕ)) (channel : ℕ) (check : TraceCheck) (d : Diagnosis) : Type 0 where
  pub line : ℕ
  pub of_check : IsFirstFault r (found_of channel check.given.items) line
  pub issued : List Issued
  pub are : AreIssuedOf form bytes channel line issued
  pub ends : EndsAtFault r issued d

-- the rules that a channel's commands break are told of all commands that the trace has for it
abbrev pub AreTalliesOf : CommandRules → Form → Option (List ℕ) → ℕ → List BrokenRule → Type 0
AreTalliesOf r form bytes channel told = (listed : Listed) × ListsAll form bytes channel listed × AreTallies r listed told
