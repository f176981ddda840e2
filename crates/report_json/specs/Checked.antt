-- What is written of a trace that was checked, channel by channel.
use Rattle.std.specs.Prelude.{◌≡◌, ℕ, ◌-◌, ◌^◌, ◌⊎◌, Bool, List, Option, Some, length, min, slice_get}
use Rattle.auto_precharge.specs.Unfolding.{IsLawfulTrace}
use Rattle.ddr4_timing.specs.declared.timing.CommandRules.{CommandRules}
use Rattle.command_trace.specs.Channels.{found_of, issued_to}
use Rattle.command_trace.specs.Sources.{AreTalliesOf, HasFault}
use Rattle.command_trace.specs.declared.diagnosis.Diagnosis.{Diagnosis}
use Rattle.command_trace.specs.declared.reading.Form.{Form}
use Rattle.command_trace.specs.declared.tally.BrokenRule.{BrokenRule}
use Rattle.command_trace.specs.declared.trace_check.TraceCheck.{TraceCheck}
use Rattle.trace_statistics.specs.Telling.{TellsBelow}
use Rattle.report_json.specs.Verdicts.{fault_in, lawful_in, tally_in}

-- how many commands a channel has, as far as 64 bits count
abbrev pub count_of : TraceCheck → ℕ → ℕ
count_of check channel = min (length (found_of channel check.given.items)) (2 ^ 64 - 1)

abbrev pub IsChannelLawful : CommandRules → TraceCheck → ℕ → Type 0
IsChannelLawful rules check channel = IsLawfulTrace rules (issued_to channel check.given.items)

-- of a channel whose commands are lawful is told that, and how many they are; of any other one what it is told by
abbrev pub TellsChannel : (ℕ → List ℕ → Type 0) → CommandRules → TraceCheck → Bool → ℕ → List ℕ → Type 0
TellsChannel Tells rules check is_json channel text =
    (IsChannelLawful rules check channel × (text ≡ lawful_in is_json channel (count_of check channel)))
    ⊎ ((¬ IsChannelLawful rules check channel) × Tells channel text)

-- its fault, and why in some words
abbrev pub TellsFault : CommandRules → Form → Option (List ℕ) → TraceCheck → Bool → ℕ → List ℕ → Type 0
TellsFault rules form bytes check is_json channel text =
    (found : Diagnosis) × HasFault rules form bytes channel check found × (why : List ℕ) × (text ≡ fault_in is_json channel found why)

-- one of the rules of a list, and why in some words
abbrev pub TellsTally : Bool → ℕ → List BrokenRule → ℕ → List ℕ → Type 0
TellsTally is_json channel tallies index text =
    (tally : BrokenRule) × (slice_get tallies index ≡ Some tally) × (why : List ℕ) × (text ≡ tally_in is_json channel tally why)

abbrev pub TellsEachTally : Bool → ℕ → List BrokenRule → List ℕ → Type 0
TellsEachTally is_json channel tallies text = TellsBelow (TellsTally is_json channel tallies) (length tallies) text

-- each rule that its commands break, in turn
abbrev pub TellsTallies : CommandRules → Form → Option (List ℕ) → Bool → ℕ → List ℕ → Type 0
TellsTallies rules form bytes is_json channel text =
    (tallies : List BrokenRule) × AreTalliesOf rules form bytes channel tallies × TellsEachTally is_json channel tallies text

-- what is told of a trace's channels, in turn: of each with a fault that one,
abbrev pub TellsVerdicts : CommandRules → Form → Option (List ℕ) → TraceCheck → Bool → List ℕ → Type 0
TellsVerdicts rules form bytes check is_json text =
    TellsBelow (TellsChannel (TellsFault rules form bytes check is_json) rules check is_json) rules.geometry.channels text

-- and where all are asked for, each rule that it breaks
abbrev pub TellsAllFaults : CommandRules → Form → Option (List ℕ) → TraceCheck → Bool → List ℕ → Type 0
TellsAllFaults rules form bytes check is_json text =
    TellsBelow (TellsChannel (TellsTallies rules form bytes is_json) rules check is_json) rules.geometry.channels text
