-- A channel of a trace is told of.
use Rattle.std.proofs.Common.{◌≡◌, ◌↔◌, ◌<◌, inl, inr, ℕ, Bool, List, length, get_or, Option, None, Some, IfSome, IsNone, true≢false, refl, ap}
use Rattle.std.proofs.lemmas.Option.{slice_get-get_or}
use Rattle.std.specs.Io.KnownBytes.{Appends}
use Rattle.ddr4_timing.specs.declared.timing.CommandRules.{CommandRules}
use Rattle.command_trace.specs.Sources.{HasFault}
use Rattle.command_trace.specs.declared.diagnosis.Diagnosis.{Diagnosis}
use Rattle.command_trace.specs.declared.reading.Form.{Form}
use Rattle.command_trace.specs.declared.tally.BrokenRule.{BrokenRule}
use Rattle.command_trace.specs.declared.trace_check.TraceCheck.{TraceCheck}
use Rattle.report_json.specs.Checked.{IsChannelLawful, TellsChannel, TellsFault, TellsTally, count_of}
use Rattle.report_json.specs.Verdicts.{fault_in, lawful_in, tally_in}

-- as lawful, or by its fault
pub verdict_told : (rules : CommandRules) (form : Form) (bytes : Option (List ℕ)) (check : TraceCheck) (is_json : Bool) (channel count : ℕ) (found : Option Diagnosis) (mid new : Option (List ℕ))
    → (IsNone found ↔ IsChannelLawful rules check channel) → IfSome found (HasFault rules form bytes channel check) → count ≡ count_of check channel
    → (found ≡ None → Appends mid new (lawful_in is_json channel count))
    → IfSome found (λ found. (why : List ℕ) × Appends mid new (fault_in is_json channel found why))
    → (here : List ℕ) × TellsChannel (TellsFault rules form bytes check is_json) rules check is_json channel here × Appends mid new here
verdict_told rules form bytes check is_json channel count None mid new is has counted lawful fault =
    (lawful_in is_json channel count, inl (is.0 refl, ap (λ (n : ℕ). lawful_in is_json channel n) counted), lawful refl)
verdict_told rules form bytes check is_json channel count (Some found) mid new is has counted lawful fault =
    (fault_in is_json channel found fault.0, inr ((λ holds. true≢false (is.1 holds)), (found, has, fault.0, refl)), fault.1)

-- the rule at an index of a list is told
pub tally_told : (is_json : Bool) (channel : ℕ) (tallies : List BrokenRule) (index : ℕ) (other : BrokenRule) (why : List ℕ) → index < length tallies
    → TellsTally is_json channel tallies index (tally_in is_json channel (get_or tallies index other) why)
tally_told is_json channel tallies index other why within = (get_or tallies index other, slice_get-get_or tallies index other within, why, refl)
