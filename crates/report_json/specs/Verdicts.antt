-- What a check tells of a channel, field by field.
use Rattle.std.specs.Prelude.{ℕ, ◌==◌, List, [], ◌∷◌, ◌++◌, Bool, codes, if◌then◌else◌}
use Rattle.ddr4_timing.specs.Rules.{rule_number}
use Rattle.ddr4_timing.specs.declared.command.Command.{Command}
use Rattle.ddr4_timing.specs.declared.command.Command.TheVariants.{Act, Rd, Wr, Pre, PreAll, Ref, Sre}
use Rattle.ddr4_timing.specs.declared.place.BankAddress.{BankAddress}
use Rattle.command_trace.specs.declared.diagnosis.Diagnosis.{Diagnosis}
use Rattle.command_trace.specs.declared.diagnosis.NumberedCommand.{NumberedCommand}
use Rattle.command_trace.specs.declared.tally.BrokenRule.{BrokenRule}
use Rattle.report_fields.specs.Fields.{Field, says, counts, names, within, fields_in}

-- how many commands it has, all of them lawful
abbrev pub lawful_fields : ℕ → ℕ → List Field
lawful_fields channel count = counts (codes "channel") channel ∷ says (codes " lawful ") ∷ counts (codes "commands") count ∷ []

-- a number behind a blank
abbrev pub spaced : List ℕ → ℕ → List Field
spaced name n = says (codes " ") ∷ counts name n ∷ []

abbrev pub bank_fields : BankAddress → List Field
bank_fields at = spaced (codes "rank") at.rank ++ spaced (codes "group") at.group ++ spaced (codes "bank") at.bank

-- a command's name, and the numbers of its place
abbrev pub command_fields : Command → List Field
command_fields (Act at row) = names (codes "command") (codes "ACT") ∷ bank_fields at ++ spaced (codes "row") row
command_fields (Rd at column) = names (codes "command") (codes "RD") ∷ bank_fields at ++ spaced (codes "column") column
command_fields (Wr at column) = names (codes "command") (codes "WR") ∷ bank_fields at ++ spaced (codes "column") column
command_fields (Pre at) = names (codes "command") (codes "PRE") ∷ bank_fields at
command_fields (PreAll rank) = names (codes "command") (codes "PREA") ∷ spaced (codes "rank") rank
command_fields (Ref rank) = names (codes "command") (codes "REF") ∷ spaced (codes "rank") rank
command_fields (Sre rank) = names (codes "command") (codes "SRE") ∷ spaced (codes "rank") rank

-- the line of a command in its trace, and its clock, before what is told of it
abbrev pub numbered_by : NumberedCommand → List Field → List Field
numbered_by command behind = says (codes "line ") ∷ counts (codes "line") command.line ∷ says (codes ": ")
    ∷ counts (codes "clock") command.command.clock ∷ says (codes " ") ∷ behind

abbrev pub numbered_fields : NumberedCommand → List Field
numbered_fields command = numbered_by command (command_fields command.command.cmd)

-- a command of a fault
abbrev pub fault_command : List ℕ → NumberedCommand → List Field
fault_command name command = says (codes "; ") ∷ within name (codes "command") (numbered_fields command) ∷ []

-- the rule, why in words, the first command where it is another one, and the command at which the rule is broken
abbrev pub fault_fields : ℕ → Diagnosis → List ℕ → List Field
fault_fields channel found why = counts (codes "channel") channel ∷ says (codes " fault ") ∷ counts (codes "rule") (rule_number found.fault.rule)
    ∷ says (codes ", ") ∷ names (codes "why") why
    ∷ (if found.fault.first == found.fault.second then [] else fault_command (codes "first") found.first) ++ fault_command (codes "second") found.second

-- a first fault, and how many commands break its rule
abbrev pub first_of : Field → ℕ → List Field
first_of first count = first ∷ says (codes "; the first of ") ∷ counts (codes "commands") count ∷ []

-- a rule that is broken, by the first fault of it
abbrev pub tally_fields : ℕ → BrokenRule → List ℕ → List Field
tally_fields channel tally why = first_of (within (codes "first") (codes "fault") (fault_fields channel tally.first why)) tally.count

-- what is written
abbrev pub lawful_in : Bool → ℕ → ℕ → List ℕ
lawful_in is_json channel count = fields_in is_json (codes "lawful") (lawful_fields channel count)

abbrev pub fault_in : Bool → ℕ → Diagnosis → List ℕ → List ℕ
fault_in is_json channel found why = fields_in is_json (codes "fault") (fault_fields channel found why)

abbrev pub tally_in : Bool → ℕ → BrokenRule → List ℕ → List ℕ
tally_in is_json channel tally why = fields_in is_json (codes "faults") (tally_fields channel tally why)
