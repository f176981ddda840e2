-- What a crash may leave, field by field.
use Rattle.std.specs.Prelude.{ℕ, List, [], ◌∷◌, ◌++◌, ◌==◌, Bool, codes, flat_map, if◌then◌else◌, map, min}
use Rattle.crash_table.specs.declared.counts.Counts.{Counts}
use Rattle.crash_table.specs.declared.outcome.Found.{Found}
use Rattle.crash_table.specs.declared.outcome.Found.TheVariants.{Image, Refused}
use Rattle.crash_table.specs.declared.stop.Stop.{Stop}
use Rattle.crash_table.specs.declared.stop.Stop.TheVariants.{Dark, Loss}
use Rattle.crash_table.specs.declared.table.AtStop.{AtStop}
use Rattle.crash_table.specs.declared.table.Block.{Block}
use Rattle.crash_table.specs.declared.table.OutcomeCount.{OutcomeCount}
use Rattle.crash_table.specs.declared.table.Table.{Table}
use Rattle.crash_table.specs.Counting.{writes_found}
use Rattle.slot_store.specs.declared.restoring.RestoreError.{RestoreError}
use Rattle.slot_store.specs.declared.restoring.RestoreError.TheVariants as error
use Rattle.answer_json.specs.Answers.{verdict_name}
use Rattle.answer_json.specs.Refusals.{slot_number}
use Rattle.report_fields.specs.Fields.{Field, says, counts, counts_aligned, names, hides_name, hides_number, within, each, fields_in}

-- a refusal by its number and its name
abbrev pub refusal_fields : ℕ → List ℕ → List Field
refusal_fields code reason = counts (codes "code") code ∷ says (codes " ") ∷ names (codes "reason") reason ∷ []

-- why nothing was restored, with the slot that is damaged
abbrev pub error_fields : RestoreError → List Field
error_fields error.NoImage = refusal_fields 1 (codes "NoImage")
error_fields (error.Damaged slot) = refusal_fields 2 (codes "Damaged") ++ says (codes " ") ∷ counts (codes "slot") (slot_number slot) ∷ []
error_fields error.WrongSize = refusal_fields 3 (codes "WrongSize")
error_fields error.Device = refusal_fields 4 (codes "Device")
error_fields error.Memory = refusal_fields 5 (codes "Memory")

-- the call, which the object alone names
abbrev pub refused_by : List Field → List Field
refused_by fields = says (codes "refused ") ∷ hides_name (codes "call") (codes "restore") ∷ fields

-- what a restore answered
abbrev pub found_kind : Found → List ℕ
found_kind (Image generation count verdict) = codes "restored"
found_kind (Refused error) = codes "refused"

abbrev pub found_fields : Found → List Field
found_fields (Image generation count verdict) = says (codes "generation ") ∷ counts (codes "generation") generation
    ∷ says (codes ", writes ") ∷ counts (codes "count") count ∷ says (codes ", ") ∷ names (codes "verdict") (verdict_name verdict) ∷ []
found_fields (Refused error) = refused_by (error_fields error)

-- an outcome: how often it was found, what a restore answered, and how many of the acknowledged writes that holds
abbrev pub row_fields : OutcomeCount → List Field
row_fields row = says (10 ∷ []) ∷ counts_aligned (codes "times") row.times 8 ∷ says (codes " ")
    ∷ within (codes "restore") (found_kind row.outcome.found) (found_fields row.outcome.found)
    ∷ says (codes ", acknowledged ") ∷ counts (codes "held") (min row.outcome.told (writes_found row.outcome.found))
    ∷ says (codes " of ") ∷ counts (codes "acknowledged") row.outcome.told ∷ []

-- behind the rest of its line, each outcome on a line of its own
abbrev pub outcomes : List OutcomeCount → Field
outcomes rows = each (codes "outcomes") (codes "outcome") (map row_fields rows)

-- the first and the last line
abbrev pub lines_fields : Block → List Field
lines_fields block = if block.first == block.last
    then says (codes "line ") ∷ counts (codes "first") block.first ∷ hides_number (codes "last") block.last ∷ []
    else says (codes "lines ") ∷ counts (codes "first") block.first ∷ says (codes " to ") ∷ counts (codes "last") block.last ∷ []

abbrev pub block_fields : Block → List Field
block_fields block = lines_fields block ++ outcomes block.rows.items ∷ []

abbrev pub stop_words : Stop → List Field
stop_words (Dark calls) = says (codes ", ") ∷ names (codes "stop") (codes "dark") ∷ says (codes " behind ") ∷ counts (codes "calls") calls
    ∷ says (codes " device calls") ∷ []
stop_words Loss = says (codes ", mains lost behind it") ∷ hides_name (codes "stop") (codes "loss") ∷ []

abbrev pub stop_fields : AtStop → List Field
stop_fields at = says (codes "line ") ∷ counts (codes "line") at.line ∷ stop_words at.stop ++ outcomes at.rows.items ∷ []

abbrev pub counts_fields : Counts → List Field
counts_fields tried = says (codes "stops ") ∷ counts (codes "stops") tried.stops
    ∷ says (codes ", acknowledged writes missing: with Complete ") ∷ counts (codes "missing_with_complete") tried.complete
    ∷ says (codes ", with PossibleLoss ") ∷ counts (codes "missing_with_possible_loss") tried.possible ∷ []

abbrev pub block_in : Bool → Block → List ℕ
block_in is_json block = fields_in is_json (codes "lines") (block_fields block)

abbrev pub blocks_in : Bool → List Block → List ℕ
blocks_in is_json blocks = flat_map (block_in is_json) blocks

abbrev pub counts_in : Bool → Counts → List ℕ
counts_in is_json tried = fields_in is_json (codes "stops") (counts_fields tried)

-- a table: each block of it, and its counts
abbrev pub table_in : Bool → Table → List ℕ
table_in is_json table = blocks_in is_json table.blocks.items ++ counts_in is_json table.counts
