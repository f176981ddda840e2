-- What is written of a crash, put together.
use Rattle.std.proofs.Common.{◌≡◌, ◌∙◌, ℕ, List, [], ◌∷◌, ◌++◌, Bool, Option, ap, append-nil, codes, flat_map, min, subst}
use Rattle.std.proofs.KnownBytes.{Appends-trans}
use Rattle.std.proofs.lemmas.Grind.{flat_map-append}
use Rattle.std.specs.Io.KnownBytes.{Appends}
use Rattle.serde_json.specs.Data.{Data}
use Rattle.crash_table.specs.Counting.{writes_found}
use Rattle.crash_table.specs.declared.counts.Counts.{Counts}
use Rattle.crash_table.specs.declared.table.Block.{Block}
use Rattle.crash_table.specs.declared.table.OutcomeCount.{OutcomeCount}
use Rattle.crash_table.specs.declared.table.Table.{Table}
use Rattle.report_fields.specs.Fields.{Field, counts, counts_aligned, line_of, object_of, says, tells}
use Rattle.report_fields.specs.Parts.{IsTold, data_of_told, text_of_told}
use Rattle.report_fields.specs.declared.told.Told.{Told}
use Rattle.report_json.specs.Crashes.{blocks_in, counts_in, found_fields, found_kind, row_fields, table_in}

-- a row by what is told of the restore, and by how many writes it holds
abbrev pub row_by : OutcomeCount → ℕ → List ℕ → Data → List Field
row_by row held text value = says (10 ∷ []) ∷ counts_aligned (codes "times") row.times 8 ∷ says (codes " ") ∷ tells (codes "restore") text value
    ∷ says (codes ", acknowledged ") ∷ counts (codes "held") held ∷ says (codes " of ") ∷ counts (codes "acknowledged") row.outcome.told ∷ []

pub row_is : (row : OutcomeCount) (restore : Told) (held : ℕ) → IsTold (found_kind row.outcome.found) (found_fields row.outcome.found) restore
    → held ≡ min row.outcome.told (writes_found row.outcome.found) → row_by row held (text_of_told restore) (data_of_told restore) ≡ row_fields row
row_is row restore held told holds =
    let text = line_of (found_fields row.outcome.found) in let value = object_of (found_kind row.outcome.found) (found_fields row.outcome.found) in
    ap (λ (t : List ℕ). row_by row held t (data_of_told restore)) told.0 ∙ ap (λ (v : Data). row_by row held text v) told.1
    ∙ ap (λ (n : ℕ). row_by row n text value) holds

-- one more of several
pub more_of : {A : Type 0} (f : A → List ℕ) (more before : List A) (one : A) → more ≡ before ++ one ∷ [] → flat_map f more ≡ flat_map f before ++ f one
more_of f more before one is =
    ap (flat_map f) is ∙ flat_map-append f before (one ∷ []) ∙ ap (λ (l : List ℕ). flat_map f before ++ l) (append-nil (f one))

-- blocks, and the counts behind them
pub table_is : (is_json : Bool) (table : Table) (blocks : List Block) (tried : Counts) (old mid new : Option (List ℕ))
    → blocks ≡ table.blocks.items → tried ≡ table.counts → Appends old mid (blocks_in is_json blocks) → Appends mid new (counts_in is_json tried)
    → Appends old new (table_in is_json table)
table_is is_json table blocks tried old mid new are of first second =
    subst (λ (bs : List Block). Appends old new (blocks_in is_json bs ++ counts_in is_json table.counts)) are
    (subst (λ (c : Counts). Appends old new (blocks_in is_json blocks ++ counts_in is_json c)) of
    (Appends-trans old mid new (blocks_in is_json blocks) (counts_in is_json tried) first second))
