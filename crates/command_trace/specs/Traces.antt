-- The commands of a trace's bytes.
use Rattle.std.specs.Prelude.{◌≡◌, ℕ, ◌++◌, Bool, false, List, [], ◌∷◌, Option, Some, None, IfSome}
use Rattle.std.specs.Borrow.{Bor}
use Rattle.std.specs.Io.Chain.{chain_remaining}
use Rattle.std.specs.Option.{option_to_list}
use Rattle.csv.specs.Reading.{AreRecords, Reached, Ready, default_config, reader_config, reader_state, reader_trim, source_of, strip_bom}
use Rattle.csv.specs.declared.parser.Config.{Config}
use Rattle.csv.specs.declared.parser.State.{State}
use Rattle.csv.specs.declared.parser.State.TheVariants.{StartRecord}
use Rattle.csv.specs.declared.parser.Terminator.TheVariants.{Any}
use Rattle.csv.specs.declared.reader.Reader.{Reader}
use Rattle.csv.specs.declared.reader.Trim.TheVariants as trim
use Rattle.std.specs.declared.io.traits.Chain.{Chain}
use Rattle.command_trace.specs.declared.entry.Located.{Located}
use Rattle.command_trace.specs.declared.reading.Form.{Form}
use Rattle.command_trace.specs.declared.reading.Form.TheVariants.{Lines, Table, Foreign}
use Rattle.command_trace.specs.declared.reading.TraceReader.{TraceReader}
use Rattle.command_trace.specs.Rows.{RowSays, words_of_row}

-- what stands between the words of a form: a space, a comma, or nothing, so that a line is one field
abbrev pub delimiter_of : Form → ℕ
delimiter_of (Lines others) = 32
delimiter_of Table = 44
delimiter_of (Foreign form) = 0

-- rows of so delimited fields, each a line; lines that begin with '#' are none
abbrev pub config_of : ℕ → Config
config_of delimiter = record default_config { delimiter = delimiter; quoting = false; comment = Some 35; terminator = Any 10 }

-- the bytes that are read: without a byte order mark, and with an end of line behind the last line too
abbrev pub text_of : List ℕ → List ℕ
text_of bytes = strip_bom (bytes ++ 10 ∷ [])

-- these are the rows of a trace
abbrev pub AreRowsOf : Form → List ℕ → List (List (List ℕ)) → Type 0
AreRowsOf form bytes rows = AreRecords (config_of (delimiter_of form)) StartRecord (text_of bytes) rows

-- rows say these commands, one after another, to a reader that has seen the header of a table or not before and behind them
unfoldable pub RowsSay : Form → Bool → List (List (List ℕ)) → List Located → Bool → Type 0
RowsSay form old [] found new = (found ≡ []) × (new ≡ old)
RowsSay form old (row ∷ rows) found new =
    (first : Option Located) × (mid : Bool) × (rest : List Located)
    × RowSays form old (words_of_row row) first mid × RowsSay form mid rows rest new × (found ≡ option_to_list first ++ rest)

-- The commands are those of a trace: its rows say them, and no others. Of bytes that no one knows before they are read, as those of
-- a file, some rows say them.
pub record AreCommandsOf (form : Form) (bytes : Option (List ℕ)) (found : List Located) : Type 0 where
  pub rows : List (List (List ℕ))
  pub has_header : Bool
  pub of_bytes : IfSome bytes (λ known. AreRowsOf form known rows)
  pub say : RowsSay form false rows found has_header

-- these are the first rows of a trace, or all
abbrev pub AreFirstRowsOf : Form → List ℕ → List (List (List ℕ)) → Type 0
AreFirstRowsOf form bytes rows =
    (state : State) × (left : List ℕ) × Reached (config_of (delimiter_of form)) StartRecord (text_of bytes) rows state left

-- The commands are the first of a trace, or all: its first rows say them, and no others.
pub record AreFirstOf (form : Form) (bytes : Option (List ℕ)) (found : List Located) : Type 0 where
  pub rows : List (List (List ℕ))
  pub has_header : Bool
  pub of_bytes : IfSome bytes (λ known. AreFirstRowsOf form known rows)
  pub say : RowsSay form false rows found has_header

-- what a reader of rows has left of its source and of the end of line behind it, where that is known
abbrev pub rows_left : {R : Type 0} → (R → Option (List ℕ)) → Reader (Chain R (Bor (List ℕ))) → Option (List ℕ)
rows_left remaining rows = source_of (chain_remaining remaining (λ (end : Bor (List ℕ)). Some end.now)) rows

-- it reads rows with this delimiter
pub record ReadsRows {R : Type 0} (delimiter : ℕ) (rows : Reader R) : Type 0 where
  pub config : reader_config rows ≡ config_of delimiter
  pub trim : reader_trim rows ≡ trim.None
  pub ready : Ready rows

-- it has come through these rows of the bytes
abbrev pub HasReached : {R : Type 0} → Form → (R → Option (List ℕ)) → List ℕ → List (List (List ℕ)) → Reader (Chain R (Bor (List ℕ))) → Type 0
HasReached form remaining bytes rows reader =
    (left : List ℕ) × (rows_left remaining reader ≡ Some left)
    × Reached (config_of (delimiter_of form)) StartRecord (text_of bytes) rows (reader_state reader) left

-- A reader has read rows of a trace, where its bytes are known, and these say the commands that it gave.
pub record HasRead {R : Type 0} (remaining : R → Option (List ℕ)) (bytes : Option (List ℕ)) (reader : TraceReader R) (found : List Located) : Type 0 where
  pub rows : List (List (List ℕ))
  pub reads : ReadsRows (delimiter_of reader.form) reader.rows
  pub reached : IfSome bytes (λ known. HasReached reader.form remaining known rows reader.rows)
  pub say : RowsSay reader.form false rows found reader.has_header

-- then it gave the next command, or none, since these are all
abbrev pub HasReadNext : {R : Type 0} → (R → Option (List ℕ)) → Option (List ℕ) → Form → TraceReader R → List Located → Option Located → Type 0
HasReadNext remaining bytes form reader found (Some next) = HasRead remaining bytes reader (found ++ next ∷ [])
HasReadNext remaining bytes form reader found None = AreCommandsOf form bytes found
