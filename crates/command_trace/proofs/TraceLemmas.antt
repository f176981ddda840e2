-- How the rows of a trace say its commands, row after row.
use Rattle.std.proofs.Common.{◌≡◌, ◌∙◌, ℕ, Bool, true, false, List, [], ◌∷◌, ◌++◌, Option, Some, None, append_assoc, ap, IfOk, inl, is_some, refl, Err, Ok, Result, subst, sym}
use Rattle.std.proofs.lemmas.List.{append-nil}
use Rattle.std.specs.Borrow.{Bor}
use Rattle.std.specs.Fmt.{with_newline}
use Rattle.std.specs.Io.Chain.{chain_remaining}
use Rattle.std.specs.Option.{option_to_list}
use Rattle.std.specs.Prelude.{IfSome, option_map}
use Rattle.std.specs.declared.io.traits.Chain.{Chain}
use Rattle.csv.proofs.ReadFacts.{rows-end, rows-more}
use Rattle.csv.specs.Reading.{ReadRecord, Reached, Ready, reader_state, reader_trim, strip_bom, took_first}
use Rattle.csv.specs.declared.parser.State.TheVariants.{StartRecord}
use Rattle.csv.specs.declared.reader.Reader.{Reader}
use Rattle.csv.specs.declared.reader.Trim.TheVariants as trim
use Rattle.command_trace.specs.Rows.{RowSays, words_of_row}
use Rattle.command_trace.specs.Traces.{AreCommandsOf, AreFirstOf, HasRead, HasReadNext, HasReached, ReadsRows, RowsSay, config_of, delimiter_of, rows_left, text_of}
use Rattle.command_trace.specs.declared.entry.Located.{Located}
use Rattle.command_trace.specs.declared.reading.Form.{Form}
use Rattle.command_trace.specs.declared.reading.TraceReader.{TraceReader}

-- one more row
pub says_more : (form : Form) (old : Bool) (rows : List (List (List ℕ))) (found : List Located) (mid : Bool) (row : List (List ℕ)) (next : Option Located) (new : Bool)
    → RowsSay form old rows found mid → RowSays form mid (words_of_row row) next new → RowsSay form old (rows ++ row ∷ []) (found ++ option_to_list next) new
unfolding RowsSay
says_more form old [] found mid row next new say step = (
  next,
  new,
  [],
  subst (λ (b : Bool). RowSays form b (words_of_row row) next new) say.1 step,
  (refl, refl),
  rw (say.0, append-nil) refl,
)
says_more form old (first ∷ rows) found mid row next new say step = (
  say.0,
  say.1,
  say.2 ++ option_to_list next,
  say.3,
  says_more form say.1 rows say.2 mid row next new say.4 step,
  ap (λ (l : List Located). l ++ option_to_list next) say.5 ∙ append_assoc (option_to_list say.0) say.2 (option_to_list next),
)

-- before any row
pub reads_none : {R : Type 0} (remaining : R → Option (List ℕ)) (source : Option (List ℕ)) (reader : TraceReader R)
    → ReadsRows (delimiter_of reader.form) reader.rows → reader_state reader.rows ≡ StartRecord
    → rows_left remaining reader.rows ≡ option_map strip_bom (with_newline source) → reader.has_header ≡ false → HasRead remaining source reader []
unfolding Reached RowsSay
reads_none remaining None reader reads state left header = record { rows = []; reads = reads; reached = tt; say = (refl, header) }
reads_none remaining (Some bytes) reader reads state left header =
    record { rows = []; reads = reads; reached = (text_of bytes, left, (sym state, refl)); say = (refl, header) }

-- one row further in the bytes, where these are known
reached_more : {R : Type 0} (remaining : R → Option (List ℕ)) (bytes : Option (List ℕ)) (form : Form) (old new : Reader (Chain R (Bor (List ℕ)))) (rows : List (List (List ℕ))) (row : List (List ℕ))
    → ReadsRows (delimiter_of form) old → ReadRecord (chain_remaining remaining (λ (end : Bor (List ℕ)). Some end.now)) old new true row
    → IfSome bytes (λ known. HasReached form remaining known rows old) → IfSome bytes (λ known. HasReached form remaining known (rows ++ row ∷ []) new)
reached_more remaining None form old new rows row reads read h = tt
reached_more remaining (Some known) form old new rows row reads read h =
    rows-more (chain_remaining remaining (λ (end : Bor (List ℕ)). Some end.now)) old new row (config_of (delimiter_of form)) StartRecord (text_of known) h.0 rows reads.config h.1 h.2 read

-- what a read of a row is known to do, of a reader that reads rows
abbrev pub MayRead : {R : Type 0} → (R → Option (List ℕ)) → Reader (Chain R (Bor (List ℕ))) → Reader (Chain R (Bor (List ℕ))) → Bool → List (List ℕ) → Type 0
MayRead remaining old new more row =
    reader_trim old ≡ trim.None → Ready old → ReadRecord (chain_remaining remaining (λ (end : Bor (List ℕ)). Some end.now)) old new more row

-- a row that was read, and what it says
pub reads_more : {R : Type 0} (remaining : R → Option (List ℕ)) (bytes : Option (List ℕ)) (old new : TraceReader R) (found : List Located) (row : List (List ℕ)) (next : Option Located)
    → new.form ≡ old.form → MayRead remaining old.rows new.rows true row → (reader_trim old.rows ≡ trim.None → took_first new.rows ≡ true)
    → RowSays old.form old.has_header (words_of_row row) next new.has_header → HasRead remaining bytes old found → HasRead remaining bytes new (found ++ option_to_list next)
reads_more remaining bytes old new found row next same may first step h =
    let rows : List (List (List ℕ)) = h.rows ++ row ∷ [] in
    let read = may h.reads.trim h.reads.ready in
    record {
      rows = rows;
      reads =
          subst (λ (f : Form). ReadsRows (delimiter_of f) new.rows) (sym same)
          (record { config = read.2 ∙ h.reads.config; trim = read.3 ∙ h.reads.trim; ready = inl (first h.reads.trim) });
      reached =
          subst (λ (f : Form). IfSome bytes (λ known. HasReached f remaining known rows new.rows)) (sym same)
          (reached_more remaining bytes old.form old.rows new.rows h.rows row h.reads read h.reached);
      say =
          subst (λ (f : Form). RowsSay f false rows (found ++ option_to_list next) new.has_header) (sym same)
          (says_more old.form false h.rows found old.has_header row next new.has_header h.say step);
    }

-- the same, by what a call left
pub reads_row : {R : Type 0} (remaining : R → Option (List ℕ)) (bytes : Option (List ℕ)) (old new : TraceReader R) (rows : Reader (Chain R (Bor (List ℕ)))) (found : List Located) (row : List (List ℕ)) (more : Bool) (next : Option Located)
    → new.form ≡ old.form → new.rows ≡ rows → more ≡ true → MayRead remaining old.rows rows more row → (reader_trim old.rows ≡ trim.None → took_first rows ≡ true)
    → RowSays old.form old.has_header (words_of_row row) next new.has_header → HasRead remaining bytes old found → HasRead remaining bytes new (found ++ option_to_list next)
reads_row {R} remaining bytes old new rows found row more next same read is may first step h =
    let known : MayRead remaining old.rows new.rows more row = subst (λ (r : Reader (Chain R (Bor (List ℕ)))). MayRead remaining old.rows r more row) (sym read) may in
    let begun : reader_trim old.rows ≡ trim.None → took_first new.rows ≡ true = subst (λ (r : Reader (Chain R (Bor (List ℕ)))). reader_trim old.rows ≡ trim.None → took_first r ≡ true) (sym read) first in
    reads_more remaining bytes old new found row next same (subst (λ (b : Bool). MayRead remaining old.rows new.rows b row) is known) begun step h

-- one that says nothing
pub reads_past : {R : Type 0} (remaining : R → Option (List ℕ)) (bytes : Option (List ℕ)) (reader : TraceReader R) (found : List Located) → HasRead remaining bytes reader (found ++ option_to_list None)
    → HasRead remaining bytes reader found
reads_past remaining bytes reader found h = subst (λ (fs : List Located). HasRead remaining bytes reader fs) (append-nil found) h

-- one that says a command
pub reads_next : {R : Type 0} (remaining : R → Option (List ℕ)) (bytes : Option (List ℕ)) (form : Form) (reader : TraceReader R) (found : List Located) (next : Option Located) → is_some next ≡ true
    → HasRead remaining bytes reader (found ++ option_to_list next) → HasReadNext remaining bytes form reader found next
reads_next remaining bytes form reader found (Some next) some h = h
reads_next remaining bytes form reader found None some h = absurd cc

-- no row was left
pub reads_end : {R : Type 0} (remaining : R → Option (List ℕ)) (bytes : Option (List ℕ)) (old : TraceReader R) (new : Reader (Chain R (Bor (List ℕ)))) (found : List Located) (row : List (List ℕ))
    → MayRead remaining old.rows new false row → HasRead remaining bytes old found → AreCommandsOf old.form bytes found
reads_end remaining None old new found row may h = record { rows = h.rows; has_header = old.has_header; of_bytes = tt; say = h.say }
reads_end remaining (Some known) old new found row may h =
    let at = h.reached in let read = may h.reads.trim h.reads.ready in
    record {
      rows = h.rows;
      has_header = old.has_header;
      of_bytes = (
        reader_state old.rows,
        at.0,
        at.2,
        rows-end (chain_remaining remaining (λ (end : Bor (List ℕ)). Some end.now)) old.rows new row (config_of (delimiter_of old.form)) at.0 h.reads.config at.1 read,
      );
      say = h.say;
    }

-- what was read is the first of a trace
pub first_read : {R : Type 0} (remaining : R → Option (List ℕ)) (bytes : Option (List ℕ)) (reader : TraceReader R) (found : List Located) → HasRead remaining bytes reader found
    → AreFirstOf reader.form bytes found
first_read remaining None reader found h = record { rows = h.rows; has_header = reader.has_header; of_bytes = tt; say = h.say }
first_read remaining (Some known) reader found h =
    record { rows = h.rows; has_header = reader.has_header; of_bytes = (reader_state reader.rows, h.reached.0, h.reached.2); say = h.say }

-- and so are all
pub first_all : (form : Form) (bytes : Option (List ℕ)) (found : List Located) → AreCommandsOf form bytes found → AreFirstOf form bytes found
first_all form None found are = record { rows = are.rows; has_header = are.has_header; of_bytes = tt; say = are.say }
first_all form (Some known) found are =
    record { rows = are.rows; has_header = are.has_header; of_bytes = (are.of_bytes.0, are.of_bytes.1, are.of_bytes.2); say = are.say }

-- of bytes that no one knows
pub unknown : (form : Form) (bytes : Option (List ℕ)) (found : List Located) → AreCommandsOf form bytes found → AreCommandsOf form None found
unknown form bytes found are = record { rows = are.rows; has_header = are.has_header; of_bytes = tt; say = are.say }

-- no value
pub none_of : {X : Type 0} (it : Option X) → ((x : X) → it ≡ Some x → ⊥) → it ≡ None
none_of None none = refl
none_of (Some x) none = absurd (none x refl)

-- no command came
pub reads_all : {R : Type 0} (remaining : R → Option (List ℕ)) (bytes : Option (List ℕ)) (form : Form) (reader : TraceReader R) (found : List Located) (next : Option Located) → next ≡ None
    → HasReadNext remaining bytes form reader found next → AreCommandsOf form bytes found
reads_all remaining bytes form reader found next none h = subst (λ (o : Option Located). HasReadNext remaining bytes form reader found o) none h

-- and so what was given stays
pub given_none : (new old : List Located) (next : Option Located) → new ≡ old ++ option_to_list next → next ≡ None → new ≡ old
given_none new old next given none = given ∙ ap (λ (o : Option Located). old ++ option_to_list o) none ∙ append-nil old

-- a command came, and is given
pub reads_given : {R : Type 0} (remaining : R → Option (List ℕ)) (bytes : Option (List ℕ)) (form : Form) (reader : TraceReader R) (found : List Located) (next : Option Located) (it : Located) → next ≡ Some it
    → reader.given.items ≡ found ++ it ∷ [] → HasReadNext remaining bytes form reader found next → HasRead remaining bytes reader reader.given.items
reads_given remaining bytes form reader found next it some given h =
    subst (λ (l : List Located). HasRead remaining bytes reader l) (sym given) (subst (λ (o : Option Located). HasReadNext remaining bytes form reader found o) some h)

-- what two clauses say of the value of a call
pub both_ok : {T E : Type 0} (result : Result T E) (P Q R : T → Type 0) → ((value : T) → P value → Q value → R value) → IfOk result P → IfOk result Q → IfOk result R
both_ok (Ok value) P Q R both p q = both value p q
both_ok (Err fault) P Q R both p q = tt
