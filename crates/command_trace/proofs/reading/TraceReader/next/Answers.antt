use Rattle.std.proofs.Common.{◌∙◌, ℕ, Bool, List, Option, None, Result, ap, is_some, subst, sym, IfOk}
use Rattle.csv.specs.Records.{fields_of}
use Rattle.command_trace.specs.Rows.{RowSays, words_of_row}
use Rattle.command_trace.specs.Traces.{AreCommandsOf, HasReadNext}
use Rattle.command_trace.specs.declared.entry.Located.{Located}
use Rattle.command_trace.specs.declared.reading.Form.{Form}
use Rattle.command_trace.specs.declared.reading.TraceFault.{TraceFault}
use Rattle.command_trace.specs.declared.reading.TraceReader.{TraceReader}
use Rattle.command_trace.proofs.TraceLemmas.{MayRead, reads_end, reads_next, reads_past, reads_row}
use Rattle.command_trace.proofs.reading.TraceReader.next.Goals as goal
use Rattle.command_trace.proofs.reading.TraceReader.next.Goals.{in-Ok-Some, in-Err}

pub returns-then-not-branch-clause-reads : goal.returns-then-not-branch-clause-reads
returns-then-not-branch-clause-reads g c = λ bytes found h.
    let row : List (List ℕ) = fields_of c.read_byte_record.new.row in
    subst (λ (f : Form). AreCommandsOf f bytes found) c.loop.invariant.form
    (reads_end g.R.Read.remaining bytes c.loop.self c.read_byte_record.new.self found row
    (subst (λ (b : Bool). MayRead g.R.Read.remaining c.loop.self.rows c.read_byte_record.new.self b row) c.if-not-branch.true c.in_ok-read_byte_record.ensures.reads)
    (c.loop.invariant.reads bytes found h))

pub loop-preserved : goal.loop-preserved
loop-preserved g c =
    let read = c.command_of_row-read in let row : List (List ℕ) = fields_of c.read_byte_record.new.row in
    let none = rw c.in-Ok-None.is at c.in-Ok-None.field-0-is in
    let says =
    subst (λ (o : Option Located). RowSays c.loop.self.form c.loop.self.has_header (words_of_row row) o read.new.self.has_header) none
    (subst (λ (r : Result (Option Located) TraceFault). IfOk r (λ o. RowSays c.loop.self.form c.loop.self.has_header (words_of_row row) o read.new.self.has_header)) c.in-Ok-None.is read.ensures.says) in
    record {
      channels = read.ensures.kept.0 ∙ c.loop.invariant.channels;
      given = read.ensures.kept.1 ∙ c.loop.invariant.given;
      form = read.ensures.form ∙ c.loop.invariant.form;
      reads = λ bytes found h.
          reads_past g.R.Read.remaining bytes read.new.self found
          (reads_row g.R.Read.remaining bytes c.loop.self read.new.self c.read_byte_record.new.self found row c.in_ok-read_byte_record.field-0 None read.ensures.form read.ensures.rows
          c.if-not-branch.false c.in_ok-read_byte_record.ensures.reads c.in_ok-read_byte_record.ensures.ready says (c.loop.invariant.reads bytes found h));
    }

pub returns-in-loop-clause-reads : goal.returns-in-loop-clause-reads
returns-in-loop-clause-reads g c = λ bytes found h.
    let read = c.command_of_row-read in let row : List (List ℕ) = fields_of c.read_byte_record.new.row in
    elim c.match-read.branch [
      | in-Ok-Some w ↦
          let next : Option Located = w.in-Ok-Some.field-0 in
          let some = rw w.in-Ok-Some.is at w.in-Ok-Some.field-0-is in
          let says =
          subst (λ (seen : Bool). RowSays c.loop.self.form c.loop.self.has_header (words_of_row row) next seen) (sym (ap (λ (s : TraceReader g.row.R.Denot). s.has_header) w.self-is))
          (subst (λ (r : Result (Option Located) TraceFault). IfOk r (λ o. RowSays c.loop.self.form c.loop.self.has_header (words_of_row row) o read.new.self.has_header)) w.in-Ok-Some.is read.ensures.says) in
          let known =
          reads_row g.R.Read.remaining bytes c.loop.self c.match-read.self c.read_byte_record.new.self found row c.in_ok-read_byte_record.field-0 next
          (ap (λ (s : TraceReader g.row.R.Denot). s.form) w.self-is ∙ read.ensures.form) (ap (λ (s : TraceReader g.row.R.Denot). s.rows) w.self-is ∙ read.ensures.rows)
          c.if-not-branch.false c.in_ok-read_byte_record.ensures.reads c.in_ok-read_byte_record.ensures.ready says (c.loop.invariant.reads bytes found h) in
          subst (λ (r : Result (Option Located) TraceFault). IfOk r (HasReadNext g.R.Read.remaining bytes c.args.self.now.form c.match-read.self found)) (sym w.in-Ok-Some.is)
          (reads_next g.R.Read.remaining bytes c.args.self.now.form c.match-read.self found next (ap (λ (o : Option Located). is_some o) some) known)
      | in-Err w ↦
          subst (λ (r : Result (Option Located) TraceFault). IfOk r (HasReadNext g.R.Read.remaining bytes c.args.self.now.form c.match-read.self found)) (sym w.in-Err.is) tt
    ]
