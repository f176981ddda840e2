use Rattle.std.proofs.Common.{◌≡◌, ◌∙◌, ◌∷◌, [], ◌++◌, List, ap, subst, sym}
use Rattle.std.specs.Option.{option_to_list}
use Rattle.std.specs.Prelude.{Option}
use Rattle.command_trace.specs.Traces.{AreCommandsOf, HasRead, HasReadNext}
use Rattle.command_trace.specs.declared.entry.Located.{Located}
use Rattle.command_trace.specs.declared.reading.Form.{Form}
use Rattle.command_trace.proofs.TraceLemmas.{none_of, reads_all}
use Rattle.trace_statistics.proofs.stream.measure_trace.Goals as goal

pub loop-preserved : goal.loop-preserved
loop-preserved g c =
    let next = c.in_ok-found.ensures in let taken = c.take.ensures in let items : List Located = c.loop.measured.check.given.items in
    let given : c.next.new.self.given.items ≡ c.loop.reader.given.items ++ c.in-Some.found ∷ [] =
    next.given ∙ ap (λ (o : Option Located). c.loop.reader.given.items ++ option_to_list o) c.in-Some.is in
    record {
      channels = next.channels ∙ c.loop.invariant.channels;
      form = next.form ∙ c.loop.invariant.form;
      follows = taken.follows;
      whole = taken.adds ∙ ap (λ (l : List Located). l ++ c.in-Some.found ∷ []) c.loop.invariant.whole ∙ sym given;
      reads = λ bytes begun.
          subst (λ (l : List Located). HasRead g.R.Read.remaining bytes c.next.new.self l) (sym taken.adds)
          (subst (λ (o : Option Located). HasReadNext g.R.Read.remaining bytes c.loop.reader.form c.next.new.self items o) c.in-Some.is
          (next.reads bytes items (c.loop.invariant.reads bytes begun)));
      lawful = taken.lawful c.loop.invariant.lawful;
      rules = taken.rules;
    }

pub returns-in_default-clause-reads : goal.returns-in_default-clause-reads
returns-in_default-clause-reads g c = λ bytes begun.
    let items : List Located = c.loop.measured.check.given.items in
    subst (λ (f : Form). AreCommandsOf f bytes items) c.loop.invariant.form
    (reads_all g.R.Read.remaining bytes c.loop.reader.form c.next.new.self items c.in_ok-found.field-0 (none_of c.in_ok-found.field-0 c.in_default.not-Some)
    (c.in_ok-found.ensures.reads bytes items (c.loop.invariant.reads bytes begun)))
