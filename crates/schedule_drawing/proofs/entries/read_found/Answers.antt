use Rattle.std.proofs.Common.{◌≡◌, ◌∙◌, ◌<◌, ◌^◌, ◌∷◌, [], ◌++◌, List, ap, rules, subst, sym}
use Rattle.std.proofs.lemmas.List.Elements.{All-append, All-cons, All-nil}
use Rattle.std.specs.Option.{option_to_list}
use Rattle.std.specs.Prelude.{Option}
use Rattle.command_trace.specs.Traces.{AreCommandsOf, HasRead, HasReadNext}
use Rattle.command_trace.specs.declared.entry.Located.{Located}
use Rattle.command_trace.specs.declared.reading.Form.{Form}
use Rattle.command_trace.proofs.TraceLemmas.{none_of, reads_all}
use Rattle.ddr4_timing.specs.Lawful.{IsInGeometry}
use Rattle.schedule_drawing.specs.Entries.{AreInTime, AreFoundIn}
use Rattle.schedule_drawing.proofs.entries.read_found.Goals as goal

pub loop-preserved : goal.loop-preserved
loop-preserved g c =
    let next = c.in_ok-found.ensures in let items : List Located = c.loop.commands.items in let found : Located = c.in-Some.found in
    let pushed : c.extend_from_slice.new.self.items ≡ items ++ found ∷ [] = search rules in
    let given : c.next.new.self.given.items ≡ c.loop.reader.given.items ++ found ∷ [] =
    next.given ∙ ap (λ (o : Option Located). c.loop.reader.given.items ++ option_to_list o) c.in-Some.is in
    let lies : IsInGeometry c.args.g.now found.entry.command.cmd = search rules in
    let early : found.entry.command.clock < 2 ^ 63 = search rules in
    record {
      form = next.form ∙ c.loop.invariant.form;
      whole = pushed ∙ ap (λ (l : List Located). l ++ found ∷ []) c.loop.invariant.whole ∙ sym given;
      lie =
          subst (λ (l : List Located). AreFoundIn c.args.g.now l) (sym pushed)
          (All-append (λ (l : Located). IsInGeometry c.args.g.now l.entry.command.cmd) items (found ∷ []) c.loop.invariant.lie
          (All-cons (λ (l : Located). IsInGeometry c.args.g.now l.entry.command.cmd) found [] lies (All-nil (λ (l : Located). IsInGeometry c.args.g.now l.entry.command.cmd))));
      early =
          subst (λ (l : List Located). AreInTime l) (sym pushed)
          (All-append (λ (l : Located). l.entry.command.clock < 2 ^ 63) items (found ∷ []) c.loop.invariant.early
          (All-cons (λ (l : Located). l.entry.command.clock < 2 ^ 63) found [] early (All-nil (λ (l : Located). l.entry.command.clock < 2 ^ 63))));
      reads = λ bytes begun.
          subst (λ (l : List Located). HasRead g.R.Read.remaining bytes c.next.new.self l) (sym pushed)
          (subst (λ (o : Option Located). HasReadNext g.R.Read.remaining bytes c.loop.reader.form c.next.new.self items o) c.in-Some.is
          (next.reads bytes items (c.loop.invariant.reads bytes begun)));
    }

pub returns-in_default-clause-reads : goal.returns-in_default-clause-reads
returns-in_default-clause-reads g c = λ bytes begun.
    let items : List Located = c.loop.commands.items in
    subst (λ (f : Form). AreCommandsOf f bytes items) c.loop.invariant.form
    (reads_all g.R.Read.remaining bytes c.loop.reader.form c.next.new.self items c.in_ok-found.field-0 (none_of c.in_ok-found.field-0 c.in_default.not-Some)
    (c.in_ok-found.ensures.reads bytes items (c.loop.invariant.reads bytes begun)))
