use Rattle.std.proofs.Common.{◌≡◌, ◌<◌, ◌^◌, [], ◌∷◌, ◌++◌, List, ap, arith, refl, subst, sym, ◌∙◌}
use Rattle.std.proofs.lemmas.List.Elements.{All-nil}
use Rattle.std.specs.Option.{option_to_list}
use Rattle.std.specs.Prelude.{Option}
use Rattle.auto_precharge.specs.FullLists.{AreEarly}
use Rattle.auto_precharge.specs.declared.issued.Issued.{Issued}
use Rattle.command_trace.specs.Traces.{AreFirstOf, HasRead}
use Rattle.command_trace.specs.declared.entry.Located.{Located}
use Rattle.command_trace.specs.declared.reading.Form.{Form}
use Rattle.command_trace.proofs.Channels.{found_up_to-more, found_up_to-past}
use Rattle.command_trace.proofs.TraceLemmas.{first_all, first_read, given_none, none_of, reads_all, reads_given}
use Rattle.command_trace.proofs.diagnosis.list_issued.Goals as goal

pub loop-init : goal.loop-init
loop-init g c = record {
  form = refl;
  lines = rw c.requires refl;
  is = rw c.requires c.new-listed.ensures.items;
  early = subst (λ (l : List Issued). AreEarly l) (sym c.new-listed.ensures.items) (All-nil (λ (x : Issued). x.command.clock < 2 ^ 63));
  reads = λ bytes begun. subst (λ (items : List Located). HasRead g.R.Read.remaining bytes c.args.reader.now items) (sym c.requires) begun;
}

pub returns-in_default-clause-is : goal.returns-in_default-clause-is
returns-in_default-clause-is g c =
    let none = none_of c.in_ok-found.field-0 c.in_default.not-Some in
    rw (given_none _ _ _ c.in_ok-found.ensures.given none, c.loop.invariant.lines) c.loop.invariant.is

pub returns-in_default-clause-reads : goal.returns-in_default-clause-reads
returns-in_default-clause-reads g c = λ bytes begun.
    let none = none_of c.in_ok-found.field-0 c.in_default.not-Some in let items : List Located = c.loop.reader.given.items in
    subst (λ (l : List Located). AreFirstOf c.args.reader.now.form bytes l) (sym (given_none _ _ _ c.in_ok-found.ensures.given none))
    (subst (λ (f : Form). AreFirstOf f bytes items) c.loop.invariant.form
    (first_all c.loop.reader.form bytes items
    (reads_all g.R.Read.remaining bytes c.loop.reader.form c.next.new.self items c.in_ok-found.field-0 none
    (c.in_ok-found.ensures.reads bytes items (c.loop.invariant.reads bytes begun)))))

pub returns-then-last-found-clause-is : goal.returns-then-last-found-clause-is
returns-then-last-found-clause-is g c =
    let given : c.next.new.self.given.items ≡ c.loop.reader.given.items ++ c.in-Some.found ∷ [] =
    c.in_ok-found.ensures.given ∙ ap (λ (o : Option Located). c.loop.reader.given.items ++ option_to_list o) c.in-Some.is in
    rw (given, found_up_to-past c.args.last c.loop.reader.given.items c.in-Some.found c.loop.invariant.lines (omega arith)) c.loop.invariant.is

pub returns-then-last-found-clause-reads : goal.returns-then-last-found-clause-reads
returns-then-last-found-clause-reads g c = λ bytes begun.
    let given : c.next.new.self.given.items ≡ c.loop.reader.given.items ++ c.in-Some.found ∷ [] =
    c.in_ok-found.ensures.given ∙ ap (λ (o : Option Located). c.loop.reader.given.items ++ option_to_list o) c.in-Some.is in
    subst (λ (f : Form). AreFirstOf f bytes c.next.new.self.given.items) (c.in_ok-found.ensures.form ∙ c.loop.invariant.form)
    (first_read g.R.Read.remaining bytes c.next.new.self c.next.new.self.given.items
    (reads_given g.R.Read.remaining bytes c.loop.reader.form c.next.new.self c.loop.reader.given.items c.in_ok-found.field-0 c.in-Some.found c.in-Some.is given
    (c.in_ok-found.ensures.reads bytes c.loop.reader.given.items (c.loop.invariant.reads bytes begun))))

pub loop-preserved : goal.loop-preserved
loop-preserved g c =
    let given : c.next.new.self.given.items ≡ c.loop.reader.given.items ++ c.in-Some.found ∷ [] =
    c.in_ok-found.ensures.given ∙ ap (λ (o : Option Located). c.loop.reader.given.items ++ option_to_list o) c.in-Some.is in
    record {
      form = c.in_ok-found.ensures.form ∙ c.loop.invariant.form;
      lines = rw given (found_up_to-more c.args.last c.loop.reader.given.items c.in-Some.found c.loop.invariant.lines (omega arith));
      is = rw given (c.in_ok-take_issued.ensures.items c.loop.reader.given.items c.loop.invariant.is);
      early = c.in_ok-take_issued.ensures.early c.loop.invariant.early;
      reads = λ bytes begun.
          reads_given g.R.Read.remaining bytes c.loop.reader.form c.next.new.self c.loop.reader.given.items c.in_ok-found.field-0 c.in-Some.found c.in-Some.is given
          (c.in_ok-found.ensures.reads bytes c.loop.reader.given.items (c.loop.invariant.reads bytes begun));
    }
