use Rattle.std.proofs.Common.{◌≡◌, [], ◌∷◌, ◌++◌, List, ap, arith, refl, subst, sym, ◌∙◌}
use Rattle.std.specs.Option.{option_to_list}
use Rattle.std.specs.Prelude.{Option}
use Rattle.command_trace.specs.Traces.{AreCommandsOf, HasRead}
use Rattle.command_trace.specs.declared.entry.Located.{Located}
use Rattle.command_trace.specs.declared.reading.Form.{Form}
use Rattle.command_trace.proofs.Channels.{found_up_to-more, found_up_to-past}
use Rattle.command_trace.proofs.TraceLemmas.{given_none, none_of, reads_all, reads_given}
use Rattle.command_trace.proofs.diagnosis.list_commands.Goals as goal

pub loop-init : goal.loop-init
loop-init g c = record {
  form = refl;
  lines = rw c.requires refl;
  lists = rw c.requires (c.new-listed.ensures c.args.channel);
  reads = λ bytes begun. subst (λ (items : List Located). HasRead g.R.Read.remaining bytes c.args.reader.now items) (sym c.requires) begun;
}

pub returns-in_default-clause-lists : goal.returns-in_default-clause-lists
returns-in_default-clause-lists g c =
    let none = none_of c.in_ok-found.field-0 c.in_default.not-Some in
    rw (given_none _ _ _ c.in_ok-found.ensures.given none, c.loop.invariant.lines) c.loop.invariant.lists

pub returns-in_default-clause-whole : goal.returns-in_default-clause-whole
returns-in_default-clause-whole g c = λ last.
    let none = none_of c.in_ok-found.field-0 c.in_default.not-Some in
    rw (given_none _ _ _ c.in_ok-found.ensures.given none) c.loop.invariant.lists

pub returns-in_default-clause-reads : goal.returns-in_default-clause-reads
returns-in_default-clause-reads g c = λ last bytes begun.
    let none = none_of c.in_ok-found.field-0 c.in_default.not-Some in let items : List Located = c.loop.reader.given.items in
    subst (λ (l : List Located). AreCommandsOf c.args.reader.now.form bytes l) (sym (given_none _ _ _ c.in_ok-found.ensures.given none))
    (subst (λ (f : Form). AreCommandsOf f bytes items) c.loop.invariant.form
    (reads_all g.R.Read.remaining bytes c.loop.reader.form c.next.new.self items c.in_ok-found.field-0 none
    (c.in_ok-found.ensures.reads bytes items (c.loop.invariant.reads bytes begun))))

pub returns-then-found-last-clause-lists : goal.returns-then-found-last-clause-lists
returns-then-found-last-clause-lists g c =
    let given : c.next.new.self.given.items ≡ c.loop.reader.given.items ++ c.in-Some.found ∷ [] =
    c.in_ok-found.ensures.given ∙ ap (λ (o : Option Located). c.loop.reader.given.items ++ option_to_list o) c.in-Some.is in
    rw (given, found_up_to-past c.args.last c.loop.reader.given.items c.in-Some.found c.loop.invariant.lines (omega arith)) c.loop.invariant.lists

pub loop-preserved : goal.loop-preserved
loop-preserved g c =
    let given : c.next.new.self.given.items ≡ c.loop.reader.given.items ++ c.in-Some.found ∷ [] =
    c.in_ok-found.ensures.given ∙ ap (λ (o : Option Located). c.loop.reader.given.items ++ option_to_list o) c.in-Some.is in
    record {
      form = c.in_ok-found.ensures.form ∙ c.loop.invariant.form;
      lines = rw given (found_up_to-more c.args.last c.loop.reader.given.items c.in-Some.found c.loop.invariant.lines (omega arith));
      lists = rw given (c.in_ok-take.ensures c.loop.reader.given.items c.loop.invariant.lists);
      reads = λ bytes begun.
          reads_given g.R.Read.remaining bytes c.loop.reader.form c.next.new.self c.loop.reader.given.items c.in_ok-found.field-0 c.in-Some.found c.in-Some.is given
          (c.in_ok-found.ensures.reads bytes c.loop.reader.given.items (c.loop.invariant.reads bytes begun));
    }
