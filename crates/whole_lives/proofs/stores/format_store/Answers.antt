use Rattle.std.proofs.Common.{◌∙◌, sym}
use Rattle.whole_lives.proofs.Keeping.{formats, on_good}
use Rattle.whole_lives.proofs.stores.format_store.Goals as goal

pub returns-clause-formats : goal.returns-clause-formats
returns-clause-formats c = λ z.
    formats c.args.text.now c.args.store.now c.copy_from_slice.new.self _ _ c.in-Ok.profile c.capacity_of-lines.result c.in-Ok.ensures.ok c.capacity_of-lines.ensures.is c.in-Some.ensures
    (c.copy_from_slice.ensures.after ∙ c.deref.ensures.value ∙ c.in-Ok-bytes_of.ensures) (on_good c.format.result _ (sym c.is_err.ensures.value ∙ c.if-is_err.false) c.format.ensures.formatted)
