use Rattle.std.proofs.Common.{◌∙◌}
use Rattle.whole_lives.proofs.Keeping.{restores}
use Rattle.whole_lives.proofs.stores.restore_store.Goals as goal

pub returns-in-Ok-restore-clause-restores : goal.returns-in-Ok-restore-clause-restores
returns-in-Ok-restore-clause-restores c = λ z.
    restores c.args.text.now c.args.bytes.now _ c.in-Ok.profile c.capacity_of-lines.result c.in-Ok-restore.restored c.restore_told.result c.copy_from_slice.new.self c.in-Ok.ensures.ok c.capacity_of-lines.ensures.is
    c.in-Some.ensures c.in-Ok-restore.ensures.found c.restore_told.ensures (c.copy_from_slice.ensures.after ∙ c.deref.ensures.value)
