use Rattle.std.specs.Prelude.{None}
use Rattle.journal_table.proofs.Holding.{held_changed}
use Rattle.journal_table.proofs.values.forget.Goals as goal

pub returns : goal.returns
returns c = λ other. held_changed c.args.key.now c.args.values.now c.remove-value.new.self None c.remove-value.ensures.updates other
