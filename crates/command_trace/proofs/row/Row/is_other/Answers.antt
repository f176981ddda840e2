use Rattle.std.proofs.Common.{inl, refl}
use Rattle.command_trace.proofs.row.Row.is_other.Goals as goal

pub returns-in-None : goal.returns-in-None
returns-in-None c = λ _. inl (c.in-None.ensures.none refl)
