use Rattle.std.proofs.Common.{inl, refl}
use Rattle.live_command.proofs.of_store.Goals as goal

pub returns-in-Ok : goal.returns-in-Ok
returns-in-Ok c = inl (c.in-Ok.why, refl)
