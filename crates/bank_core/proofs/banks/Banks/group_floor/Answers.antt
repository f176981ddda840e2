use Rattle.bank_core.proofs.banks.Banks.group_floor.Goals as goal

pub returns : goal.returns
returns g c = rw (← c.self.view_is, ← c.timing-timing.ensures.is, ← c.geometry-geometry.ensures.is) c.group_floor.ensures
