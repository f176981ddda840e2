use Rattle.bank_core.proofs.banks.Banks.open_row.Goals as goal

pub returns : goal.returns
returns g c = rw (← c.self.view_is, ← c.timing-timing.ensures.is, ← c.geometry-geometry.ensures.is) (λ list s. c.open_row.ensures list s.ranks)
