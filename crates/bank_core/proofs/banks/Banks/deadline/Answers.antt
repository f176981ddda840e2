use Rattle.bank_core.proofs.banks.Banks.deadline.Goals as goal

pub returns : goal.returns
returns g c = rw (← c.self.view_is, ← c.timing-timing.ensures.is, ← c.geometry-geometry.ensures.is) (λ list s. (c.rank.ensures list 0 s.ranks).refreshes.deadline)
