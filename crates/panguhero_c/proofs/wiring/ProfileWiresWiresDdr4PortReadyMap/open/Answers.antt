use Rattle.panguhero_c.proofs.wiring.ProfileWiresWiresDdr4PortReadyMap.open.Goals as goal

pub returns-clause-begins : goal.returns-clause-begins
returns-clause-begins c = rw (← c.self.view_is) c.open.ensures.begins
