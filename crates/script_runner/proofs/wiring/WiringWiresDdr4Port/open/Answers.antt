use Rattle.script_runner.proofs.wiring.WiringWiresDdr4Port.open.Goals as goal

pub returns-clause-begins : goal.returns-clause-begins
returns-clause-begins g c = rw (← c.self.view_is) c.open.ensures.begins
