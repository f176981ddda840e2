use Rattle.sector_device.proofs.device.SectorDevice.shut.Goals as goal

pub shut_gate-requires : goal.shut_gate-requires
shut_gate-requires g c = λ kept is. (c.args.self.now.backed kept is).ajar c.in-Ajar.is
