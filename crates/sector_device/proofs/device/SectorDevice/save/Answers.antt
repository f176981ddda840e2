use Rattle.sector_device.proofs.device.SectorDevice.save.Goals as goal

pub write_out-requires : goal.write_out-requires
write_out-requires g c = c.shut.ensures.shut c.if-not-shut.false

pub flush_out-requires-clause-shut : goal.flush_out-requires-clause-shut
flush_out-requires-clause-shut g c = c.write_out.ensures.shut c.if-not-write_out.false

pub flush_out-requires-clause-put : goal.flush_out-requires-clause-put
flush_out-requires-clause-put g c = c.write_out.ensures.put c.if-not-write_out.false
