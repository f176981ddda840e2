use Rattle.save_device.specs.Memory.{state_of}
use Rattle.save_device.proofs.Noted.{noted, elapses_noted}
use Rattle.save_device.proofs.memory.MemoryDevice.stop.Goals as goal

pub returns-clause-time : goal.returns-clause-time
returns-clause-time c =
    elapses_noted (state_of c.args.self.now) _ (noted c.args.self.now.earlier.items c.note.new.self.items c.args.self.now.content c.note.ensures)

pub returns-clause-picked : goal.returns-clause-picked
returns-clause-picked c = rw (c.deref.ensures.value, c.deref-2.ensures.value) at c.choose.ensures.picked
