use Rattle.std.proofs.Common.{Bool, subst, sym}
use Rattle.save_device.specs.Device.{present}
use Rattle.save_device.specs.Memory.{state_of}
use Rattle.save_device.specs.declared.memory.MemoryDevice.{MemoryDevice}
use Rattle.file_device.specs.Kept.{Flushes}
use Rattle.file_device.proofs.Backing.{kept_on}
use Rattle.sector_device.specs.Backing.{IsPutWhole, IsSavedWhole, IsShut}
use Rattle.sector_device.proofs.Steps.{all_saved}
use Rattle.sector_device.proofs.device.SectorDevice.flush_out.Goals as goal

pub returns-clause-saved : goal.returns-clause-saved
returns-clause-saved g c = λ good kept is.
    let m = c.args.self.now in let K = g.F.SectorFile in let moment = present (state_of m.mirror) in
    subst (λ (mirror : MemoryDevice). IsSavedWhole (present (state_of mirror)) kept) (sym c.flush.ensures.mirror)
    (kept_on {A = λ kept. IsShut moment kept × IsPutWhole moment kept} (K.kept m.file) (K.kept c.flush.new.self.file) c.flush.ensures.flushes
    (λ was next flushes both. all_saved moment m.sectors was next both.0 both.1 (subst (λ (b : Bool). Flushes b was next) good flushes))
    (λ kept is. ((m.backed kept is).shut c.requires.shut, c.requires.put kept is)) kept is)
