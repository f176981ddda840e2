use Rattle.std.proofs.Common.{◌+◌, [], ◌∷◌, Bool, length, subst, sym}
use Rattle.save_device.specs.Device.{present}
use Rattle.save_device.specs.Memory.{state_of}
use Rattle.save_device.specs.declared.memory.MemoryDevice.{MemoryDevice}
use Rattle.file_device.proofs.Backing.{kept_on}
use Rattle.sector_device.specs.declared.device.Gate.TheVariants.{Shut}
use Rattle.sector_device.specs.Sectors.{PutsDurably}
use Rattle.sector_device.specs.Backing.{IsAjar, Stands}
use Rattle.sector_device.proofs.Steps.{shut_again, stands_ajar, stands_shut}
use Rattle.sector_device.proofs.device.SectorDevice.shut_gate.Goals as goal

pub invariant_of-self : goal.invariant_of-self
invariant_of-self g c =
    let m = c.args.self.now in
    record {
      fits = m.fits;
      room = m.room;
      sectors = m.sectors;
      marked = m.marked;
      inside = λ number bad. absurd (let none : ⊥ = cc in none);
      backed = λ kept is. stands_ajar (present (state_of m.mirror)) kept (c.requires kept is);
    }

pub invariant_of-self-2 : goal.invariant_of-self-2
invariant_of-self-2 g c =
    let m = c.args.self.now in let now = c.put_gate.new.self in let K = g.F.SectorFile in let moment = present (state_of m.mirror) in
    record {
      fits = now.fits;
      room = now.room;
      sectors = now.sectors;
      marked = now.marked;
      inside = λ number bad. absurd (let none : ⊥ = cc in none);
      backed = λ kept is. subst (λ (mirror : MemoryDevice). Stands Shut (present (state_of mirror)) kept) (sym c.put_gate.ensures.mirror)
          (stands_shut moment kept
          (kept_on {A = IsAjar moment} (K.kept m.file) (K.kept now.file) c.put_gate.ensures.puts
          (λ was next puts ajar. shut_again moment m.sectors was next ajar
          (subst (λ (b : Bool). PutsDurably (length (state_of m.mirror).bytes + 1024) (0 ∷ []) b was next) c.if-not-put_gate.false puts))
          c.requires kept is));
    }
