use Rattle.std.proofs.Common.{◌≡◌, ◌+◌, ◌*◌, ◌≤◌, [], ◌∷◌, Bool, ℕ, length, subst, sym}
use Rattle.save_device.specs.Device.{present}
use Rattle.save_device.specs.Memory.{state_of}
use Rattle.save_device.specs.declared.memory.MemoryDevice.{MemoryDevice}
use Rattle.file_device.proofs.Backing.{kept_on}
use Rattle.sector_device.specs.declared.device.Gate.TheVariants.{Open}
use Rattle.sector_device.specs.Sectors.{PutsDurably}
use Rattle.sector_device.specs.Backing.{HoldsSector, IsShut, Stands}
use Rattle.sector_device.proofs.Steps.{ajar_shut, opened, stands_ajar, stands_open}
use Rattle.sector_device.proofs.device.SectorDevice.open_gate.Goals as goal

pub invariant_of-self : goal.invariant_of-self
invariant_of-self g c =
    let m = c.args.self.now in let moment = present (state_of m.mirror) in
    record {
      fits = m.fits;
      room = m.room;
      sectors = m.sectors;
      marked = m.marked;
      inside = λ number bad. absurd (let none : ⊥ = cc in none);
      backed = λ kept is. stands_ajar moment kept (ajar_shut moment m.sectors c.args.number kept ((m.backed kept is).shut c.requires.shut) (c.requires.holds kept is));
    }

pub invariant_of-self-2 : goal.invariant_of-self-2
invariant_of-self-2 g c =
    let m = c.args.self.now in let now = c.put_gate.new.self in let K = g.F.SectorFile in let moment = present (state_of m.mirror) in let number = c.args.number in
    record {
      fits = now.fits;
      room = now.room;
      sectors = now.sectors;
      marked = now.marked;
      inside = λ other is. let same : number ≡ other = cc in
          subst (λ (mirror : MemoryDevice). 512 * other + 512 ≤ length (state_of mirror).bytes) (sym c.put_gate.ensures.mirror)
          (subst (λ (k : ℕ). 512 * k + 512 ≤ length (state_of m.mirror).bytes) same c.requires.inside);
      backed = λ kept is. subst (λ (mirror : MemoryDevice). Stands (Open number) (present (state_of mirror)) kept) (sym c.put_gate.ensures.mirror)
          (stands_open number moment kept
          (kept_on {A = λ kept. IsShut moment kept × HoldsSector number moment kept} (K.kept m.file) (K.kept now.file) c.put_gate.ensures.puts
          (λ was next puts both. opened moment m.sectors number was next c.requires.inside both.0 both.1
          (subst (λ (b : Bool). PutsDurably (length (state_of m.mirror).bytes + 1024) (1 ∷ []) b was next) c.if-not-put_gate.false puts))
          (λ kept is. ((m.backed kept is).shut c.requires.shut, c.requires.holds kept is)) kept is));
    }
