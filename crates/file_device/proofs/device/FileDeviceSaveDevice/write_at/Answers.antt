use Rattle.std.proofs.Common.{◌∙◌, sym, arith, length, true}
use Rattle.save_device.specs.Memory.{state_of}
use Rattle.file_device.proofs.Backing.{kept_on, on_ok, put_backs, put_part, marks_on}
use Rattle.file_device.proofs.device.FileDeviceSaveDevice.write_at.Goals as goal

pub invariant_of-self : goal.invariant_of-self
invariant_of-self g c =
    let m = c.args.self.now in let w = c.write_at-done in let K = g.F.DiskFile in
    let done = on_ok w.result w.ensures.ok w.ensures.makes.done in
    record {
      fits = omega (arith, w.ensures.makes.outside.size, m.fits);
      marked = marks_on m.unsettled.flags.items c.add.new.self.flags.items (state_of m.mirror) (state_of w.new.self) c.args.at (length c.args.bytes.now) w.ensures.makes.outside.size w.ensures.unsettled c.add.ensures m.marked;
      backed = kept_on (K.kept m.file) (K.kept c.put.new.self) c.put.ensures
          (λ kept next puts. put_backs (state_of m.mirror) (state_of w.new.self) c.args.at c.args.bytes.now w.ensures.makes.outside (λ place. (w.ensures.unsettled place).1)
          _ kept next m.is_behind m.is_behind puts (λ no. (no, sym c.is_ok-is_good.ensures.value ∙ c.if-is_good.true, done)))
          m.backed;
    }

pub invariant_of-self-else-is_good : goal.invariant_of-self-else-is_good
invariant_of-self-else-is_good g c =
    let m = c.args.self.now in let w = c.write_at-done in let K = g.F.DiskFile in
    record {
      fits = omega (arith, w.ensures.makes.outside.size, m.fits);
      marked = marks_on m.unsettled.flags.items c.add.new.self.flags.items (state_of m.mirror) (state_of w.new.self) c.args.at (length c.args.bytes.now) w.ensures.makes.outside.size w.ensures.unsettled c.add.ensures m.marked;
      backed = kept_on (K.kept m.file) (K.kept c.put.new.self) c.put.ensures
          (λ kept next puts. put_backs (state_of m.mirror) (state_of w.new.self) c.args.at c.args.bytes.now w.ensures.makes.outside (λ place. (w.ensures.unsettled place).1)
          _ kept next m.is_behind true puts (λ no. absurd (let bad : ⊥ = cc in bad)))
          m.backed;
    }

pub returns-then-is_good-clause-within : goal.returns-then-is_good-clause-within
returns-then-is_good-clause-within g c = λ kept is.
    let m = c.args.self.now in let w = c.write_at-done in
    put_part (state_of m.mirror) (state_of w.new.self) c.args.at c.args.bytes.now w.ensures.makes.outside (λ place. (w.ensures.unsettled place).1)
    m.is_behind kept (m.backed kept is)

pub returns-else-is_good-clause-within : goal.returns-else-is_good-clause-within
returns-else-is_good-clause-within g c = λ kept is.
    let m = c.args.self.now in let w = c.write_at-done in
    put_part (state_of m.mirror) (state_of w.new.self) c.args.at c.args.bytes.now w.ensures.makes.outside (λ place. (w.ensures.unsettled place).1)
    m.is_behind kept (m.backed kept is)
