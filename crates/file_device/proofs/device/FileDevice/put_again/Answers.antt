use Rattle.std.proofs.Common.{◌<◌, ◌^◌, length, subst, sym, true}
use Rattle.save_device.specs.Device.{Moment}
use Rattle.save_device.specs.Memory.{state_of}
use Rattle.file_device.specs.Kept.{Backs}
use Rattle.file_device.proofs.Backing.{kept_on, again_backs, again_part, backs_same, marks_same}
use Rattle.file_device.proofs.device.FileDevice.put_again.Goals as goal

pub invariant_of-self : goal.invariant_of-self
invariant_of-self g c =
    let m = c.args.self.now in let r = c.copy_out in let K = g.F.DiskFile in let state = state_of m.mirror in
    let backs : Backs true state (K.kept r.new.file) =
    kept_on (K.kept m.file) (K.kept r.new.file) r.ensures.puts (λ kept next one. again_backs state c.args.at c.args.n c.requires.fits c.requires.unsettled _ kept next m.is_behind one) m.backed in
    record {
      fits = subst (λ (moment : Moment). length moment.bytes < 2 ^ 64) (sym r.ensures.same) m.fits;
      marked = marks_same m.unsettled.flags.items state (state_of r.new.mirror) r.ensures.same m.marked;
      backed = λ kept is. backs_same state (state_of r.new.mirror) true kept r.ensures.same (backs kept is);
    }

pub returns-clause-within : goal.returns-clause-within
returns-clause-within g c = λ kept is.
    let m = c.args.self.now in
    again_part (state_of m.mirror) c.args.at c.args.n c.requires.fits c.requires.unsettled m.is_behind kept (m.backed kept is)
