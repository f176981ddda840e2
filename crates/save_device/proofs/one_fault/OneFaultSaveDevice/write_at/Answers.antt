use Rattle.save_device.proofs.Around.{elapses_around}
use Rattle.save_device.proofs.one_fault.OneFaultSaveDevice.write_at.Goals as goal

pub returns-then-fails-clause-makes : goal.returns-then-fails-clause-makes
returns-then-fails-clause-makes g c =
    let S = g.D.SaveDevice in let made = c.write_at-result.ensures in
    record {
      call = record {
        counted = c.note.ensures;
        time = elapses_around (S.state c.args.self.now.device) (S.state c.write_at-result.new.self) c.args.self.now.calls c.note.new.self made.call.time;
      };
      done = tt;
      settled = tt;
      outside = made.outside;
      unsettled = made.unsettled;
    }
