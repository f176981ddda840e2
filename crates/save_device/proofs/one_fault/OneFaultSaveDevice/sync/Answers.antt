use Rattle.std.proofs.Common.{inl, refl}
use Rattle.save_device.proofs.Around.{elapses_unasked}
use Rattle.save_device.proofs.one_fault.OneFaultSaveDevice.sync.Goals as goal

pub returns-then-is_due-clause-makes : goal.returns-then-is_due-clause-makes
returns-then-is_due-clause-makes g c = record {
  call = record { counted = c.note.ensures; time = elapses_unasked (g.D.SaveDevice.state c.args.self.now.device) c.args.self.now.calls c.note.new.self };
  done = tt;
  settled = tt;
  outside = record { size = refl; outside = λ place out. refl };
  unsettled = λ place up. inl up;
}

pub returns-then-is_due-clause-fails : goal.returns-then-is_due-clause-fails
returns-then-is_due-clause-fails g c = λ due. (refl, refl)
