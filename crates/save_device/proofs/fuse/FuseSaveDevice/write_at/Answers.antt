use Rattle.std.proofs.Common.{inl, refl}
use Rattle.save_device.proofs.Around.{elapses_unasked}
use Rattle.save_device.proofs.fuse.FuseSaveDevice.write_at.Goals as goal

pub returns-then-self-eq0-clause-makes : goal.returns-then-self-eq0-clause-makes
returns-then-self-eq0-clause-makes g c = record {
  call = record { counted = c.note.ensures; time = elapses_unasked (g.D.SaveDevice.state c.args.self.now.device) c.args.self.now.calls c.note.new.self };
  done = tt;
  settled = tt;
  outside = record { size = refl; outside = λ place out. refl };
  unsettled = λ place up. inl up;
}

pub returns-then-self-eq0-clause-blown : goal.returns-then-self-eq0-clause-blown
returns-then-self-eq0-clause-blown g c = λ none. (refl, refl)
