use Rattle.std.proofs.Common.{◌≡◌, ◌≤◌}
use Rattle.open_life.specs.Lives.{WorksUpTo}
use Rattle.open_life.specs.Now.{now_of}
use Rattle.open_life.proofs.life.OpenLife.work_each.Given as goal

abbrev pub invariant-loop-channel : goal.invariant-loop-channel
invariant-loop-channel g l = record {
  device : l.self.device ≡ l.fn.self.device;
  gauge : l.self.gauge ≡ l.fn.self.gauge;
  profile : l.self.profile ≡ l.fn.self.profile;
  most : l.issued ≤ l.channel;
  works : WorksUpTo g.K.ChannelPort l.channel l.issued (now_of l.fn.self) (now_of l.self);
}
