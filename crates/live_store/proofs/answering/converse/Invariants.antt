use Rattle.std.proofs.Common.{◌≡◌, true}
use Rattle.live_store.specs.Lives.{now_of}
use Rattle.live_store.specs.Talks.{AreSaidToHeard, TellsAll}
use Rattle.live_store.proofs.answering.converse.Given as goal

abbrev pub invariant-loop-turn : goal.invariant-loop-turn
invariant-loop-turn g l = record {
  tells : TellsAll g.K.ChannelPort (AreSaidToHeard l.initial.life.geometry (g.T.Talk.heard l.initial.talk) (g.T.Talk.heard l.talk))
      (g.T.Talk.said l.initial.talk) (g.T.Talk.said l.talk) (now_of l.initial.life) (now_of l.life);
  geometry : l.life.geometry ≡ l.initial.life.geometry;
  out : g.T.Talk.is_out l.talk ≡ true;
}
