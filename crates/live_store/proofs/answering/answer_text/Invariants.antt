use Rattle.std.proofs.Common.{◌≡◌, take}
use Rattle.live_store.specs.Lives.{now_of}
use Rattle.live_store.specs.Talks.{AreSaidToLines, TellsAll}
use Rattle.live_store.proofs.answering.answer_text.Given as goal

abbrev pub invariant-loop-line : goal.invariant-loop-line
invariant-loop-line g l = record {
  tells : TellsAll g.K.ChannelPort (AreSaidToLines (take l.line-index l.line-items)) (g.T.Talk.said l.initial.talk) (g.T.Talk.said l.talk) (now_of l.initial.life) (now_of l.life);
  heard : g.T.Talk.heard l.talk ≡ g.T.Talk.heard l.initial.talk;
  geometry : l.life.geometry ≡ l.initial.life.geometry;
}
