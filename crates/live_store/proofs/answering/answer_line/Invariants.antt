use Rattle.std.proofs.Common.{◌≡◌}
use Rattle.live_store.specs.Lives.{now_of}
use Rattle.live_store.specs.Talks.{TellsAll}
use Rattle.live_store.proofs.Talking.{AnswersPart}
use Rattle.live_store.proofs.answering.answer_line.Given as goal

abbrev pub invariant-loop-turn : goal.invariant-loop-turn
invariant-loop-turn g l = record {
  tells : TellsAll g.K.ChannelPort (AnswersPart l.line l._turn) (g.T.Talk.said l.initial.talk) (g.T.Talk.said l.talk) (now_of l.initial.life) (now_of l.life);
  heard : g.T.Talk.heard l.talk ≡ g.T.Talk.heard l.initial.talk;
  geometry : l.life.geometry ≡ l.initial.life.geometry;
}
