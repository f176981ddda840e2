use Rattle.std.proofs.Common.{◌∙◌, ◌<◌, ◌+◌, ℕ, ap, refl, rules, subst, sym}
use Rattle.ddr4_timing.specs.declared.timing.Geometry.{Geometry}
use Rattle.nv_script.specs.Line.{NamesChannelOf}
use Rattle.live_store.specs.declared.talk.LineRefusal.TheVariants.{ScriptsAlone}
use Rattle.live_store.specs.Lives.{now_of}
use Rattle.live_store.specs.Talks.{AreSaidToLine}
use Rattle.live_store.proofs.Results.{err_so}
use Rattle.live_store.proofs.Talking.{AnswersPart, all_taken, idle_last, nearly, none_yet, one_more, refusal_on, refused_at_once, tells_none, tells_so, turn_on, untold_turn}
use Rattle.live_store.proofs.answering.answer_line.Goals as goal

pub answer-requires : goal.answer-requires
answer-requires g c = record { channel = subst (λ (geometry : Geometry). NamesChannelOf geometry c.args.line) (sym c.loop-turn.invariant.geometry) c.requires.channel }

pub loop-turn-init : goal.loop-turn-init
loop-turn-init g c = record {
  tells = tells_none g.K.ChannelPort (AnswersPart c.args.line 0) (g.T.Talk.said c.args.talk.now) (g.T.Talk.said c.args.talk.now) (now_of c.args.life.now) (now_of c.args.life.now) refl refl (none_yet c.args.line);
  heard = refl;
  geometry = refl;
}

pub returns-in_err-say-clause-ends : goal.returns-in_err-say-clause-ends
returns-in_err-say-clause-ends g c =
    let said = g.T.Talk.said in let old = now_of c.args.life.now in let at = now_of c.loop-turn.life in let new = now_of c.answer.new.self in
    err_so c.from_residual.result
    (nearly g.K.ChannelPort (AnswersPart c.args.line c.loop-turn._turn) (said c.args.talk.now) (said c.loop-turn.talk) (said c.say.new.self) old at new
    c.loop-turn.invariant.tells (ap now_of (c.in_default.ensures.same refl)) c.in_err-say.ensures.refused)

pub returns-in_default-clause-tells : goal.returns-in_default-clause-tells
returns-in_default-clause-tells g c =
    let said = g.T.Talk.said in let old = now_of c.args.life.now in let at = now_of c.loop-turn.life in let new = now_of c.answer.new.self in
    refusal_on g.K.ChannelPort (AnswersPart c.args.line c.loop-turn._turn) (AreSaidToLine c.args.line) ScriptsAlone (said c.args.talk.now) (said c.loop-turn.talk) (said c.say.new.self) old at new
    c.loop-turn.invariant.tells (ap now_of (c.in_default.ensures.same refl)) c.in_ok-say.ensures.taken
    (λ told part. refused_at_once c.args.line c.loop-turn._turn told part (c.in_default.ensures.none refl))

pub returns-in_err-say-2-clause-ends : goal.returns-in_err-say-2-clause-ends
returns-in_err-say-2-clause-ends g c =
    let said = g.T.Talk.said in let old = now_of c.args.life.now in let at = now_of c.loop-turn.life in let new = now_of c.answer.new.self in
    err_so c.from_residual-in_err-say-2.result
    (untold_turn g.K.ChannelPort (AnswersPart c.args.line c.loop-turn._turn) c.args.line c.in-Some.answer (said c.args.talk.now) (said c.loop-turn.talk) (said c.say-in-loop-turn.new.self) old at new
    c.loop-turn.invariant.tells c.in-Some.ensures.some c.in_err-say-2.ensures.refused)

pub returns-then-not-is_busy-clause-tells : goal.returns-then-not-is_busy-clause-tells
returns-then-not-is_busy-clause-tells g c =
    let said = g.T.Talk.said in let old = now_of c.args.life.now in let at = now_of c.loop-turn.life in let new = now_of c.answer.new.self in
    turn_on g.K.ChannelPort (AnswersPart c.args.line c.loop-turn._turn) (AreSaidToLine c.args.line) c.args.line c.in-Some.answer
    (said c.args.talk.now) (said c.loop-turn.talk) (said c.say-in-loop-turn.new.self) old at new c.loop-turn.invariant.tells c.in-Some.ensures.some c.in_ok-say-2.ensures.taken
    (λ told part. idle_last c.args.line c.loop-turn._turn c.in-Some.answer told part c.in-Some.ensures.asks (sym c.is_busy.ensures ∙ c.if-not-is_busy.true)
    (subst (λ (n : ℕ). c.loop-turn._turn < n) c.turns_of-turn-end.ensures c.loop-turn-test.true))

pub loop-turn-preserved : goal.loop-turn-preserved
loop-turn-preserved g c =
    let said = g.T.Talk.said in let old = now_of c.args.life.now in let at = now_of c.loop-turn.life in let new = now_of c.answer.new.self in
    record {
      tells = turn_on g.K.ChannelPort (AnswersPart c.args.line c.loop-turn._turn) (AnswersPart c.args.line (c.loop-turn._turn + 1)) c.args.line c.in-Some.answer
          (said c.args.talk.now) (said c.loop-turn.talk) (said c.say-in-loop-turn.new.self) old at new c.loop-turn.invariant.tells c.in-Some.ensures.some c.in_ok-say-2.ensures.taken
          (λ told part. one_more c.args.line c.loop-turn._turn c.in-Some.answer told part c.in-Some.ensures.asks (sym c.is_busy.ensures ∙ c.if-not-is_busy.false));
      heard = c.in_ok-say-2.ensures.heard ∙ c.loop-turn.invariant.heard;
      geometry = c.answer.ensures.geometry ∙ c.loop-turn.invariant.geometry;
    }

pub returns-clause-tells : goal.returns-clause-tells
returns-clause-tells g c =
    let said = g.T.Talk.said in
    tells_so g.K.ChannelPort (AnswersPart c.args.line c.loop-turn._turn) (AreSaidToLine c.args.line) (said c.args.talk.now) (said c.loop-turn.talk) (now_of c.args.life.now) (now_of c.loop-turn.life)
    c.loop-turn.invariant.tells (λ told part. all_taken c.args.line c.loop-turn._turn told part (search rules))
