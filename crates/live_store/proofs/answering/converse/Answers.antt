use Rattle.std.proofs.Common.{◌≡◌, ◌∙◌, List, [], ◌∷◌, ◌++◌, ℕ, refl, rules, subst, sym}
use Rattle.ddr4_timing.specs.declared.timing.Geometry.{Geometry}
use Rattle.live_store.specs.declared.talk.Said.{Said}
use Rattle.live_store.specs.Lives.{now_of}
use Rattle.live_store.specs.Talks.{AreSaidToHeard, AreSaidToText}
use Rattle.live_store.proofs.Results.{err_so}
use Rattle.live_store.proofs.Talking.{heard_more, heard_none, heard_one, nearly, nearly_on, tells_at, tells_none, tells_on}
use Rattle.live_store.proofs.answering.converse.Goals as goal

pub loop-turn-init : goal.loop-turn-init
loop-turn-init g c =
    let said = g.T.Talk.said c.args.talk.now in let heard = g.T.Talk.heard c.args.talk.now in
    record {
      tells = tells_none g.K.ChannelPort (AreSaidToHeard c.args.life.now.geometry heard heard) said said (now_of c.args.life.now) (now_of c.args.life.now) refl refl
          (heard_none c.args.life.now.geometry heard heard refl);
      geometry = refl;
      out = c.requires.out;
    }

pub returns-in_err-hear-clause-ends : goal.returns-in_err-hear-clause-ends
returns-in_err-hear-clause-ends g c =
    let said = g.T.Talk.said in let heard = g.T.Talk.heard in
    err_so c.from_residual.result
    (nearly g.K.ChannelPort (AreSaidToHeard c.args.life.now.geometry (heard c.args.talk.now) (heard c.loop-turn.talk)) (said c.args.talk.now) (said c.loop-turn.talk) (said c.hear.new.self)
    (now_of c.args.life.now) (now_of c.loop-turn.life) (now_of c.loop-turn.life) c.loop-turn.invariant.tells refl c.hear.ensures.said)

pub returns-in_err-answer_text-clause-ends : goal.returns-in_err-answer_text-clause-ends
returns-in_err-answer_text-clause-ends g c =
    let said = g.T.Talk.said in let heard = g.T.Talk.heard in let old = now_of c.args.life.now in let at = now_of c.loop-turn.life in
    let A = AreSaidToHeard c.args.life.now.geometry (heard c.args.talk.now) (heard c.loop-turn.talk) in
    err_so c.from_residual-in_err-answer_text.result
    (nearly_on g.K.ChannelPort A (said c.args.talk.now) (said c.hear.new.self) (said c.answer_text.new.talk) old at (now_of c.answer_text.new.life)
    (tells_at g.K.ChannelPort A (said c.args.talk.now) (said c.loop-turn.talk) (said c.hear.new.self) old at c.loop-turn.invariant.tells c.hear.ensures.said) c.in_err-answer_text.ensures.ends)

pub returns-in_err-flush-clause-ends : goal.returns-in_err-flush-clause-ends
returns-in_err-flush-clause-ends g c =
    let said = g.T.Talk.said in let heard = g.T.Talk.heard in let old = now_of c.args.life.now in let at = now_of c.loop-turn.life in let new = now_of c.answer_text.new.life in
    let A = AreSaidToHeard c.args.life.now.geometry (heard c.args.talk.now) (heard c.loop-turn.talk) in let B = AreSaidToText c.loop-turn.life.geometry c.deref.result.now in
    let C = λ (told : List Said). Unit {0} in
    err_so c.from_residual-in_err-flush.result
    (nearly g.K.ChannelPort C (said c.args.talk.now) (said c.answer_text.new.talk) (said c.flush.new.self) old new new
    (tells_on g.K.ChannelPort A B C (said c.args.talk.now) (said c.hear.new.self) (said c.answer_text.new.talk) old at new
    (tells_at g.K.ChannelPort A (said c.args.talk.now) (said c.loop-turn.talk) (said c.hear.new.self) old at c.loop-turn.invariant.tells c.hear.ensures.said)
    c.in_ok-answer_text.ensures.tells (λ told more a b. tt)) refl c.flush.ensures.said)

pub loop-turn-preserved : goal.loop-turn-preserved
loop-turn-preserved g c =
    let said = g.T.Talk.said in let heard = g.T.Talk.heard in let old = now_of c.args.life.now in let at = now_of c.loop-turn.life in let new = now_of c.answer_text.new.life in
    let geometry : Geometry = c.args.life.now.geometry in let text : List ℕ = c.deref.result.now in
    let A = AreSaidToHeard geometry (heard c.args.talk.now) (heard c.loop-turn.talk) in let B = AreSaidToText c.loop-turn.life.geometry text in
    let C = AreSaidToHeard geometry (heard c.args.talk.now) (heard c.flush.new.self) in
    let one : heard c.hear.new.self ≡ heard c.loop-turn.talk ++ text ∷ [] =
    subst (λ (t : List ℕ). heard c.hear.new.self ≡ heard c.loop-turn.talk ++ t ∷ []) (sym c.deref.ensures.value)
    (heard_one c.in_ok-hear.field-0 (heard c.loop-turn.talk) (heard c.hear.new.self) c.hear.new.line.items (search rules) c.in_ok-hear.ensures.line) in
    let all : heard c.flush.new.self ≡ heard c.loop-turn.talk ++ text ∷ [] = c.flush.ensures.heard ∙ c.answer_text.ensures.heard ∙ one in
    record {
      tells = tells_at g.K.ChannelPort C (said c.args.talk.now) (said c.answer_text.new.talk) (said c.flush.new.self) old new
          (tells_on g.K.ChannelPort A B C (said c.args.talk.now) (said c.hear.new.self) (said c.answer_text.new.talk) old at new
          (tells_at g.K.ChannelPort A (said c.args.talk.now) (said c.loop-turn.talk) (said c.hear.new.self) old at c.loop-turn.invariant.tells c.hear.ensures.said)
          c.in_ok-answer_text.ensures.tells
          (λ told more a b. heard_more geometry (heard c.args.talk.now) (heard c.loop-turn.talk) (heard c.flush.new.self) text told more a all
          (subst (λ (g : Geometry). AreSaidToText g text more) c.loop-turn.invariant.geometry b)))
          c.flush.ensures.said;
      geometry = c.answer_text.ensures.geometry ∙ c.loop-turn.invariant.geometry;
      out = c.in_ok-flush.ensures.out;
    }
