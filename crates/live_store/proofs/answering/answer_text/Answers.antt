use Rattle.std.specs.Prelude.{All}
use Rattle.std.proofs.Common.{◌∙◌, ◌+◌, List, [], ◌++◌, get_or, refl, rules, subst, sym, take}
use Rattle.std.proofs.lemmas.List.{take_more}
use Rattle.std.proofs.lemmas.List.Elements.{All-get_or}
use Rattle.ddr4_timing.specs.declared.timing.Geometry.{Geometry}
use Rattle.nv_script.specs.Line.{NamesChannelOf}
use Rattle.nv_script.specs.declared.line.ScriptLine.{ScriptLine}
use Rattle.nv_script.specs.declared.line.ScriptLine.TheVariants.{Format}
use Rattle.live_store.specs.Lives.{now_of}
use Rattle.live_store.specs.Talks.{AreSaidToLine, AreSaidToLines}
use Rattle.live_store.proofs.Results.{err_so}
use Rattle.live_store.proofs.Talking.{line_more, nearly_none, nearly_on, tells_none, tells_on}
use Rattle.live_store.proofs.answering.answer_text.Goals as goal

pub loop-line-init : goal.loop-line-init
loop-line-init g c = record {
  tells = tells_none g.K.ChannelPort (AreSaidToLines []) (g.T.Talk.said c.args.talk.now) (g.T.Talk.said c.args.talk.now) (now_of c.args.life.now) (now_of c.args.life.now) refl refl refl;
  heard = refl;
  geometry = refl;
}

pub answer_line-requires : goal.answer_line-requires
answer_line-requires g c =
    let items : List ScriptLine = c.deref-line-items.result.now in let index = c.loop-line.line-index in
    record {
      channel = subst (λ (geometry : Geometry). NamesChannelOf geometry (get_or items index Format)) (sym c.loop-line.invariant.geometry)
          (All-get_or (NamesChannelOf c.args.life.now.geometry) items index Format (search rules) (subst (λ (ls : List ScriptLine). All (NamesChannelOf c.args.life.now.geometry) ls) (sym c.deref-line-items.ensures.value) c.in-Ok.ensures.lines));
    }

pub loop-line-preserved : goal.loop-line-preserved
loop-line-preserved g c =
    let said = g.T.Talk.said in let items : List ScriptLine = c.deref-line-items.result.now in let index = c.loop-line.line-index in let line : ScriptLine = get_or items index Format in
    record {
      tells = tells_on g.K.ChannelPort (AreSaidToLines (take index items)) (AreSaidToLine line) (AreSaidToLines (take (index + 1) items))
          (said c.args.talk.now) (said c.loop-line.talk) (said c.answer_line.new.talk) (now_of c.args.life.now) (now_of c.loop-line.life) (now_of c.answer_line.new.life)
          c.loop-line.invariant.tells c.in_ok-answer_line-in-Ok.ensures.tells
          (λ told more a b. subst (λ (ls : List ScriptLine). AreSaidToLines ls (told ++ more)) (sym (take_more items index Format (search rules))) (line_more (take index items) line told more a b));
      heard = c.answer_line.ensures.heard ∙ c.loop-line.invariant.heard;
      geometry = c.answer_line.ensures.geometry ∙ c.loop-line.invariant.geometry;
    }

pub returns-in_err-answer_line-in-Ok-clause-ends : goal.returns-in_err-answer_line-in-Ok-clause-ends
returns-in_err-answer_line-in-Ok-clause-ends g c =
    let said = g.T.Talk.said in
    err_so _
    (nearly_on g.K.ChannelPort (AreSaidToLines (take c.loop-line.line-index c.deref-line-items.result.now)) (said c.args.talk.now) (said c.loop-line.talk) (said c.answer_line.new.talk)
    (now_of c.args.life.now) (now_of c.loop-line.life) (now_of c.answer_line.new.life) c.loop-line.invariant.tells c.in_err-answer_line-in-Ok.ensures.ends)

pub returns-in_err-say-in-Err-Line-clause-ends : goal.returns-in_err-say-in-Err-Line-clause-ends
returns-in_err-say-in-Err-Line-clause-ends g c =
    err_so _ (nearly_none g.K.ChannelPort (g.T.Talk.said c.args.talk.now) (g.T.Talk.said c.say.new.self) (now_of c.args.life.now) c.in_err-say-in-Err-Line.ensures.refused)

pub returns-in-Err : goal.returns-in-Err
returns-in-Err g c = record {
  tells = tt;
  ends = nearly_none g.K.ChannelPort (g.T.Talk.said c.args.talk.now) (g.T.Talk.said c.args.talk.now) (now_of c.args.life.now) refl;
  heard = refl;
  geometry = refl;
}
