use Rattle.std.proofs.Common.{◌≡◌, ◌∙◌, List, [], ◌∷◌, ◌++◌, ℕ, ap, subst, sym}
use Rattle.std.proofs.lemmas.List.{append_assoc}
use Rattle.ddr4_timing.specs.declared.timing.Geometry.{Geometry}
use Rattle.live_store.specs.declared.talk.Said.{Said}
use Rattle.live_store.specs.declared.talk.Said.TheVariants as said
use Rattle.live_store.specs.Lives.{now_of}
use Rattle.live_store.specs.Talks.{AreSaidToHeard}
use Rattle.live_store.proofs.living.live_on.Goals as goal

pub returns-clause-lives : goal.returns-clause-lives
returns-clause-lives g c =
    let told = g.T.Talk.said in let heard = g.T.Talk.heard in let tells = c.in_ok-converse.ensures.tells in
    let after : List (List ℕ) = heard c.converse.new.talk in
    let same : heard c.flush.new.self ≡ heard c.args.talk.now = c.flush.ensures.heard ∙ c.say.ensures.heard in
    record {
      answer = c.in_ok-opened.opened.answer;
      more = tells.more;
      told = tells.told ∙ ap (λ (list : List Said). list ++ tells.more) (c.flush.ensures.said ∙ c.in_ok-say.ensures.taken) ∙ append_assoc (told c.args.talk.now) (said.Began c.in_ok-opened.opened.answer ∷ []) tells.more;
      first = now_of c.in_ok-opened.opened.life;
      last = now_of c.converse.new.life;
      begins = c.in_ok-opened.ensures.begins;
      takes = tells.takes;
      to = subst (λ (geometry : Geometry). AreSaidToHeard geometry (heard c.args.talk.now) after tells.more) c.in_ok-opened.ensures.geometry
          (subst (λ (before : List (List ℕ)). AreSaidToHeard c.in_ok-opened.opened.life.geometry before after tells.more) same tells.to);
      device = ap g.D.SaveDevice.state (sym c.into_device.ensures);
    }
