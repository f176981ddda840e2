use Rattle.std.proofs.Common.{◌∙◌, ℕ, List, ap, length, min, subst, sym, take}
use Rattle.whole_lives.specs.declared.events.Answer.{Answer}
use Rattle.whole_lives.specs.Lives.{AnswersAsked}
use Rattle.whole_lives.proofs.Keeping.{in_front}
use Rattle.whole_lives.proofs.lives.live.Goals as goal

pub returns-clause-lives : goal.returns-clause-lives
returns-clause-lives c = λ z.
    let ended = c.in-Ok.ended in
    record {
      answers = ended.answers.items;
      in_buffer = in_front ended.answers.items c.args.answers.now c.copy_from_slice-2.new.self c.min-count.result _ (c.min-count.ensures ∙ ap (λ (n : ℕ). min n (length c.args.answers.now)) (c.len-2.ensures ∙ ended.answers.ok.0)) (c.copy_from_slice-2.ensures.after ∙ ap (λ (row : List Answer). take c.min-count.result row) c.deref-2.ensures.value);
      answered = subst (λ (after : List ℕ). AnswersAsked c.args.text.now c.args.store.now after c.args.level c.args.asks.now ended.answers.items) (sym (c.copy_from_slice.ensures.after ∙ c.deref.ensures.value)) c.in-Ok.ensures.lives;
    }
