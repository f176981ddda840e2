use Rattle.std.proofs.Common.{List, subst}
use Rattle.nv_machine.specs.declared.events.Event.{Event}
use Rattle.whole_lives.specs.Lives.{Answers}
use Rattle.whole_lives.proofs.lives.live_asked.Goals as goal

pub returns-in-Ok-live_on-clause-lives : goal.returns-in-Ok-live_on-clause-lives
returns-in-Ok-live_on-clause-lives c =
    let ended = c.in-Ok-live_on.ended in
    record {
      profile = c.in-Ok.profile;
      of = c.in-Ok.ensures.ok;
      events = c.in-Ok-events_of.events.items;
      asked = c.in-Ok-events_of.ensures.are;
      answered = subst (λ (events : List Event). Answers c.in-Ok.profile c.args.bytes.now ended.bytes.items c.args.level events ended.answers.items) c.deref.ensures.value c.in-Ok-live_on.ensures.lives;
    }
