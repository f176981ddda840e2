use Rattle.std.proofs.Common.{◌≡◌, ◌<◌, ◌∙◌, ℕ, suc, ◌+◌, arith, rules, refl, sym, subst, Option}
use Rattle.nv_session.proofs.Common.{AnswersAlone, ComesAlone, Setup}
use Rattle.channel_port.specs.declared.answers.Collected.{Collected}
use Rattle.channel_port.specs.declared.answers.Done.{Done}
use Rattle.nv_machine.specs.declared.events.Event.TheVariants as events
use Rattle.nv_machine.specs.declared.events.Reply.TheVariants as replies
use Rattle.nv_session.proofs.Awaiting.{AwaitsTurns, Looks, awaits_itself, looks, none_of, nothing_of, sees_content, sees_idle, sees_waiting, takes_turn}
use Rattle.nv_session.proofs.turns.await_read.Goals as goal

pub loop-turn-init : goal.loop-turn-init
loop-turn-init g c = record { setup = refl; stored = record { cut = refl; saved = refl }; comes = λ _. awaits_itself g.K.ChannelPort c.args.ticket c.args.running.now }

pub returns-in-Data-clause-comes : goal.returns-in-Data-clause-comes
returns-in-Data-clause-comes g c = λ here.
    let L = g.K.ChannelPort in
    sees_content L c.args.ticket c.loop-turn._turn c.in-Data.line c.in-Data.bytes c.in-Data.at c.args.running.now c.loop-turn.running c.collect.new.self c.loop-turn.invariant.setup
    (omega (arith, c.loop-turn-test.true)) (c.loop-turn.invariant.comes here)
    (subst (λ (answer : Collected). AnswersAlone L (events.Collect c.args.ticket) (replies.Collect answer) c.loop-turn.running c.collect.new.self) c.in-Data.is c.collect.ensures.answers)

pub returns-in-Data-clause-setup : goal.returns-in-Data-clause-setup
returns-in-Data-clause-setup g c = c.collect.ensures.setup ∙ c.loop-turn.invariant.setup

pub returns-in-Data-clause-stored : goal.returns-in-Data-clause-stored
returns-in-Data-clause-stored g c =
    let was = c.loop-turn.invariant.stored in record { cut = c.collect.ensures.stored.cut ∙ was.cut; saved = c.collect.ensures.stored.saved ∙ was.saved }

pub work-requires : goal.work-requires
work-requires g c = subst (λ (s : Setup). c.args.channel < s.shape.channels) (sym (c.collect.ensures.setup ∙ c.loop-turn.invariant.setup)) c.requires

pub returns-in_default-work : goal.returns-in_default-work
returns-in_default-work g c =
    let L = g.K.ChannelPort in let inv = c.loop-turn.invariant in let ticket = c.args.ticket in
    record {
      comes = λ here. sees_idle L ticket c.loop-turn._turn c.collect.result c.args.running.now c.collect.new.self c.work.new.self (c.collect.ensures.setup ∙ inv.setup) c.loop-turn-test.true
          (nothing_of c.collect.result c.in_default.not-Data)
          (looks L ticket c.loop-turn._turn c.collect.result c.args.running.now c.loop-turn.running c.collect.new.self inv.setup (inv.comes here) c.collect.ensures.answers)
          (subst (λ (done : Option Done). AnswersAlone L (events.Work ticket.channel) (replies.Work done) c.collect.new.self c.work.new.self) (none_of c.work.result c.in_default-work.not-Some)
          (subst (λ (k : ℕ). AnswersAlone L (events.Work k) (replies.Work c.work.result) c.collect.new.self c.work.new.self) here c.work.ensures.answers));
      setup = c.work.ensures.setup ∙ c.collect.ensures.setup ∙ inv.setup;
      stored = record {
        cut = c.work.ensures.stored.cut ∙ c.collect.ensures.stored.cut ∙ inv.stored.cut;
        saved = c.work.ensures.stored.saved ∙ c.collect.ensures.stored.saved ∙ inv.stored.saved;
      };
    }

pub loop-turn-preserved : goal.loop-turn-preserved
loop-turn-preserved g c =
    let L = g.K.ChannelPort in let inv = c.loop-turn.invariant in let ticket = c.args.ticket in
    let one_more : suc c.loop-turn._turn ≡ c.loop-turn._turn + 1 = omega arith in
    record {
      setup = c.work.ensures.setup ∙ c.collect.ensures.setup ∙ inv.setup;
      stored = record {
        cut = c.work.ensures.stored.cut ∙ c.collect.ensures.stored.cut ∙ inv.stored.cut;
        saved = c.work.ensures.stored.saved ∙ c.collect.ensures.stored.saved ∙ inv.stored.saved;
      };
      comes = λ here. subst (λ (n : ℕ). ComesAlone L (AwaitsTurns ticket n) c.args.running.now c.work.new.self) one_more
          (takes_turn L ticket c.loop-turn._turn c.collect.result c.in-Some.field-0 c.args.running.now c.collect.new.self c.work.new.self (c.collect.ensures.setup ∙ inv.setup)
          (nothing_of c.collect.result c.in_default.not-Data)
          (looks L ticket c.loop-turn._turn c.collect.result c.args.running.now c.loop-turn.running c.collect.new.self inv.setup (inv.comes here) c.collect.ensures.answers)
          (subst (λ (done : Option Done). AnswersAlone L (events.Work ticket.channel) (replies.Work done) c.collect.new.self c.work.new.self) c.in-Some.is
          (subst (λ (k : ℕ). AnswersAlone L (events.Work k) (replies.Work c.work.result) c.collect.new.self c.work.new.self) here c.work.ensures.answers)));
    }

pub returns-in-Data-collect-clause-comes : goal.returns-in-Data-collect-clause-comes
returns-in-Data-collect-clause-comes g c = λ here.
    let L = g.K.ChannelPort in let last = c.in-Data-collect in let all : c.loop-turn._turn ≡ 64 = search rules in
    sees_content L c.args.ticket c.loop-turn._turn last.line last.bytes last.at c.args.running.now c.loop-turn.running c.collect-2.new.self c.loop-turn.invariant.setup (omega (arith, all)) (c.loop-turn.invariant.comes here)
    (subst (λ (answer : Collected). AnswersAlone L (events.Collect c.args.ticket) (replies.Collect answer) c.loop-turn.running c.collect-2.new.self) last.is c.collect-2.ensures.answers)

pub returns-in-Data-collect-clause-setup : goal.returns-in-Data-collect-clause-setup
returns-in-Data-collect-clause-setup g c = c.collect-2.ensures.setup ∙ c.loop-turn.invariant.setup

pub returns-in-Data-collect-clause-stored : goal.returns-in-Data-collect-clause-stored
returns-in-Data-collect-clause-stored g c =
    let was = c.loop-turn.invariant.stored in record { cut = c.collect-2.ensures.stored.cut ∙ was.cut; saved = c.collect-2.ensures.stored.saved ∙ was.saved }

pub returns-in_default-collect : goal.returns-in_default-collect
returns-in_default-collect g c =
    let L = g.K.ChannelPort in let inv = c.loop-turn.invariant in let all : c.loop-turn._turn ≡ 64 = search rules in
    record {
      comes = λ here. sees_waiting L c.args.ticket c.collect-2.result c.args.running.now c.collect-2.new.self (nothing_of c.collect-2.result c.in_default-collect.not-Data)
          (subst (λ (n : ℕ). ComesAlone L (Looks c.args.ticket n c.collect-2.result) c.args.running.now c.collect-2.new.self) all
          (looks L c.args.ticket c.loop-turn._turn c.collect-2.result c.args.running.now c.loop-turn.running c.collect-2.new.self inv.setup (inv.comes here) c.collect-2.ensures.answers));
      setup = c.collect-2.ensures.setup ∙ inv.setup;
      stored = record { cut = c.collect-2.ensures.stored.cut ∙ inv.stored.cut; saved = c.collect-2.ensures.stored.saved ∙ inv.stored.saved };
    }
