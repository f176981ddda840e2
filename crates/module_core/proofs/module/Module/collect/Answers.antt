use Rattle.channel_port.specs.Answers.{IsCollected}
use Rattle.nv_machine.proofs.Effects.{collected_writes}
use Rattle.nv_machine.specs.declared.events.Event.TheVariants as events
use Rattle.nv_machine.specs.declared.events.Reply.TheVariants as replies
use Rattle.module_core.proofs.Common.{ChannelsView, ForSome, List, Waiting, Waits, WaitsFrom, all_of, ap, hold_of, refl, subst, sym, view_of}
use Rattle.module_core.proofs.Applying.{quiet, waited}
use Rattle.module_core.proofs.module.Module.collect.Goals as goal

pub returns-clause-answers : goal.returns-clause-answers
returns-clause-answers g c = λ device gauge.
    let L = g.K.ChannelPort in let e = c.collect.ensures in let ticket = c.args.ticket in let later : Waits = (view_of L c.collect.new.self).waits in
    waited L (events.Collect ticket) (replies.Collect c.collect.result) c.args.self.now _ device gauge
    (record { numbers = record { terms = refl; accepted = refl; persisted = refl }; mode = refl; saves = refl; shape = ap (λ (v : ChannelsView). v.shape) e.rest }) refl
    (ap (λ (v : ChannelsView). v.hold) e.rest) e.keeps refl refl (quiet L ticket.channel c.args.self.now.channels c.collect.new.self e.issued) (λ m h.
    let told : IsCollected ticket c.collect.result m.waits later = subst (λ (w : Waits). IsCollected ticket c.collect.result w later) h.carried.waits e.collected in (
      (refl, (told, refl)),
      subst (λ (ws : List Waiting). ForSome (hold_of m.store.saving) (λ k. WaitsFrom k (all_of m) ws)) (sym (collected_writes ticket c.collect.result m.waits later told)) h.carried.held,
      tt,
    ))
