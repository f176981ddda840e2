use Rattle.channel_port.specs.Answers.{IsGot}
use Rattle.ddr4_timing.specs.declared.place.Place.{Place}
use Rattle.line_memory.specs.Memory.{line_of}
use Rattle.nv_machine.specs.declared.events.Event.TheVariants as events
use Rattle.nv_machine.specs.declared.events.Reply.TheVariants as replies
use Rattle.module_core.proofs.Common.{ℕ, ◌∙◌, ◌≡◌, ChannelsView, Err, ForSome, List, Ok, Waiting, Waits, WaitsFrom, all_of, ap, base_of_life, hold_of, memory_of, refl, rules, setup_of, shape_of, start_of_life, subst, sym, view_of}
use Rattle.module_core.proofs.Applying.{quiet, unissued, unmoved, waited}
use Rattle.module_core.proofs.ToldFronts.{told_full_of_reads}
use Rattle.module_core.proofs.module.Module.read.Goals as goal

pub returns-in-Ok-clause-answers : goal.returns-in-Ok-clause-answers
returns-in-Ok-clause-answers g c = λ device gauge.
    let L = g.K.ChannelPort in let e = c.get.ensures in let old = c.args.self.now in let line : ℕ = c.args.line in let later : Waits = (view_of L c.get.new.self).waits in let there = c.in-Some.ensures.some in
    waited L (events.Read line) (replies.Read (Ok c.get.result)) old _ device gauge
    (record { numbers = record { terms = refl; accepted = refl; persisted = refl }; mode = refl; saves = refl; shape = ap (λ (v : ChannelsView). v.shape) e.rest }) refl
    (ap (λ (v : ChannelsView). v.hold) e.rest) e.keeps refl refl (quiet L c.in-Some.place.channel old.channels c.get.new.self e.issued) (λ m h.
    let channel : ℕ = (setup_of L old).shape.channel_of line in let bytes : List ℕ = line_of (memory_of m) line in
    let told : IsGot bytes line (all_of m) channel c.get.result m.waits later =
    subst (λ (k : ℕ). IsGot bytes line k channel c.get.result m.waits later) (c.in-Ok.ensures.at ∙ h.front.accepted)
    (subst (λ (w : Waits). IsGot bytes line c.in-Ok.at channel c.get.result w later) h.carried.waits
    (subst (λ (p : Place). IsGot bytes line c.in-Ok.at p.channel c.get.result (view_of L old.channels).waits later) there.1
    (e.got (base_of_life m.life) (start_of_life m.life) m.life.writes h.carried.carries))) in
    let writes : later.writes ≡ m.waits.writes = e.writes ∙ ap (λ (w : Waits). w.writes) h.carried.waits in (
      (refl, (c.in-Ok.ensures.admitted (shape_of L old.channels) m line h.front there.0 (told_full_of_reads L old m h line c.in-Some.place there.1 c.is_full_of_reads-is_full.result c.is_full_of_reads-is_full.ensures), told, refl)),
      subst (λ (ws : List Waiting). ForSome (hold_of m.store.saving) (λ k. WaitsFrom k (all_of m) ws)) (sym writes) h.carried.held,
      tt,
    ))

pub returns-in-Err-clause-answers : goal.returns-in-Err-clause-answers
returns-in-Err-clause-answers g c = λ device gauge.
    let L = g.K.ChannelPort in let old = c.args.self.now in let line : ℕ = c.args.line in let there = c.in-Some.ensures.some in
    unmoved L (events.Read line) (replies.Read (Err c.in-Err.refusal)) old device gauge (λ m h.
    (refl, (c.in-Err.ensures.refusal (shape_of L old.channels) m line h.front there.0 (told_full_of_reads L old m h line c.in-Some.place there.1 c.is_full_of_reads-is_full.result c.is_full_of_reads-is_full.ensures), refl))) refl refl (λ m h. tt) (unissued L old.channels)

pub returns-in_default-clause-answers : goal.returns-in_default-clause-answers
returns-in_default-clause-answers g c = search (rules, unmoved)
