use Rattle.channel_port.specs.Answers.{Puts}
use Rattle.channel_port.specs.Waits.{waiting}
use Rattle.ddr4_timing.specs.declared.place.Place.{Place}
use Rattle.line_memory.proofs.MemoryLaws.{after-push, after_write-IsMemory}
use Rattle.line_memory.specs.declared.Write.{Write}
use Rattle.module_core.specs.Fronts.{FrontMatches, setup_in}
use Rattle.module_core.specs.declared.front.Front.{Front}
use Rattle.module_saves.specs.Saving.{IsOfLines}
use Rattle.channel_port.specs.Waits.{AllBelow}
use Rattle.nv_machine.specs.Moves.{written}
use Rattle.nv_machine.specs.declared.events.Event.TheVariants as events
use Rattle.nv_machine.specs.declared.events.Reply.TheVariants as replies
use Rattle.module_core.specs.Stands.{IsCarried}
use Rattle.module_core.proofs.Common.{shape_of, [], ℕ, ◌+◌, ◌∙◌, ◌∷◌, ◌≡◌, ChannelsView, Err, IsMemory, Saves, Machine, Ok, Setup, Waits, WaitsFrom, all_of, ap, arith, base_of_life, inl, length, length-append, lines_of_module, memory_of, refl, rules, setup_of, start_of_life, subst, sym, view_of}
use Rattle.module_core.proofs.Applying.{alone, quiet, same_setup, unissued, unmoved}
use Rattle.module_core.proofs.ToldFronts.{tells_write}
use Rattle.module_core.proofs.Waits.{below_joined, held_joined, puts_joins}
use Rattle.module_core.proofs.module.Module.write.Goals as goal

pub returns-in-Ok-clause-answers : goal.returns-in-Ok-clause-answers
returns-in-Ok-clause-answers g c = λ device gauge.
    let L = g.K.ChannelPort in let old = c.args.self.now in let write : Write = c.args.write in let later : Waits = (view_of L c.put.new.self).waits in let setup : Setup = setup_of L old in
    let accepts = c.in-Ok.ensures.accepts in let there = c.in-Some.ensures.some in
    alone L (events.Write write) (replies.Write (Ok c.in-Ok.accepted)) old _ device gauge gauge
    (same_setup L old.channels c.put.new.self old.front.terms c.accept_write.new.self.terms (ap (λ (v : ChannelsView). v.shape) c.put.ensures.rest) accepts.terms) (λ m h.
    let n : Machine = record m { life = written m.mode m.life write; waits = later } in let channel : ℕ = setup.shape.channel_of write.line in
    let puts : Puts (all_of m) channel m.waits later =
    subst (λ (k : ℕ). Puts k channel m.waits later) (accepts.number ∙ h.front.accepted) (subst (λ (w : Waits). Puts c.in-Ok.accepted.number channel w later) h.carried.waits
    (subst (λ (p : Place). Puts c.in-Ok.accepted.number p.channel (view_of L old.channels).waits later) there.1 c.put.ensures.puts)) in
    let size : length n.life.writes ≡ length m.life.writes + 1 = length-append m.life.writes (write ∷ []) in
    let more : all_of n ≡ all_of m + 1 = omega (arith, size) in
    let front : FrontMatches c.accept_write.new.self n = accepts.matches m write later h.front in
    let memory : IsMemory (shape_of L c.put.new.self).lines (memory_of n) = subst (λ (v : ChannelsView). IsMemory v.shape.lines (memory_of n)) (sym c.put.ensures.rest)
    (subst (IsMemory (lines_of_module L old)) (sym (after-push (base_of_life m.life) m.life.writes write))
    (after_write-IsMemory (lines_of_module L old) (memory_of m) write (let long : length write.«data» ≡ 64 = omega arith in long) h.memory)) in
    let carried : IsCarried L c.put.new.self n = record {
      carries = c.put.ensures.carries (base_of_life m.life) (start_of_life m.life) m.life.writes h.carried.carries (accepts.number ∙ h.front.accepted);
      waits = refl;
      hold = ap (λ v. v.hold) c.put.ensures.rest ∙ h.carried.hold;
      held = λ k some. subst (λ (end : ℕ). WaitsFrom k end later.writes) (sym more)
          (held_joined k (all_of m) (waiting (all_of m) channel) m.waits.writes later.writes refl (puts_joins (all_of m) channel m.waits later puts) (h.carried.held k some));
    } in record {
      later = n;
      step = (refl, (c.in-Ok.ensures.admitted (shape_of L old.channels) m write.line h.front (tells_write L old m h write.line c.in-Some.place there.1 there.0 c.is_full-is_full.result c.is_full-is_full.ensures c.need_of_one_more-need.result c.need_of_one_more-need.ensures), record { number = accepts.number ∙ h.front.accepted; mark = accepts.mark ∙ front.persisted; puts = puts; is = refl }));
      matches = record { front = front; memory = memory; carried = carried };
      moves = inl (refl, accepts.saves);
    }) accepts.saved refl (λ m h. tt) (quiet L c.in-Some.place.channel old.channels c.put.new.self c.put.ensures.issued)

pub returns-in-Err-clause-answers : goal.returns-in-Err-clause-answers
returns-in-Err-clause-answers g c = λ device gauge.
    let L = g.K.ChannelPort in let old = c.args.self.now in let write : Write = c.args.write in let same = c.in-Err.ensures.same in let there = c.in-Some.ensures.some in
    alone L (events.Write write) (replies.Write (Err c.in-Err.refusal)) old _ device gauge gauge (ap (setup_in (shape_of L old.channels)) same) (λ m h. record {
      later = m;
      step = (refl, (c.in-Err.ensures.refusal (shape_of L old.channels) m write.line h.front (tells_write L old m h write.line c.in-Some.place there.1 there.0 c.is_full-is_full.result c.is_full-is_full.ensures c.need_of_one_more-need.result c.need_of_one_more-need.ensures), refl));
      matches = record { front = subst (λ (f : Front). FrontMatches f m) (sym same) h.front; memory = h.memory; carried = h.carried };
      moves = inl (refl, ap (λ (f : Front). f.saves) same);
    }) (ap (λ (f : Front). f.saved) same) refl (λ m h. tt) (unissued L old.channels)

pub invariant_of-self-clause-below : goal.invariant_of-self-clause-below
invariant_of-self-clause-below g c =
    subst (λ (n : ℕ). AllBelow n (view_of g.K.ChannelPort c.put.new.self).waits.writes) (sym c.in-Ok.ensures.accepts.one_more)
    (below_joined c.args.self.now.front.accepted c.in-Some.place.channel (view_of g.K.ChannelPort c.args.self.now.channels).waits (view_of g.K.ChannelPort c.put.new.self).waits
    (subst (λ (k : ℕ). Puts k c.in-Some.place.channel (view_of g.K.ChannelPort c.args.self.now.channels).waits (view_of g.K.ChannelPort c.put.new.self).waits) c.in-Ok.ensures.accepts.number c.put.ensures.puts)
    c.args.self.now.below)

pub invariant_of-self-clause-running : goal.invariant_of-self-clause-running
invariant_of-self-clause-running g c =
    subst (λ (s : Saves). IsOfLines (shape_of g.K.ChannelPort c.put.new.self).lines s.saving) (sym c.in-Ok.ensures.accepts.saves)
    (subst (λ (v : ChannelsView). IsOfLines v.shape.lines c.args.self.now.front.saves.saving) (sym c.put.ensures.rest) c.args.self.now.running)

pub put-requires-clause-mains : goal.put-requires-clause-mains
put-requires-clause-mains g c = c.args.self.now.mains c.in-Ok.ensures.running

pub put-requires-clause-above : goal.put-requires-clause-above
put-requires-clause-above g c =
    subst (λ (n : ℕ). AllBelow n (view_of g.K.ChannelPort c.args.self.now.channels).waits.writes) (sym c.in-Ok.ensures.accepts.number) c.args.self.now.below

pub returns-in_default-clause-answers : goal.returns-in_default-clause-answers
returns-in_default-clause-answers g c = search (rules, unmoved)
