-- What the channels carry behind a step of a save on mains.
use Rattle.channel_set.specs.Carrying.{KeepsAll}
use Rattle.channel_set.specs.declared.set.ChannelSet.{ChannelSet}
use Rattle.module_core.specs.Stands.{ChangesHold, IsCarried, hold_behind}
use Rattle.nv_machine.proofs.GuardLaws.{for_none}
use Rattle.nv_machine.specs.Machine.{MadeStep}
use Rattle.nv_machine.specs.Moves.{finished}
use Rattle.nv_machine.specs.declared.events.StepReply.{StepReply}
use Rattle.nv_machine.specs.declared.events.StepReply.TheVariants as step
use Rattle.module_core.proofs.Common.{AreSameSave, ChannelsView, ForSome, Ghosts, IsMemory, Machine, None, Option, RunningSave, SaveRun, Setup, Some, Step, WaitsFrom, all_of, ap, base_of_life, hold_at, hold_of, memory_of, next_of, option_map, refl, rules, shape_of, start_of_life, step_after, subst, sym, view_of, ℕ, ◌∙◌, ◌≡◌}
use Rattle.module_saves.proofs.RunningSaves.{failed_none, held_next}

-- the coming step of the save that runs
coming : (save : RunningSave) (r : Option SaveRun) → AreSameSave (Some save) r → option_map next_of r ≡ Some save.next
coming save None none = absurd none
coming save (Some run) same = ap (λ (x : Step). Some x) same.0

-- the hold goes on with the steps, and ends behind the last page
hold_next : (lines count : ℕ) (next : Step) → hold_behind (Some (step_after lines next)) (hold_at count next) ≡ hold_at count (step_after lines next)
hold_next lines count next = search rules

module _ {K : Type 0} (L : Ghosts K) where
  -- what the channels have to do with a machine
  pub record AreBehind (channels : ChannelSet K L) (m : Machine) : Type 0 where
    pub memory : IsMemory (shape_of L channels).lines (memory_of m)
    pub carried : IsCarried L channels m

  module _ (setup : Setup) (save : RunningSave) (m later : Machine) (runs : m.store.saving ≡ Some save) (old : ChannelSet K L) (h : AreBehind old m) where
    -- the step ended the save well, or is made again
    pub behind_others : (reply : StepReply) → MadeStep setup save reply m later → (reply ≡ step.Fault → ⊥) → ((made : Step) → reply ≡ step.Did made → ⊥) → AreBehind old later
    behind_others (step.Did made) is fault did = absurd (did made refl)
    behind_others (step.Saved generation count) is fault did =
        subst (AreBehind old) (sym is.3) (record {
          memory = h.memory;
          carried = record {
            carries = h.carried.carries;
            waits = h.carried.waits;
            hold = h.carried.hold ∙ ap hold_of runs ∙ ap (hold_at save.made.count) is.0;
            held = for_none (hold_of (finished save m).store.saving) _ refl;
          };
        })
    behind_others step.Retry is fault did =
        let hold : hold_of (Some save) ≡ hold_of m.store.saving = sym (ap hold_of runs) in
        subst (AreBehind old) (sym is.1) (record {
          memory = h.memory;
          carried = record {
            carries = h.carried.carries;
            waits = h.carried.waits;
            hold = h.carried.hold ∙ sym hold;
            held = subst (λ (o : Option ℕ). ForSome o (λ k. WaitsFrom k (all_of m) m.waits.writes)) (sym hold) h.carried.held;
          };
        })
    behind_others step.Fault is fault did = absurd (fault refl)
    behind_others step.Waiting is fault did = absurd is
    behind_others step.NoSave is fault did = absurd is
    behind_others step.Turned is fault did = absurd is

    -- the step failed, the save has ended, and so has its hold
    pub behind_fault : (new : ChannelSet K L) → view_of L new ≡ record (view_of L old) { hold = None } → KeepsAll L old new → MadeStep setup save step.Fault m later → AreBehind new later
    behind_fault new held keeps is =
        let none = failed_none m.store save.made save.next in
        subst (AreBehind new) (sym is.1) (record {
          memory = subst (λ (v : ChannelsView). IsMemory v.shape.lines (memory_of m)) (sym held) h.memory;
          carried = record {
            carries = keeps (base_of_life m.life) (start_of_life m.life) m.life.writes h.carried.carries;
            waits = ap (λ v. v.waits) held ∙ h.carried.waits;
            hold = ap (λ v. v.hold) held ∙ sym (ap hold_of none);
            held = for_none _ _ (ap hold_of none);
          };
        })

    -- the step went well, and the hold ends behind the last page
    pub behind_step : (new : ChannelSet K L) (saving : Option SaveRun) → AreSameSave later.store.saving saving → ChangesHold L (hold_behind (option_map next_of saving) (view_of L old).hold) old new
        → (made : Step) → MadeStep setup save (step.Did made) m later → AreBehind new later
    behind_step new saving same changes made is =
        let lines : ℕ = setup.shape.lines in let next : Step = step_after lines save.next in
        let after : option_map next_of saving ≡ Some next =
        coming (record save { next = next }) saving (subst (λ (x : Machine). AreSameSave x.store.saving saving) is.2 same) in
        subst (AreBehind new) (sym is.2) (record {
          memory = subst (λ (v : ChannelsView). IsMemory v.shape.lines (memory_of m)) (sym changes.is) h.memory;
          carried = record {
            carries = changes.keeps (base_of_life m.life) (start_of_life m.life) m.life.writes h.carried.carries;
            waits = ap (λ v. v.waits) changes.is ∙ h.carried.waits;
            hold = ap (λ v. v.hold) changes.is ∙ ap (λ (x : Option Step). hold_behind x (view_of L old).hold) after
                ∙ ap (hold_behind (Some next)) (h.carried.hold ∙ ap hold_of runs) ∙ hold_next lines save.made.count save.next;
            held = held_next lines save.made.count save.next (λ k. WaitsFrom k (all_of m) m.waits.writes)
                (subst (λ (o : Option RunningSave). ForSome (hold_of o) (λ k. WaitsFrom k (all_of m) m.waits.writes)) runs h.carried.held);
          };
        })
