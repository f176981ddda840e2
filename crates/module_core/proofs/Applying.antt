-- One event of the module, from its step and what the device may leave.
use Rattle.channel_port.specs.declared.answers.Done.{Done}
use Rattle.channel_set.specs.Carrying.{KeepsAll}
use Rattle.channel_set.specs.Issuing.{IssuesNone, IssuesOn}
use Rattle.channel_set.specs.Set.{NextCommand}
use Rattle.channel_set.specs.declared.set.ChannelSet.{ChannelSet}
use Rattle.module_core.specs.Fronts.{SameNumbers}
use Rattle.module_core.specs.Issuing.{Issues}
use Rattle.module_core.specs.Stands.{Answers, Follows, IsCarried, Point, WorksWhereDue, saved_after}
use Rattle.module_core.specs.declared.opening.LifeTerms.{LifeTerms}
use Rattle.nv_machine.proofs.Backing.{IsKnown}
use Rattle.nv_machine.proofs.Effects.{KeepsNewest}
use Rattle.nv_machine.specs.State.{newest_of}
use Rattle.nv_machine.specs.declared.events.StepReply.{StepReply}
use Rattle.arm_state.specs.declared.loss.Loss.{Loss}
use Rattle.nv_machine.proofs.EachEvent.{event_keeps, guarded_event}
use Rattle.nv_machine.proofs.HonestEvents.{honest_event}
use Rattle.nv_machine.proofs.Leaving.{left_after, left_before}
use Rattle.nv_machine.specs.Guard.{IsGuarded}
use Rattle.nv_machine.specs.Headline.{RecoversMeanwhile}
use Rattle.nv_machine.specs.Machine.{MachineStep}
use Rattle.nv_machine.specs.declared.events.Event.TheVariants as events
use Rattle.nv_machine.specs.declared.events.Reply.TheVariants as replies
use Rattle.module_core.proofs.Common.{if◌then◌else◌, ℕ, ◌∙◌, ◌≡◌, Assembly, Bool, DeviceState, Event, ForSome, Gauge, Ghosts, HappensAt, Holds, IsAmong, LeavesOnly, Machine, Matches, Module, ModuleStands, None, Option, Outcome, Reply, Setup, Shape, Some, Waits, WaitsFrom, after, all_of, ap, assembly, base_of_life, false, hold_of, inl, inr, lines_of_module, marks, option_map, point_of, read_as, refl, restored, rules, setup_of, shape_of, start_of_life, started, subst, sym, true, view_of, weaker, world_of}
use Rattle.module_saves.proofs.Knowing.{holds_moved}
use Rattle.module_saves.proofs.StoreSteps.{stop_now}

-- the command that comes next was issued, where there is one
pub works_where_due : {K : Type 0} (L : Ghosts K) (channel : ℕ) (result : Option Done) (point : Point L) → NextCommand L point.channels channel (option_map (λ done. done.command) result)
    → WorksWhereDue L (events.Work channel) (replies.Work result) point
works_where_due L channel None point next = inr next
works_where_due L channel (Some done) point next = next

-- how many writes the newest image holds after a reply
newest_after : (reply : Reply) (before after : ℕ) → KeepsNewest reply before after → after ≡ saved_after reply before
newest_after (replies.SaveStep (StepReply.Saved generation count)) before after keeps = keeps
newest_after (replies.Lose (Loss.Saved generation count)) before after keeps = keeps
newest_after reply before after keeps = keeps

module _ {K : Type 0} (L : Ghosts K) where
  -- channels of which nothing was asked, or several things, and of which none issued a command
  pub unissued : (channels : ChannelSet K L) → IssuesNone L channels channels
  unissued channels = record { lists = refl; checked = refl }

  pub issues_none : (old mid new : ChannelSet K L) → IssuesNone L old mid → IssuesNone L mid new → IssuesNone L old new
  issues_none old mid new first second = record { lists = second.lists ∙ first.lists; checked = second.checked ∙ first.checked }

  pub quiet : (channel : ℕ) (old new : ChannelSet K L) → IssuesOn L channel None old new → IssuesNone L old new
  quiet channel old new on = record { lists = on.lists; checked = on.checked }

  known : (it : Module K L) (state : DeviceState) (m : Machine) → ModuleStands L it state m → IsKnown (setup_of L it) m
  known it state m s = search rules

  pub same_lines : (old new : Module K L) → setup_of L new ≡ setup_of L old → lines_of_module L new ≡ lines_of_module L old
  same_lines old new setup = ap (λ (s : Setup). s.shape.lines) setup

  -- how many writes the newest image holds after an event
  pub counted : (event : Event) (reply : Reply) (old new : Assembly L) (m : Machine) → ModuleStands L old.it old.device m → (n : Machine) → MachineStep (setup_of L old.it) event reply (world_of L old m) (world_of L new n)
      → new.it.front.saved ≡ saved_after reply old.it.front.saved → new.it.front.saved ≡ (newest_of n).count
  counted event reply old new m s n step saved =
      let keeps = event_keeps (setup_of L old.it) event reply (world_of L old m) (world_of L new n) step s.guarded in
      saved ∙ ap (saved_after reply) s.saved ∙ sym (newest_after reply (newest_of m).count (newest_of n).count keeps.newest)

  -- An event that may call the device.
  pub asked : (event : Event) (reply : Reply) (old new : Assembly L) → setup_of L new.it ≡ setup_of L old.it → (m : Machine) → ModuleStands L old.it old.device m → (n : Machine)
      → MachineStep (setup_of L old.it) event reply (world_of L old m) (world_of L new n) → new.it.front.saved ≡ saved_after reply old.it.front.saved
      → Matches L new.it n → Holds (lines_of_module L old.it) n.store new.it.front.saves.saving new.device → WorksWhereDue L event reply (point_of L old m) → Issues L event reply old.it.channels new.it.channels
      → LeavesOnly old.device new.device (λ bytes. IsGuarded n → RecoversMeanwhile reply m n (restored (lines_of_module L old.it) bytes))
      → (n : Machine) × ModuleStands L new.it new.device n × HappensAt L (setup_of L old.it) event reply (point_of L old m) (point_of L new n)
  asked event reply old new setup m s n step saved matches holds works issues moments =
      let guarded : IsGuarded n = guarded_event (setup_of L old.it) event reply (world_of L old m) (world_of L new n) step s.guarded in let lines : ℕ = lines_of_module L old.it in (
        n,
        record {
          matches = matches;
          holds = subst (λ (k : ℕ). Holds k n.store new.it.front.saves.saving new.device) (sym (same_lines old.it new.it setup)) holds;
          guarded = guarded;
          saved = counted event reply old new m s n step saved;
        },
        record {
          happens = record {
            step = step;
            meanwhile = weaker old.device new.device (λ bytes left. left guarded) moments;
            at_end = λ bytes left. left_after n guarded (restored lines bytes) (stop_now lines n.store new.it.front.saves.saving new.device holds bytes left);
            honest = λ honest backed. honest_event (setup_of L old.it) event reply (world_of L old m) (world_of L new n) step (known old.it old.device m s) honest backed;
          };
          works = works;
          issues = issues;
        },
      )

  -- the setup stays where the shape and the terms do
  pub same_setup : (old new : ChannelSet K L) (before after : LifeTerms) → shape_of L new ≡ shape_of L old → after ≡ before → ◌≡◌ {A = Setup} (record { shape = shape_of L new; trail = after.trail }) (record { shape = shape_of L old; trail = before.trail })
  same_setup old new before after shape terms = ap (λ (s : Shape). record { shape = s; trail = after.trail }) shape ∙ ap (λ (t : LifeTerms). record { shape = shape_of L old; trail = t.trail }) terms

  -- An event without a call of the device.
  pub alone : (event : Event) (reply : Reply) (old new : Module K L) (device : DeviceState) (before later : Gauge) → setup_of L new ≡ setup_of L old
      → Follows L (λ m n. MachineStep (setup_of L old) event reply (record { machine = m; device = device; gauge = before }) (record { machine = n; device = device; gauge = later })) old new
      → new.front.saved ≡ saved_after reply old.front.saved → marks reply ≡ false → ((m : Machine) → Matches L old m → WorksWhereDue L event reply (point_of L (assembly old device before) m)) → Issues L event reply old.channels new.channels → Answers L event reply (assembly old device before) (assembly new device later)
  alone event reply old new device before later setup follows saved unmarked works issues m s =
      let f = follows m s.matches in let n : Machine = f.later in let lines : ℕ = lines_of_module L old in
      asked event reply (assembly old device before) (assembly new device later) setup m s n f.step saved f.matches (holds_moved lines m.store device old.front.saves new.front.saves n.store f.moves s.matches.front.knows s.holds) (works m s.matches) issues
      (started {P = λ bytes. IsGuarded n → RecoversMeanwhile reply m n (restored lines bytes)} device (λ bytes left guarded.
      let outcome : Outcome = restored lines bytes in let was : IsAmong m.store.maybe outcome = stop_now lines m.store old.front.saves.saving device s.holds bytes left in
      left_before reply m n s.guarded outcome was (inl (subst (λ (b : Bool). IsAmong (if b then record m.store.maybe { any_arm = true } else m.store.maybe) outcome) (sym unmarked) was))))

  -- An event that changes nothing.
  pub unmoved : (event : Event) (reply : Reply) (it : Module K L) (device : DeviceState) (gauge : Gauge)
      → ((m : Machine) → Matches L it m → MachineStep (setup_of L it) event reply (record { machine = m; device = device; gauge = gauge }) (record { machine = m; device = device; gauge = gauge }))
      → it.front.saved ≡ saved_after reply it.front.saved → marks reply ≡ false → ((m : Machine) → Matches L it m → WorksWhereDue L event reply (point_of L (assembly it device gauge) m)) → Issues L event reply it.channels it.channels → Answers L event reply (assembly it device gauge) (assembly it device gauge)
  unmoved event reply it device gauge step saved unmarked works issues = alone event reply it it device gauge gauge refl (λ m h. record { later = m; step = step m h; matches = h; moves = inl (refl, refl) }) saved unmarked works issues

  -- Nothing but the reading and what waits has changed of a module.
  pub record StaysBut (old new : Module K L) : Type 0 where
    pub numbers : SameNumbers old.front new.front
    pub mode : new.front.mode ≡ old.front.mode
    pub saves : new.front.saves ≡ old.front.saves
    pub shape : shape_of L new.channels ≡ shape_of L old.channels

  matches_on : (old new : Module K L) (m : Machine) (reading : ℕ) (waits : Waits) → Matches L old m → StaysBut old new → new.front.reading ≡ reading → IsCarried L new.channels (record m { waits = waits })
      → Matches L new (record m { reading = reading; waits = waits })
  matches_on old new m reading waits h stays shown carried = search rules

  -- another reading
  pub reread : (old new : Module K L) (m : Machine) → Matches L old m → StaysBut old new → new.channels ≡ old.channels → Matches L new (read_as new.front.reading m)
  reread old new m h stays same = matches_on old new m new.front.reading m.waits h stays refl (subst (λ (c : ChannelSet K L). IsCarried L c m) (sym same) h.carried)

  -- An event after which something else waits, and nothing else is changed.
  pub waited : (event : Event) (reply : Reply) (old new : Module K L) (device : DeviceState) (gauge : Gauge) → StaysBut old new → new.front.reading ≡ old.front.reading
      → (view_of L new.channels).hold ≡ (view_of L old.channels).hold → KeepsAll L old.channels new.channels → new.front.saved ≡ saved_after reply old.front.saved → marks reply ≡ false → Issues L event reply old.channels new.channels
      → ((m : Machine) → Matches L old m → let later : Waits = (view_of L new.channels).waits in
      MachineStep (setup_of L old) event reply (record { machine = m; device = device; gauge = gauge }) (record { machine = record m { waits = later }; device = device; gauge = gauge })
      × ForSome (hold_of m.store.saving) (λ k. WaitsFrom k (all_of m) later.writes)
      × WorksWhereDue L event reply (point_of L (assembly old device gauge) m))
      → Answers L event reply (assembly old device gauge) (assembly new device gauge)
  waited event reply old new device gauge stays shown hold keeps saved unmarked issues told =
      alone event reply old new device gauge gauge (same_setup old.channels new.channels old.front.terms new.front.terms stays.shape stays.numbers.terms) (λ m h.
      let later : Waits = (view_of L new.channels).waits in let t = told m h in record {
        later = record m { waits = later };
        step = t.0;
        matches = matches_on old new m m.reading later h stays (shown ∙ h.front.reading) (record {
          carries = keeps (base_of_life m.life) (start_of_life m.life) m.life.writes h.carried.carries;
          waits = refl;
          hold = hold ∙ h.carried.hold;
          held = t.1;
        });
        moves = inl (refl, stays.saves);
      }) saved unmarked (λ m h. (told m h).2) issues
