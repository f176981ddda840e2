-- The loss of mains: the module and its device afterwards.
use Rattle.arm_state.specs.declared.loss.Loss.{Loss}
use Rattle.channel_set.specs.Carrying.{CarriesAll, KeepsAll}
use Rattle.channel_set.specs.Issuing.{IssuesNone}
use Rattle.channel_set.specs.declared.set.ChannelSet.{ChannelSet}
use Rattle.line_memory.specs.declared.Write.{Write}
use Rattle.module_core.specs.Drained.{ClosesChannels, ClosingAt, closing_at}
use Rattle.module_core.specs.Fronts.{SameNumbers}
use Rattle.module_core.specs.Draining.{AreDrainedFrom, EndsHoldAndReads}
use Rattle.module_core.specs.Issuing.{IssuesAtLoss}
use Rattle.module_core.specs.Stands.{EndsMains, saved_after}
use Rattle.slot_store.specs.Finishing.{Finish}
use Rattle.slot_store.specs.declared.source.BrokenOff.{BrokenOff}
use Rattle.nv_machine.proofs.GuardLaws.{for_none, for_one}
use Rattle.slot_store.specs.Runs.{tried_of}
use Rattle.std.specs.Option.{ForSome}
use Rattle.channel_port.specs.Draining.{DrainOrder}
use Rattle.nv_machine.proofs.EachEvent.{guarded_event}
use Rattle.nv_machine.proofs.Leaving.{left_within}
use Rattle.nv_machine.specs.Guard.{IsGuarded}
use Rattle.nv_machine.specs.Losses.{LoseStep}
use Rattle.arm_state.specs.declared.loss.Loss.TheVariants as loss
use Rattle.arm_state.specs.declared.mode.Mode.TheVariants as modes
use Rattle.slot_store.specs.declared.source.BrokenOff.TheVariants as broken
use Rattle.nv_machine.specs.declared.events.Event.TheVariants as events
use Rattle.nv_machine.specs.declared.events.Reply.TheVariants as replies
use Rattle.module_core.proofs.Common.{[], ℕ, ◌∙◌, ◌≡◌, Assembly, BeginsSave, ChannelsView, DeviceState, Err, Gauge, GaugeCall, Ghosts, Holds, HoldsWhile, Image, IsAmong, IsMemory, IsReadyToClose, IsResting, List, Machine, Matches, Mode, Module, ModuleStands, Newest, None, Ok, Option, ReachesStore, ReadsLevel, SaveRun, Shape, Some, StopsWithin, Store, Waits, after, ap, assembly, base_of_life, begun, begun_save, false, has_ended, hold_of, inl, is_backed, lines_of_module, made_of, memory_of, present, refl, restored, rules, saved_in, saves_at, setup_of, shape_of, start_of_life, started, subst, sym, true, view_of, weaker, world_of}
use Rattle.module_core.specs.Losing.{AnswersLoss}
use Rattle.module_core.proofs.Applying.{asked, counted, issues_none, same_lines, same_setup, unissued, unmoved}
use Rattle.module_saves.proofs.Knowing.{holds_begun}
use Rattle.module_core.proofs.LossSteps.{all_saved, dark, fault, saved_on}
use Rattle.module_saves.proofs.RunningSaves.{holds_runs}
use Rattle.module_saves.proofs.StoreSteps.{at_rest, stop_now}

-- neither ended nor backed
disarmed_mode : (mode : Mode) → has_ended mode ≡ false → is_backed mode ≡ false → mode ≡ modes.Disarmed
disarmed_mode mode on calm = search rules

-- ended, and backed
pub ended_unbacked : (mode : Mode) → has_ended mode ≡ true → is_backed mode ≡ true → ⊥
ended_unbacked modes.Disarmed ended backed = cc
ended_unbacked modes.Armed ended backed = cc
ended_unbacked modes.Disarming ended backed = cc
ended_unbacked modes.Stranded ended backed = cc
ended_unbacked modes.Closing ended backed = cc
ended_unbacked modes.Saved ended backed = cc

module _ {K : Type 0} (L : Ghosts K) where
  -- Mains were lost after this reading; the life goes no further.
  pub record IsLost (old new : Module K L) (reading : ℕ) (mode : Mode) : Type 0 where
    pub numbers : SameNumbers old.front new.front
    pub shown : new.front.reading ≡ reading
    pub mode_is : new.front.mode ≡ mode
    pub keeps : KeepsAll L old.channels new.channels
    pub shape : shape_of L new.channels ≡ shape_of L old.channels
    pub hold : (view_of L new.channels).hold ≡ None

  -- the hold ends, then all reads are lost
  pub loses_reads : (old mid new : ChannelSet K L) → view_of L mid ≡ record (view_of L old) { hold = None } → (view_of L new).waits ≡ record (view_of L mid).waits { reads = [] }
      → view_of L new ≡ record (view_of L mid) { waits = (view_of L new).waits } → IssuesNone L old mid → IssuesNone L mid new → KeepsAll L old mid → KeepsAll L mid new → EndsHoldAndReads L old new
  loses_reads old mid new held reads rest none nothing first second = record {
    is = rest ∙ ap (λ (w : Waits). record (view_of L mid) { waits = w }) reads ∙ ap (λ (v : ChannelsView). record v { waits = record v.waits { reads = [] } }) held;
    issued = issues_none L old mid new none nothing;
    keeps = λ base start writes carries. second base start writes (first base start writes carries);
  }

  -- where mains were lost before
  pub answers_closed : (order : DrainOrder) (it : Module K L) (device : DeviceState) (gauge : Gauge) → has_ended it.front.mode ≡ true → (m : Machine) → ModuleStands L it device m
      → AnswersLoss L order loss.Closed (assembly it device gauge) (assembly it device gauge) m
  answers_closed order it device gauge ended m stands = record {
    answers = unmoved L events.Lose (replies.Lose loss.Closed) it device gauge (λ n h. (order, (ap has_ended (sym h.front.mode) ∙ ended, refl))) refl refl (λ n h. tt) (unissued L it.channels) m stands;
    loses = (m, stands, (ap has_ended (sym stands.matches.front.mode) ∙ ended, refl));
  }

  module _ (old : Assembly L) (m : Machine) (stands : ModuleStands L old.it old.device m) where
    -- before the first drain
    ready : (begun : Module K L) (reading : ℕ) → EndsMains L reading old.it begun → BeginsSave old.it.front.saves old.it.front.accepted false (lines_of_module L old.it) begun.front.saves
        → IsReadyToClose (lines_of_module L begun) m.store (made_of false m) begun.front.saves old.device
    ready begun reading ends begins =
        let h = stands.matches in let made : Image = made_of false m in let s : Store = m.store in let lines : ℕ = lines_of_module L old.it in
        let all : BeginsSave old.it.front.saves made.count false lines begun.front.saves = subst (λ (k : ℕ). BeginsSave old.it.front.saves k false lines begun.front.saves) h.front.accepted begins in
        let same : lines_of_module L begun ≡ lines = ap (λ (v : ChannelsView). v.shape.lines) ends.channels.is in
        record {
          knows = record {
            slot = ap (λ (x : Newest). x.slot) all.newest ∙ h.front.knows.slot;
            generation = ap (λ (x : Newest). x.generation) all.newest ∙ h.front.knows.generation;
            shut = all.closed ∙ h.front.knows.shut;
            open_end = all.unsettled ∙ h.front.knows.open_end;
          };
          holds = subst (λ (k : ℕ). HoldsWhile (Some (begun_save made)) begun.front.saves.saving k (record s { saving = Some (begun_save made) }) old.device) (sym same)
              (holds_begun lines s old.device old.it.front.saves.saving old.it.front.saves begun.front.saves made false stands.holds h.front.knows all refl refl h.memory);
          untried = subst (λ (o : Option SaveRun). ForSome o (λ run. tried_of run ≡ false)) (sym all.runs) (for_one all.run (λ run. tried_of run ≡ false) all.begun.untried);
        }

    here : StopsWithin (λ bytes. IsAmong m.store.maybe (restored (lines_of_module L old.it) bytes)) (present old.device)
    here bytes left = stop_now (lines_of_module L old.it) m.store old.it.front.saves.saving old.device stands.holds bytes left

    -- afterwards
    module _ (new : Assembly L) (reading : ℕ) (mode : Mode) (ended : has_ended mode ≡ true) (lost : IsLost old.it new.it reading mode) (reply : Loss) (store : Store) (none : store.saving ≡ None)
        (makes : ReachesStore (lines_of_module L old.it) m.store store old.device new.it.front.saves new.device) where
      abbrev after_loss : Machine
      after_loss = record { mode = mode; reading = reading; lost = Some reply; life = m.life; cut = m.cut; waits = (view_of L new.it.channels).waits; store = store }

      matches : Matches L new.it after_loss
      matches =
          let h = stands.matches in
          record {
            front = record {
              mode = lost.mode_is;
              reading = lost.shown;
              start = ap (λ t. t.start) lost.numbers.terms ∙ h.front.start;
              cut = ap (λ t. t.cut) lost.numbers.terms ∙ h.front.cut;
              accepted = lost.numbers.accepted ∙ h.front.accepted;
              persisted = lost.numbers.persisted ∙ h.front.persisted;
              knows = makes.knows;
              saving = holds_runs (lines_of_module L old.it) store new.device store.saving new.it.front.saves.saving makes.holds;
            };
            memory = subst (λ (s : Shape). IsMemory s.lines (memory_of m)) (sym lost.shape) h.memory;
            carried = record {
              carries = lost.keeps (base_of_life m.life) (start_of_life m.life) m.life.writes h.carried.carries;
              waits = refl;
              hold = lost.hold ∙ sym (ap hold_of none);
              held = for_none (hold_of store.saving) _ (ap hold_of none);
            };
          }

      answers_loss : (order : DrainOrder) → IssuesAtLoss L reply old.it.channels new.it.channels → new.it.front.saved ≡ saved_after (replies.Lose reply) old.it.front.saved → LoseStep order (setup_of L old.it) reply (world_of L old m) (world_of L new after_loss) → AnswersLoss L order reply old new m
      answers_loss order issues saved step =
          let same = same_setup L old.it.channels new.it.channels old.it.front.terms new.it.front.terms lost.shape lost.numbers.terms in
          let guarded : IsGuarded after_loss = guarded_event (setup_of L old.it) events.Lose (replies.Lose reply) (world_of L old m) (world_of L new after_loss) (order, step) stands.guarded in
          record {
            answers =
                asked L events.Lose (replies.Lose reply) old new same m stands after_loss (order, step) saved matches makes.holds tt issues
                (weaker old.device new.device (λ bytes either guarded.
                left_within (setup_of L old.it) events.Lose (replies.Lose reply) (world_of L old m) (world_of L new after_loss) (order, step) stands.guarded refl refl (restored (lines_of_module L old.it) bytes) either)
                makes.moments);
            loses = (
              after_loss,
              record { matches = matches; holds = subst (λ (k : ℕ). Holds k store new.it.front.saves.saving new.device) (sym (same_lines L old.it new.it same)) makes.holds; guarded = guarded; saved = counted L events.Lose (replies.Lose reply) old new m stands after_loss (order, step) saved },
              step,
            );
          }

    -- where nothing is backed nothing is saved
    pub answers_unsaved : (order : DrainOrder) (new : Module K L) → EndsMains L old.it.front.reading old.it new → new.front.saves.saving ≡ None → new.front.saves.newest ≡ old.it.front.saves.newest → new.front.saves.closed ≡ old.it.front.saves.closed → new.front.saves.unsettled ≡ old.it.front.saves.unsettled
        → has_ended m.mode ≡ false → is_backed m.mode ≡ false → AnswersLoss L order loss.Unsaved old (assembly new old.device old.gauge) m
    answers_unsaved order new ends none newest closed unsettled on calm =
        let h = stands.matches in let lines : ℕ = lines_of_module L old.it in let store : Store = record m.store { saving = None } in
        let lost : IsLost old.it new m.reading modes.Closing = record {
          numbers = ends.numbers;
          shown = ends.shown ∙ h.front.reading;
          mode_is = ends.mode;
          keeps = ends.channels.keeps;
          shape = ap (λ (v : ChannelsView). v.shape) ends.channels.is;
          hold = ap (λ (v : ChannelsView). v.hold) ends.channels.is;
        } in
        let rest : IsResting lines m.store old.device = at_rest lines m.store old.device m.store.saving old.it.front.saves.saving stands.holds in
        let rests : IsResting lines store old.device = record { candidates = rest.candidates; image = rest.image; newest = rest.newest; rest = rest.rest; among = rest.among } in
        let makes : ReachesStore lines m.store store old.device new.front.saves old.device = record {
          knows = record {
            slot = ap (λ (x : Newest). x.slot) newest ∙ h.front.knows.slot;
            generation = ap (λ (x : Newest). x.generation) newest ∙ h.front.knows.generation;
            shut = closed ∙ h.front.knows.shut;
            open_end = unsettled ∙ h.front.knows.open_end;
          };
          holds = subst (λ (o : Option SaveRun). HoldsWhile None o lines store old.device) (sym none) rests;
          moments = started old.device (λ bytes left. inl (here bytes left));
        } in
        let waits : (view_of L new.channels).waits ≡ record m.waits { reads = [] } = ap (λ (v : ChannelsView). v.waits) ends.channels.is ∙ ap (λ (w : Waits). record w { reads = [] }) h.carried.waits in
        answers_loss (assembly new old.device old.gauge) m.reading modes.Closing refl lost loss.Unsaved store refl makes order ends.channels.issued ends.saved (
          disarmed_mode m.mode on calm,
          ap (λ (w : Waits). record { machine = record { mode = modes.Closing; reading = m.reading; lost = Some loss.Unsaved; life = m.life; cut = m.cut; waits = w; store = store }; device = old.device; gauge = old.gauge }) waits,
        )

    -- After a tick a save of all was begun; then the channels were drained and the save was made, or both were broken off.
    module _ (order : DrainOrder) (on : is_backed old.it.front.mode ≡ true) (reading : ℕ) (ticked : Gauge) (reads : ReadsLevel GaugeCall.Tick old.gauge reading ticked) (begun : Module K L) (ends : EndsMains L reading old.it begun)
        (begins : BeginsSave old.it.front.saves old.it.front.accepted false (lines_of_module L old.it) begun.front.saves)
        (new : Assembly L) (numbers : SameNumbers begun.front new.it.front) (shown : new.it.front.reading ≡ begun.front.reading) (keeps : KeepsAll L begun.channels new.it.channels) where
      abbrev emptied : ChannelsView
      emptied = record (view_of L old.it.channels) { hold = None; waits = record (view_of L old.it.channels).waits { reads = [] } }

      abbrev first : ClosingAt
      first = record { channels = emptied; at = saves_at begun.front.saves old.device ticked }

      -- what closing ensures
      abbrev Closes : Finish → Type 0
      Closes result =
          (s : Store) (made : Image) (base : List (List ℕ)) (start : ℕ) (writes : List Write) → IsReadyToClose (lines_of_module L begun) s made begun.front.saves old.device → CarriesAll L begun.channels base start writes
          → after base writes ≡ made.memory → ClosesChannels order s made result (closing_at (assembly begun old.device ticked)) (closing_at new)

      abbrev Answered : Loss → Type 0
      Answered reply = AnswersLoss L order reply old new m

      closed : (result : Finish) → Closes result → ClosesChannels order m.store (made_of false m) result first (closing_at new)
      closed result closes =
          subst (λ (v : ChannelsView). ClosesChannels order m.store (made_of false m) result (record { channels = v; at = saves_at begun.front.saves old.device ticked }) (closing_at new)) ends.channels.is
          (closes m.store (made_of false m) (base_of_life m.life) (start_of_life m.life) m.life.writes (ready begun reading ends begins)
          (ends.channels.keeps (base_of_life m.life) (start_of_life m.life) m.life.writes stands.matches.carried.carries) refl)

      backed : is_backed m.mode ≡ true
      backed = ap is_backed (sym stands.matches.front.mode) ∙ on

      writes : emptied.waits.writes ≡ m.waits.writes
      writes = ap (λ (w : Waits). w.writes) stands.matches.carried.waits

      tickets : emptied.waits.given ≡ m.waits.given
      tickets = ap (λ (w : Waits). w.given) stands.matches.carried.waits

      lost : (mode : Mode) → new.it.front.mode ≡ mode → view_of L new.it.channels ≡ record emptied { waits = (view_of L new.it.channels).waits; array = (view_of L new.it.channels).array } → IsLost old.it new.it reading mode
      lost mode is rest = record {
        numbers = record { terms = numbers.terms ∙ ends.numbers.terms; accepted = numbers.accepted ∙ ends.numbers.accepted; persisted = numbers.persisted ∙ ends.numbers.persisted };
        shown = shown ∙ ends.shown;
        mode_is = is;
        keeps = λ base start all carries. keeps base start all (ends.channels.keeps base start all carries);
        shape = ap (λ (v : ChannelsView). v.shape) rest;
        hold = ap (λ (v : ChannelsView). v.hold) rest;
      }

      pub answers_saved : AreDrainedFrom L old.it.channels new.it.channels → new.it.front.mode ≡ modes.Saved → new.it.front.saved ≡ new.it.front.accepted → Closes (Ok tt) → Answered (loss.Saved new.it.front.saves.newest.generation new.it.front.accepted)
      answers_saved drained is saved closes =
          let on = saved_on order old.it.front.terms.trail m old.gauge reading first (closing_at new) reads backed writes refl tickets (closed (Ok tt) closes) in let reply : Loss = loss.Saved new.it.front.saves.newest.generation new.it.front.accepted in
          answers_loss new reading modes.Saved refl (lost modes.Saved is on.1.rest) reply (saved_in m.store (made_of false m)) refl on.2.makes order drained saved
          (all_saved order old.it.front.terms.trail m old.gauge reading first (closing_at new) reads backed writes refl tickets new.it.front.saves.newest.generation new.it.front.accepted on.2.makes.knows.generation
          (numbers.accepted ∙ ends.numbers.accepted ∙ stands.matches.front.accepted) on.0 on.1 on.2)

      pub answers_dark : new.it.front.mode ≡ begun.front.mode → new.it.front.saved ≡ begun.front.saved → (cause : BrokenOff) → cause ≡ broken.Refused → Closes (Err cause) → Answered loss.Dark
      answers_dark is saved cause why closes =
          let short = dark order old.it.front.terms.trail m old.gauge reading first (closing_at new) reads backed writes refl tickets here (closed (Err broken.Refused) (subst (λ (x : BrokenOff). Closes (Err x)) why closes)) in
          answers_loss new reading modes.Closing refl (lost modes.Closing (is ∙ ends.mode) short.rest) loss.Dark short.store short.none short.makes order tt (saved ∙ ends.saved) short.step

      pub answers_fault : AreDrainedFrom L old.it.channels new.it.channels → new.it.front.mode ≡ begun.front.mode → new.it.front.saved ≡ begun.front.saved → (cause : BrokenOff) → cause ≡ broken.Fault → Closes (Err cause) → Answered loss.Fault
      answers_fault drained is saved cause why closes =
          let short = fault order old.it.front.terms.trail m old.gauge reading first (closing_at new) reads backed writes refl tickets (closed (Err broken.Fault) (subst (λ (x : BrokenOff). Closes (Err x)) why closes)) in
          answers_loss new reading modes.Closing refl (lost modes.Closing (is ∙ ends.mode) short.rest) loss.Fault short.store short.none short.makes order drained (saved ∙ ends.saved) short.step
