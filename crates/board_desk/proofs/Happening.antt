-- An event of the machine for which a desk stands, by which the store stays as it is.
use Rattle.std.proofs.Common.{Option, None, Some, ap, arith, false, inr, subst, sym, length, ℕ, ◌++◌, ◌-◌, ◌∙◌, ◌≡◌, ◌≤◌}
use Rattle.std.specs.Option.{ForSome}
use Rattle.std.specs.Prelude.{◌≢◌}
use Rattle.line_memory.specs.History.{Recorded, recorded}
use Rattle.save_device.proofs.Moments.{started}
use Rattle.save_device.specs.Device.{DeviceState}
use Rattle.slot_store.specs.Outcomes.{restored}
use Rattle.slot_store.specs.Steps.{reach_of}
use Rattle.slot_store.specs.Rest.{IsAmong}
use Rattle.slot_store.specs.declared.plan.Step.TheVariants.{Done}
use Rattle.slot_store.specs.declared.saving.SaveRun.{SaveRun}
use Rattle.channel_locks.specs.declared.parts_name.PartsName.{Ghosts as PartsGhosts}
use Rattle.channel_set.specs.declared.terms.PortTerms.{PortTerms}
use Rattle.channel_port.specs.Shape.{IsShape}
use Rattle.module_saves.specs.Device.{Holds, HoldsWhile}
use Rattle.module_saves.specs.declared.saves.Saves.{Saves}
use Rattle.nv_machine.specs.declared.events.Event.{Event}
use Rattle.nv_machine.specs.declared.events.Reply.{Reply}
use Rattle.nv_machine.specs.Guard.{IsGuarded}
use Rattle.nv_machine.specs.Headline.{Happens, RecoversMeanwhile, marks}
use Rattle.nv_machine.specs.Machine.{MachineStep}
use Rattle.nv_machine.specs.Rising.{added}
use Rattle.nv_machine.specs.State.{hold_of, Machine, RunningSave, Store, start_of_life, stored_base, stored_writes}
use Rattle.nv_machine.proofs.Backing.{IsKnown}
use Rattle.nv_machine.proofs.EachEvent.{KeepsLife, event_keeps, guarded_event}
use Rattle.nv_machine.proofs.Guarded.{cut_below}
use Rattle.nv_machine.proofs.HonestEvents.{honest_event}
use Rattle.nv_machine.proofs.Leaving.{left_after, left_before}
use Rattle.board_hosts.proofs.Stored.{stored_grows}
use Rattle.save_image.specs.Image.{Image}
use Rattle.split_module.specs.Lending.{SplitStands}
use Rattle.board_desk.proofs.Settled.{leaves}
use Rattle.board_desk.specs.Desk.{AreBoardLogs, DeskStands, DeskView, setup_at, shape_at, world_at}
use Rattle.board_hosts.proofs.Living.{lived_event}
use Rattle.nv_machine.specs.Lives.{LivedUntil}

-- the step of a save that runs is one that the lines have, and comes still
reaches : (lines : ℕ) (s : Store) (saving : Option RunningSave) (run : Option SaveRun) (device : DeviceState) → HoldsWhile saving run lines s device → ForSome saving (λ save. reach_of save.next ≤ lines)
reaches lines s None run device holds save is = absurd cc
reaches lines s (Some it) (Some run) device holds save is = grind (arith, is, holds.next, holds.plan.lines_are, run.place)
reaches lines s (Some it) None device holds save is = absurd holds

goes_on : (lines : ℕ) (s : Store) (saving : Option RunningSave) (run : Option SaveRun) (device : DeviceState) → HoldsWhile saving run lines s device → ForSome saving (λ save. save.next ≢ Done)
goes_on lines s None run device holds save is = absurd cc
goes_on lines s (Some it) (Some run) device holds save is = grind (arith, is, holds.going)
goes_on lines s (Some it) None device holds save is = absurd holds

module _ {B : Type 0} (P : PartsGhosts B) (old : DeskView) (m : Machine) (s : DeskStands P old m) (shape : IsShape (shape_at P old)) where
  known : IsKnown (setup_at P old) m
  known = record {
    shape = shape;
    guarded = s.guarded;
    place = reaches P.make.lines m.store m.store.saving old.split.front.saves.saving old.device s.holds;
    going = goes_on P.make.lines m.store m.store.saving old.split.front.saves.saving old.device s.holds;
  }

  -- what is stored begins within the life
  begins_within : m.cut - start_of_life m.life ≤ length m.life.writes
  begins_within =
      let opened = (cut_below m s.guarded).opened in
      let front = old.split.front in
      let stored = front.stored in
      let settled = front.settled in
      let matches = s.stands.matches in
      let cut = matches.cut in
      let accepted = matches.accepted in
      omega (arith, opened, stored, settled, cut, accepted)

  module _ (event : Event) (reply : Reply) (unmarked : marks reply ≡ false) (n : Machine) (step : MachineStep (setup_at P old) event reply (world_at old m) (world_at old n)) (store : n.store ≡ m.store)
      (cut : n.cut ≡ m.cut) where
    guarded : IsGuarded n
    guarded = guarded_event (setup_at P old) event reply (world_at old m) (world_at old n) step s.guarded

    keeps : KeepsLife event reply m n
    keeps = event_keeps (setup_at P old) event reply (world_at old m) (world_at old n) step s.guarded

    pub happens : Happens (setup_at P old) event reply (world_at old m) (world_at old n)
    happens = record {
      step = step;
      meanwhile = started {P = λ bytes. RecoversMeanwhile reply m n (restored P.make.lines bytes)} old.device
          (λ bytes left.
          let was = leaves P old m s bytes left in
          left_before reply m n s.guarded (restored P.make.lines bytes) was (inr (subst (λ (x : Store). IsAmong x.maybe (restored P.make.lines bytes)) (sym store) was)));
      at_end = λ bytes left. left_after n guarded (restored P.make.lines bytes) (subst (λ (x : Store). IsAmong x.maybe (restored P.make.lines bytes)) (sym store) (leaves P old m s bytes left));
      honest = λ honest backed. honest_event (setup_at P old) event reply (world_at old m) (world_at old n) step known honest backed;
    }

    module _ (new : DeskView) (setup : setup_at P new ≡ setup_at P old) (saves : new.split.front.saves ≡ old.split.front.saves) (saved : new.split.front.saved ≡ old.split.front.saved) (ports : new.terms ≡ old.terms) (device : new.device ≡ old.device)
        (gauge : new.gauge ≡ old.gauge) (history : new.history ≡ record old.history { writes = old.history.writes ++ added event reply }) where
      same_world : world_at old n ≡ world_at new n
      same_world = ap (λ (d : DeviceState). record (world_at old n) { device = d }) (sym device) ∙ ap (λ g. record (world_at new n) { gauge = g }) (sym gauge)

      stored : new.history ≡ recorded (stored_base n) n.cut (stored_writes n) new.history.room
      stored =
          let room : ℕ = old.history.room in
          let grows = stored_grows m n (added event reply) room cut keeps.opened keeps.writes begins_within in
          let whole : new.history ≡ recorded (stored_base n) n.cut (stored_writes n) room =
          history ∙ ap (λ (h : Recorded). record h { writes = h.writes ++ added event reply }) s.stored ∙ sym grows in
          whole ∙ ap (λ (r : ℕ). recorded (stored_base n) n.cut (stored_writes n) r) (sym (ap (λ (h : Recorded). h.room) whole))

      pub stands_after : SplitStands (shape_at P new) new.logs new.split n → AreBoardLogs P.ports new.logs → DeskStands P new n
      stands_after stands logs = record {
        stands = stands;
        logs_are = logs;
        hold = ap (λ (t : PortTerms). t.hold) ports ∙ s.hold ∙ ap (λ (x : Store). hold_of x.saving) (sym store);
        holds = subst (λ (x : Store). Holds P.make.lines x new.split.front.saves.saving new.device) (sym store)
            (subst (λ (x : Saves). Holds P.make.lines m.store x.saving new.device) (sym saves) (subst (λ (d : DeviceState). Holds P.make.lines m.store old.split.front.saves.saving d) (sym device) s.holds));
        guarded = guarded;
        saved = saved ∙ s.saved ∙ ap (λ (x : Store). x.maybe.newest.count) (sym store);
        stored = stored;
        base = ap (λ (i : Image). i.memory) keeps.opened ∙ s.base;
        lived = subst (λ x. LivedUntil x (world_at new n)) (sym setup) (subst (LivedUntil (setup_at P old)) same_world (lived_event (setup_at P old) (world_at old m) (world_at old n) s.lived event reply happens));
      }

      -- the event, with what is known of the device and of the gauge then
      pub happens_new : Happens (setup_at P old) event reply (world_at old m) (world_at new n)
      happens_new = subst (Happens (setup_at P old) event reply (world_at old m)) same_world happens
