-- The loss of mains.
use Rattle.std.specs.Prelude.{◌≡◌, ◌⊎◌, ℕ, ◌+◌, ◌≤◌, Bool, true, false, List, [], ◌++◌, drop, length, take, slice_get, Ok, Err, Some, None}
use Rattle.save_device.specs.declared.calls.CallKind.{CallKind}
use Rattle.slot_store.specs.declared.plan.Step.TheVariants.{Close}
use Rattle.slot_store.specs.Steps.{calls_left}
use Rattle.slot_store.specs.Tries.{goods, fails, is_failed, tried, calls_tried}
use Rattle.arm_state.specs.declared.mode.Mode.TheVariants as modes
use Rattle.arm_state.specs.Modes.{is_backed, has_ended}
use Rattle.energy_budget.specs.declared.action.Action.{Action}
use Rattle.energy_budget.specs.declared.energy.Dark.{Dark}
use Rattle.std.specs.List.{flat_map, sum_by}
use Rattle.energy_budget.specs.Actions.{drain_actions, save_actions, total_cost}
use Rattle.energy_budget.specs.declared.energy.GaugeCall.TheVariants.{Tick}
use Rattle.energy_budget.specs.Gauge.{Gauge, ReadsLevel, PaysCost}
use Rattle.channel_port.specs.Waits.{Remain, emptied}
use Rattle.channel_port.specs.Draining.{DrainOrder, PaysTogether, each_alone, entries_in, payments_in, pending_each}
use Rattle.arm_state.specs.declared.loss.Loss.{Loss}
use Rattle.arm_state.specs.declared.loss.Loss.TheVariants as loss
use Rattle.nv_machine.specs.State.{Setup, Machine, World, made_of}
use Rattle.nv_machine.specs.Moves.{step_failed, broken_off, saved_in, closed_unsaved, after_steps}

-- how many writes wait in each channel
abbrev pub pending_in : Setup → Machine → List ℕ
pending_in setup m = pending_each setup.shape.channels m.waits.writes

-- the drains of all channels in rising order
abbrev pub drains_of : Setup → Machine → List Action
drains_of setup m = flat_map drain_actions (pending_in setup m)

-- the steps of the save that follows
abbrev pub steps_of : Setup → List Action
steps_of setup = save_actions setup.shape.costs.pages

-- The payments of the closing save, where the tries of its steps ended so: those of the drains, and then one for each try of a
-- step.
abbrev pub payments_of : DrainOrder → Setup → Machine → List Bool → List (List Action)
payments_of order setup m tries = payments_in order (drains_of setup m) ++ each_alone (tried (steps_of setup) tries)

-- the device calls of its save
abbrev pub save_calls : Setup → Machine → List CallKind
save_calls setup m = calls_left m.store.closed setup.shape.lines Close

-- Mains were lost while the machine was backed. In place of a save that runs one of all accepted writes, which isn't armed,
-- makes some of its steps. All reads are lost, and of the writes none waits that did not.
pub record LosesMains (loss : Loss) (old new : Machine) : Type 0 where
  pub backed : is_backed old.mode ≡ true
  pub answered : new.lost ≡ Some loss
  pub rest : new ≡ record old { mode = new.mode; reading = new.reading; lost = new.lost; waits = new.waits; store = new.store }
  pub reads : new.waits.reads ≡ []
  pub given : new.waits.given ≡ old.waits.given
  pub writes : Remain old.waits.writes new.waits.writes
  pub ended : new.store.saving ≡ None

-- The gauge was read once, and these payments of the closing save were made in turn.
pub record PaysFirst (setup : Setup) (old : World) (reading : ℕ) (paid : List (List Action)) (gauge : Gauge) : Type 0 where
  pub ticked : Gauge
  pub reads : ReadsLevel Tick old.gauge reading ticked
  pub pays : PaysTogether setup.shape.costs paid ticked (Ok tt) gauge

-- All was saved, each action paid for first, also a step that was made again.
pub record SavesAll (order : DrainOrder) (setup : Setup) (generation count : ℕ) (old new : World) : Type 0 where
  pub closes : LosesMains (loss.Saved generation count) old.machine new.machine
  pub mode : new.machine.mode ≡ modes.Saved
  pub generation_is : generation ≡ (made_of false old.machine).generation
  pub count_is : count ≡ (made_of false old.machine).count
  pub drained : new.machine.waits ≡ emptied old.machine.waits
  pub saved : new.machine.store ≡ saved_in old.machine.store (made_of false old.machine)
  pub tries : List Bool
  pub few : fails tries ≤ setup.shape.costs.retries
  pub whole : goods tries ≡ length (save_calls setup old.machine)
  pub pays : PaysFirst setup old new.machine.reading (payments_of order setup old.machine tries) new.gauge
  pub calls : new.device.calls ≡ old.device.calls ++ calls_tried (save_calls setup old.machine) tries

-- These payments were made, and this one comes next: none of the save's before the drains are done.
abbrev pub ComesNext : DrainOrder → Setup → Machine → List Bool → List (List Action) → List Action → Type 0
ComesNext order setup m tries paid coming =
    let drains = payments_in order (drains_of setup m) in
    ((tries ≡ []) × ((k : ℕ) × (paid ≡ take k drains) × (slice_get drains k ≡ Some coming)))
    ⊎ ((paid ≡ payments_of order setup m tries) × (slice_get (each_alone (steps_of setup)) (goods tries) ≡ Some coming))

-- A payment was refused, and nothing ran after it: each action that was paid for was made, but for a step in which the device
-- failed. For each entry among them one write waits no more, from the first channel on, and in each the oldest first.
pub record EndsDark (order : DrainOrder) (setup : Setup) (old new : World) : Type 0 where
  pub closes : LosesMains loss.Dark old.machine new.machine
  pub mode : new.machine.mode ≡ modes.Closing
  pub tries : List Bool
  pub few : fails tries ≤ setup.shape.costs.retries
  pub paid : List (List Action)
  pub coming : List Action
  pub comes : ComesNext order setup old.machine tries paid coming
  pub mid : Gauge
  pub pays : PaysFirst setup old new.machine.reading paid mid
  pub answer : Dark
  pub refused : PaysCost mid (total_cost setup.shape.costs coming) (Err answer) new.gauge
  pub left : new.machine.waits.writes ≡ drop (sum_by entries_in paid) old.machine.waits.writes
  pub saved : let before = after_steps setup.shape.lines old.machine.store (made_of false old.machine) (goods tries) in
      new.machine.store ≡ broken_off before.store (made_of false old.machine) before.next (is_failed false tries)
  pub calls : new.device.calls ≡ old.device.calls ++ calls_tried (save_calls setup old.machine) tries

-- The device failed in a step of the save, once more than steps may be made again, and nothing ran after it: each action so far
-- was paid for. The channels were drained before, so no write waits.
pub record EndsInFault (order : DrainOrder) (setup : Setup) (old new : World) : Type 0 where
  pub closes : LosesMains loss.Fault old.machine new.machine
  pub mode : new.machine.mode ≡ modes.Closing
  pub drained : new.machine.waits ≡ emptied old.machine.waits
  pub tries : List Bool
  pub few : fails tries ≡ setup.shape.costs.retries + 1
  pub last : is_failed false tries ≡ true
  pub pays : PaysFirst setup old new.machine.reading (payments_of order setup old.machine tries) new.gauge
  pub saved : let before = after_steps setup.shape.lines old.machine.store (made_of false old.machine) (goods tries) in
      new.machine.store ≡ step_failed before.store (made_of false old.machine) before.next
  pub failed : CallKind
  pub comes : slice_get (save_calls setup old.machine) (goods tries) ≡ Some failed
  pub calls : new.device.calls ≡ old.device.calls ++ calls_tried (save_calls setup old.machine) tries

-- a loss whose channels are drained in this order
abbrev pub LoseStep : DrainOrder → Setup → Loss → World → World → Type 0
LoseStep order setup loss.Closed old new = (has_ended old.machine.mode ≡ true) × (new ≡ old)
LoseStep order setup loss.Unsaved old new = (old.machine.mode ≡ modes.Disarmed) × (new ≡ record old { machine = closed_unsaved old.machine })
LoseStep order setup (loss.Saved generation count) old new = SavesAll order setup generation count old new
LoseStep order setup loss.Dark old new = EndsDark order setup old new
LoseStep order setup loss.Fault old new = EndsInFault order setup old new
