-- A closing save: each step of it is paid for first.
use Rattle.std.specs.Prelude.{◌≡◌, ℕ, ◌<◌, Bool, false, List, ◌++◌, length, slice_get, Result, Ok, Err, Some, MatchResult}
use Rattle.std.specs.Option.{ForSome}
use Rattle.save_device.specs.declared.calls.CallKind.{CallKind}
use Rattle.save_device.specs.Device.{DeviceState}
use Rattle.save_image.specs.Image.{Image}
use Rattle.slot_store.specs.declared.plan.Step.{Step}
use Rattle.slot_store.specs.declared.plan.Step.TheVariants.{Close, Header, Page, Open}
use Rattle.slot_store.specs.Steps.{calls_left}
use Rattle.slot_store.specs.Finishing.{Finish}
use Rattle.slot_store.specs.Repeating.{FailsWithin}
use Rattle.slot_store.specs.Runs.{tried_of}
use Rattle.slot_store.specs.Tries.{goods, is_failed, tried, calls_tried}
use Rattle.energy_budget.specs.declared.action.Action.{Action}
use Rattle.energy_budget.specs.declared.action.Action.TheVariants as actions
use Rattle.energy_budget.specs.declared.costs.Costs.{Costs}
use Rattle.energy_budget.specs.declared.energy.Dark.{Dark}
use Rattle.energy_budget.specs.Actions.{cost_of, save_actions}
use Rattle.energy_budget.specs.Gauge.{Gauge, PaysCost}
use Rattle.channel_port.specs.declared.port.ChannelPort.{Ghosts}
use Rattle.channel_port.specs.Shape.{Shape}
use Rattle.channel_set.specs.Set.{ChannelsView, shape_of}
use Rattle.channel_port.specs.Draining.{PaysInTurn}
use Rattle.slot_store.specs.declared.source.BrokenOff.TheVariants as broken
use Rattle.slot_store.specs.declared.source.Refused.{Refused}
use Rattle.slot_store.specs.declared.source.SaveSource
use Rattle.module_saves.specs.declared.closing.PaidArrays.{PaidArrays}
use Rattle.module_saves.specs.declared.saves.Saves.{Saves}
use Rattle.nv_machine.specs.State.{Store, begun_save}
use Rattle.nv_machine.specs.Moves.{broken_off, saved_in, after_steps}
use Rattle.module_saves.specs.Device.{Holds}
use Rattle.module_saves.specs.Saving.{Knows}
use Rattle.module_saves.specs.Saves.{ReachesStore}

-- what is paid for a step of a save
abbrev pub action_of : Step → Action
action_of Close = actions.CloseGate
action_of Header = actions.WriteHeader
action_of (Page k) = actions.WritePage
action_of Open = actions.OpenGate
action_of step = actions.Sync

-- a step was paid for, or refused since its payment was
abbrev pub PaysFor : Costs → Step → Gauge → Result (Unit {0}) Refused → Gauge → Type 0
PaysFor costs step old (Ok granted) new = PaysCost old (cost_of costs (action_of step)) (Ok tt) new
PaysFor costs step old (Err refused) new = (dark : Dark) × PaysCost old (cost_of costs (action_of step)) (Err dark) new

-- the same, of the arrays that are saved: the same gauge pays, and the channels stay
module _ {K E : Type 0} (L : Ghosts K) (gauge : E → Gauge) where
  pub record PaysForStep (old : PaidArrays K E L) (step : Step) (result : Result (Unit {0}) Refused) (new : PaidArrays K E L) : Type 0 where
    pub pays : PaysFor (shape_of L old.channels.now).costs step (gauge old.energy.now) result (gauge new.energy.now)
    pub gauge_is : new.energy.ghost_name ≡ old.energy.ghost_name
    pub channels : new.channels ≡ old.channels

-- the channels, whose arrays are saved, and the gauge that pays for it
pub record ArraysAt : Type 0 where
  pub channels : ChannelsView
  pub gauge : Gauge

abbrev pub arrays_at : ChannelsView → Gauge → ArraysAt
arrays_at channels gauge = record { channels = channels; gauge = gauge }

-- as a source: each step is paid for first
abbrev pub payments : SaveSource.Ghosts ArraysAt
payments = record {
  memory = λ arrays. arrays.channels.array;
  asks = λ old step result new. PaysFor old.channels.shape.costs step old.gauge result new.gauge × (new.channels ≡ old.channels);
}

-- the saves of a module, with its device and its gauge
pub record SavesAt : Type 0 where
  pub saves : Saves
  pub device : DeviceState
  pub gauge : Gauge

abbrev pub saves_at : Saves → DeviceState → Gauge → SavesAt
saves_at saves device gauge = record { saves = saves; device = device; gauge = gauge }

-- the device calls of the save
abbrev pub calls_in : ℕ → Store → List CallKind
calls_in lines s = calls_left s.closed lines Close

-- a save of this image was begun, in a store that the device holds
pub record IsReadyToClose (lines : ℕ) (s : Store) (made : Image) (saves : Saves) (state : DeviceState) : Type 0 where
  pub knows : Knows saves.newest saves.closed saves.unsettled s
  pub holds : Holds lines (record s { saving = Some (begun_save made) }) saves.saving state
  pub untried : ForSome saves.saving (λ run. tried_of run ≡ false)

-- the store where a save of this image ends so, after these tries of its steps
abbrev pub store_at_end : ℕ → Store → Image → Finish → List Bool → Store
store_at_end lines s made (Ok done) tries = saved_in s made
store_at_end lines s made (Err why) tries =
    let at = after_steps lines s made (goods tries) in broken_off at.store made at.next (is_failed false tries)

-- these were paid for, and the payment of the next one was refused
pub record RefusedAfter (costs : Costs) (paid : List Action) (coming : Action) (old new : Gauge) : Type 0 where
  pub mid : Gauge
  pub pays : PaysInTurn costs paid old (Ok tt) mid
  pub answer : Dark
  pub refused : PaysCost mid (cost_of costs coming) (Err answer) new

-- The payments of a save that ends so, after these tries of its steps: each try was paid for, and one more where that was refused.
abbrev pub PaysUntil : Costs → List Action → Finish → List Bool → Gauge → Gauge → Type 0
PaysUntil costs actions (Err broken.Refused) tries old new =
    (coming : Action) × (slice_get actions (goods tries) ≡ Some coming) × RefusedAfter costs (tried actions tries) coming old new
PaysUntil costs actions finish tries old new = PaysInTurn costs (tried actions tries) old (Ok tt) new

-- all calls were made, or not all where it was broken off
abbrev pub EndsWhole : List CallKind → Finish → List Bool → Type 0
EndsWhole kinds finish tries = MatchResult finish (λ done. goods tries ≡ length kinds) (λ why. goods tries < length kinds)

-- The save that runs, of this image, was made until its end, each step paid for first, also one that was made again.
pub record SavesClosing (shape : Shape) (s : Store) (made : Image) (finish : Finish) (old new : SavesAt) : Type 0 where
  pub tries : List Bool
  pub few : FailsWithin shape.costs.retries finish tries
  pub whole : EndsWhole (calls_in shape.lines s) finish tries
  pub makes : ReachesStore shape.lines s (store_at_end shape.lines s made finish tries) old.device new.saves new.device
  pub calls : new.device.calls ≡ old.device.calls ++ calls_tried (calls_in shape.lines s) tries
  pub pays : PaysUntil shape.costs (save_actions shape.costs.pages) finish tries old.gauge new.gauge

-- whichever store the device held, where a save of the arrays was begun over it
abbrev pub ClosesSave : ChannelsView → Finish → SavesAt → SavesAt → Type 0
ClosesSave channels finish old new =
    (s : Store) (made : Image) → IsReadyToClose channels.shape.lines s made old.saves old.device → channels.array ≡ made.memory
    → SavesClosing channels.shape s made finish old new
