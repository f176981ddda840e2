-- The drain of a channel whose actions are asked for one by one.
use Rattle.std.specs.Prelude.{◌≡◌, ℕ, zero, suc, ◌+◌, ◌<◌, take, length, Result, Ok, Err}
use Rattle.energy_budget.specs.declared.action.Action.{Action}
use Rattle.energy_budget.specs.declared.action.Action.TheVariants.{CloseStep, EntryStep}
use Rattle.energy_budget.specs.declared.costs.Costs.{Costs}
use Rattle.energy_budget.specs.declared.energy.Dark.{Dark}
use Rattle.energy_budget.specs.Actions.{cost_of}
use Rattle.energy_budget.specs.Gauge.{Gauge, PaysCost}
use Rattle.chan_core.specs.State.{ChannelState}
use Rattle.drain_core.specs.declared.report.DrainReport.{DrainReport}
use Rattle.drain_core.specs.Drain.{Progress, close_step_of, entry_steps_of}
use Rattle.drain_core.specs.Steps.{TakesOldest, drain_start_of, drained, pending_places}

-- an action is paid for from a gauge, at these costs
abbrev pub PaysAction : Costs → Gauge → Action → Result (Unit {0}) Dark → Gauge → Type 0
PaysAction costs old action result new = PaysCost old (cost_of costs action) result new

-- what is asked for: the close step, and then an entry step for each write
abbrev pub drain_action : ℕ → Action
drain_action zero = CloseStep
drain_action (suc entry) = EntryStep

module _ {P : Type 0} (pays : P → Action → Result (Unit {0}) Dark → P → Type 0) where
  -- so many actions, from the first one on, were asked for in turn, and each was granted
  abbrev pub GrantsActions : ℕ → P → P → Type 0
  GrantsActions zero old new = new ≡ old
  GrantsActions (suc n) old new = (mid : P) × GrantsActions n old mid × pays mid (drain_action n) (Ok tt) new

  -- all of so many were, or those before one that was refused
  abbrev pub AsksForActions : ℕ → ℕ → Result DrainReport Dark → P → P → Type 0
  AsksForActions all granted (Ok report) old new = (granted ≡ all) × GrantsActions granted old new
  AsksForActions all granted (Err dark) old new = (mid : P) × GrantsActions granted old mid × (granted < all) × pays mid (drain_action granted) (Err dark) new

-- where a channel's drain stands behind its close step and so many entries
abbrev pub entered : ChannelState → ℕ → Progress
entered s count =
    entry_steps_of s.checked.timing s.checked.geometry (take count (pending_places s)) (close_step_of s.checked.timing s.checked.geometry (drain_start_of s))

-- A drain of which so many actions were granted, and no further one: nothing was issued, or the close step and some entries were
-- made, so that as many of the oldest writes are in the array.
abbrev pub StopsBehind : ℕ → ChannelState → ChannelState → Type 0
StopsBehind zero old new = new ≡ old
StopsBehind (suc count) old new = TakesOldest count old new × (new.commands ≡ (entered old count).list)

-- the drain of a channel, where so many of its actions were granted
abbrev pub DrainsAsGranted : ℕ → Result DrainReport Dark → ChannelState → ChannelState → Type 0
DrainsAsGranted granted (Ok report) old new = new ≡ drained old
DrainsAsGranted granted (Err dark) old new = StopsBehind granted old new

-- what was asked for while a channel was drained, and what became of the channel
pub record DrainsForPayment {P : Type 0} (pays : P → Action → Result (Unit {0}) Dark → P → Type 0)
    (result : Result DrainReport Dark) (old new : ChannelState) (before later : P) : Type 0 where
  pub granted : ℕ
  pub asks : AsksForActions pays (length old.writes + 1) granted result before later
  pub drains : DrainsAsGranted granted result old new
