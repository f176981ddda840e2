-- Drains on backup: all actions of them are paid for first.
use Rattle.std.specs.Prelude.{◌≡◌, ◌⊎◌, ℕ, ◌+◌, zero, suc, Bool, true, false, List, [], ◌∷◌, ◌++◌, count_by, drop, length, map, sum_by, take, Result, Ok, Err}
use Rattle.energy_budget.specs.declared.action.Action.{Action}
use Rattle.energy_budget.specs.declared.action.Action.TheVariants.{EntryStep}
use Rattle.energy_budget.specs.declared.costs.Costs.{Costs}
use Rattle.energy_budget.specs.declared.energy.Dark.{Dark}
use Rattle.energy_budget.specs.Actions.{cost_of, total_cost}
use Rattle.energy_budget.specs.Gauge.{Gauge, PaysCost}
use Rattle.channel_port.specs.declared.waiting.Waiting.{Waiting}
use Rattle.channel_port.specs.Waits.{Waits, writes_on}

-- the result of a payment, or of several
abbrev pub Paid : Type 0
Paid = Result (Unit {0}) Dark

-- The costs are paid in turn: all of them, or until a payment is refused.
abbrev pub PaysCosts : List ℕ → Gauge → Paid → Gauge → Type 0
PaysCosts [] old (Ok done) new = new ≡ old
PaysCosts [] old (Err dark) new = ⊥
PaysCosts (cost ∷ costs) old (Ok done) new = (mid : Gauge) × PaysCost old cost (Ok done) mid × PaysCosts costs mid (Ok done) new
PaysCosts (cost ∷ costs) old (Err dark) new =
    PaysCost old cost (Err dark) new ⊎ ((mid : Gauge) × PaysCost old cost (Ok tt) mid × PaysCosts costs mid (Err dark) new)

-- by a payment for each of the actions
abbrev pub PaysInTurn : Costs → List Action → Gauge → Paid → Gauge → Type 0
PaysInTurn costs actions = PaysCosts (map (cost_of costs) actions)

-- by payments each of which is for some actions together
abbrev pub PaysTogether : Costs → List (List Action) → Gauge → Paid → Gauge → Type 0
PaysTogether costs payments = PaysCosts (map (total_cost costs) payments)

-- How channels are drained: one after another, each action paid for alone; or at once, and all actions are paid for together
-- before.
pub data DrainOrder : Type 0 where
  in_turn : DrainOrder
  at_once : DrainOrder

-- a payment for each action
abbrev pub each_alone : List Action → List (List Action)
each_alone actions = map (λ action. action ∷ []) actions

-- for which actions of the drains each payment is
abbrev pub payments_in : DrainOrder → List Action → List (List Action)
payments_in in_turn drains = each_alone drains
payments_in at_once drains = drains ∷ []

-- so many of the oldest writes have gone to the array
pub record TakesWrites (gone : ℕ) (old new : Waits) : Type 0 where
  pub writes : new.writes ≡ drop gone old.writes
  pub reads : new.reads ≡ old.reads
  pub given : new.given ≡ old.given

-- whether an action takes a write into its array
abbrev pub is_entry : Action → Bool
is_entry EntryStep = true
is_entry action = false

-- how many of these do
abbrev pub entries_in : List Action → ℕ
entries_in actions = count_by is_entry actions

-- How many of these were paid for: all, or those before the one whose payment was refused, which was the gauge's last call.
abbrev pub HasPaid : {X : Type 0} → ℕ → List X → Gauge → Paid → Gauge → Type 0
HasPaid paid all old (Ok done) new = paid ≡ length all
HasPaid paid all old (Err dark) new = length new.calls ≡ length old.calls + paid + 1

-- For each entry that was paid for one write has gone to the array, the oldest first.
pub record TakesPaid (actions : List Action) (old : Waits) (before : Gauge) (result : Paid) (new : Waits) (later : Gauge) : Type 0 where
  pub paid : ℕ
  pub counts : HasPaid paid actions before result later
  pub takes : TakesWrites (entries_in (take paid actions)) old new

-- the same of payments each of which is for some actions together
pub record TakesTogether (payments : List (List Action)) (old : Waits) (before : Gauge) (result : Paid) (new : Waits) (later : Gauge) : Type 0 where
  pub paid : ℕ
  pub counts : HasPaid paid payments before result later
  pub takes : TakesWrites (sum_by entries_in (take paid payments)) old new

-- how many writes wait in each of the first channels, so many of them
abbrev pub pending_each : ℕ → List Waiting → List ℕ
pending_each zero writes = []
pending_each (suc n) writes = pending_each n writes ++ writes_on n writes ∷ []
