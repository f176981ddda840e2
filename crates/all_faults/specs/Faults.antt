-- The faults of a list.
use Rattle.std.specs.Prelude.{◌≡◌, ◌⊎◌, ℕ, ◌+◌, ◌*◌, ◌<◌, ◌≤◌, List, All, AllPairs, Contains, Some, length, slice_get, slice_index}
use Rattle.ddr4_timing.specs.declared.command.Stamped.{Stamped}
use Rattle.ddr4_timing.specs.declared.fault.Fault.{Fault}
use Rattle.ddr4_timing.specs.declared.rules.Rule.{Rule}
use Rattle.ddr4_timing.specs.declared.rules.Rule.TheVariants.{Rows}
use Rattle.ddr4_timing.specs.declared.timing.CommandRules.{CommandRules}
use Rattle.ddr4_timing.specs.Lawful.{IsInGeometry, KeepsRule}
use Rattle.ddr4_timing.specs.Rules.{rule_number}
use Rattle.all_faults.specs.Left.{most_asked}

-- A rule is asked of each command whose place lies in the geometry. Of another one that on rows is, which it breaks.
abbrev pub IsAskedOf : CommandRules → Stamped → Rule → Type 0
IsAskedOf c x rule = (rule ≡ Rows) ⊎ IsInGeometry c.geometry x.cmd

abbrev pub IsAsked : CommandRules → List Stamped → Rule → ℕ → Type 0
IsAsked c list rule second = (x : Stamped) → slice_get list second ≡ Some x → IsAskedOf c x rule

-- a rule that a command breaks, with the first place of which it doesn't hold
pub record IsFaultOf (c : CommandRules) (list : List Stamped) (f : Fault) : Type 0 where
  pub order : f.first ≤ f.second
  pub within : f.second < length list
  pub asked : IsAsked c list f.rule f.second
  pub broken : ¬ KeepsRule c.timing c.geometry list f.rule f.first f.second
  pub least : (k : ℕ) → k < f.first → KeepsRule c.timing c.geometry list f.rule k f.second

-- one of the faults is of this rule and this command
abbrev pub TellsOf : List Fault → Rule → ℕ → Type 0
TellsOf faults rule second = (f : Fault) × Contains faults f × (f.rule ≡ rule) × (f.second ≡ second)

-- the rule holds of the command and whatever stands before it
abbrev pub Keeps : CommandRules → List Stamped → Rule → ℕ → Type 0
Keeps c list rule second = (first : ℕ) → KeepsRule c.timing c.geometry list rule first second

-- where the fault of a rule and a command stands among all: by the command, then by the rule
abbrev pub place_of : Rule → ℕ → ℕ
place_of rule second = 16 * second + rule_number rule

abbrev pub ComesBehind : Fault → Fault → Type 0
ComesBehind f g = place_of f.rule f.second < place_of g.rule g.second

-- These are the faults of a list, each once: of each command each rule that is asked of it and that it breaks, in this order.
pub record AreFaultsOf (c : CommandRules) (list : List Stamped) (faults : List Fault) : Type 0 where
  pub are : All (IsFaultOf c list) faults
  pub each : (rule : Rule) (second : ℕ) → IsAsked c list rule second → TellsOf faults rule second ⊎ Keeps c list rule second
  pub once : AllPairs ComesBehind faults

-- the same up to a place
pub record AreFaultsUpTo (c : CommandRules) (list : List Stamped) (most : ℕ) (faults : List Fault) : Type 0 where
  pub are : All (IsFaultOf c list) faults
  pub each : (rule : Rule) (second : ℕ) → place_of rule second ≤ most → IsAsked c list rule second → TellsOf faults rule second ⊎ Keeps c list rule second
  pub once : AllPairs ComesBehind faults
  pub below : All (λ f. place_of f.rule f.second ≤ most) faults

-- the latest clock of the commands as far as each
pub record AreLatest (before : List Stamped) (latest : List ℕ) : Type 0 where
  pub size : length latest ≡ length before
  pub reach : (i k : ℕ) (a : Stamped) → k ≤ i → i < length latest → slice_get before k ≡ Some a → a.clock ≤ slice_index latest i

-- the commands before this place are too far from a clock for a rule on two commands
abbrev pub IsFarBefore : CommandRules → List Stamped → ℕ → ℕ → Type 0
IsFarBefore c before from clock = (k : ℕ) (a : Stamped) → k < from → slice_get before k ≡ Some a → a.clock + most_asked c.timing ≤ clock
