-- Which commands a `CommandChecker` has taken.
use Rattle.std.specs.Prelude.{◌≡◌, ℕ, ◌-◌, ◌^◌, List, ◌∷◌, ◌++◌, IsTrue, length, map, min}
use Rattle.ddr4_timing.specs.declared.command.Stamped.{Stamped}
use Rattle.ddr4_timing.specs.declared.timing.CommandRules.{CommandRules}
use Rattle.auto_precharge.specs.Unfolding.{IsLawfulTrace, MayFollow, Stands, unfolded}
use Rattle.auto_precharge.specs.declared.issued.Issued.{Issued}
use Rattle.command_trace.specs.declared.entry.Located.{Located}
use Rattle.command_trace.specs.declared.front.CommandChecker.{CommandChecker}

abbrev pub commands_in : List Located → List Stamped
commands_in found = map (λ l. l.entry.command) found

-- a command of a trace as one of its channel
abbrev pub issued_of : Located → Issued
issued_of l = record { line = l.line; command = l.entry.command; closes = l.closes }

abbrev pub issued_in : List Located → List Issued
issued_in found = map (λ l. issued_of l) found

-- The line is that of the first command which may not follow those before it.
pub record IsFirstFault (r : CommandRules) (found : List Located) (line : ℕ) : Type 0 where
  pub before : List Located
  pub first : Located
  pub after : List Located
  pub found_is : found ≡ before ++ first ∷ after
  pub lawful : IsLawfulTrace r (issued_in before)
  pub broken : ¬ MayFollow r (unfolded r.timing (issued_in before)) first.entry.command
  pub line_is : line ≡ first.line

-- It tells whether the commands are lawful, stands behind what they stand for while they are, and then it keeps the line of the
-- first one that isn't.
pub record FollowsCommands (r : CommandRules) (front : CommandChecker) (found : List Located) : Type 0 where
  pub lawful : IsTrue front.is_lawful → IsLawfulTrace r (issued_in found)
  pub stands : IsTrue front.is_lawful → Stands r front.unfolding (unfolded r.timing (issued_in found))
  pub none : IsTrue front.is_lawful → front.line ≡ 0
  pub broken : ¬ IsTrue front.is_lawful → IsFirstFault r found front.line
  pub count : front.count ≡ min (length found) (2 ^ 64 - 1)
