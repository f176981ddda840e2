-- Why a command may not follow those before it.
use Rattle.std.specs.Prelude.{◌≡◌, ℕ, ◌<◌, ◌⊎◌, List, [], ◌∷◌, ◌++◌, Some, length, slice_get, slice_index}
use Rattle.ddr4_timing.specs.Lawful.{MayComeNext, ObeysRule, ObeysRulesBefore}
use Rattle.ddr4_timing.specs.declared.rules.Rule.{Rule}
use Rattle.ddr4_timing.specs.declared.rules.Rule.TheVariants.{Rows}
use Rattle.ddr4_timing.specs.declared.timing.CommandRules.{CommandRules}
use Rattle.command_trace.specs.Reasons.{IsReasonOf}
use Rattle.auto_precharge.specs.Unfolding.{IsLawfulTrace, IsOpenFor, Unfolded, settled, unfolded}
use Rattle.auto_precharge.specs.declared.issued.Issued.{Issued}
use Rattle.command_trace.specs.declared.diagnosis.Diagnosis.{Diagnosis}

-- a rule that the command breaks behind the list at an index, with each lower rule kept, and this one of each index before its own
abbrev pub BreaksAt : CommandRules → Unfolded → Issued → Rule → ℕ → Type 0
BreaksAt r u x rule first =
    (¬ ObeysRule r.timing r.geometry u.list x.command rule first) × ObeysRulesBefore r.timing r.geometry u.list x.command rule first

-- the rules hold of it, and its bank is about to be closed
abbrev pub IsLate : CommandRules → Unfolded → Issued → Diagnosis → Type 0
IsLate r u x d =
    MayComeNext r.timing r.geometry u.list x.command × (¬ IsOpenFor u.waiting x.command.cmd) × (d.fault.rule ≡ Rows)

-- what is told of a command that may not follow the list
pub record IsWhy (r : CommandRules) (u : Unfolded) (x : Issued) (d : Diagnosis) : Type 0 where
  pub broken : BreaksAt r u x d.fault.rule d.fault.first ⊎ IsLate r u x d
  pub second : d.fault.second ≡ length u.list
  pub command : d.second.command ≡ x.command
  pub line : d.second.line ≡ x.line
  pub first : d.fault.first < length u.list → slice_get u.list d.fault.first ≡ Some d.first.command
  pub first_line : d.fault.first < length u.list → d.first.line ≡ slice_index u.lines d.fault.first
  pub reason : IsReasonOf r d.fault.rule u.list d.first.command d.second.command d.reason

-- The last command of a channel's is the first that may not follow those before it, and this is why.
pub record EndsAtFault (r : CommandRules) (found : List Issued) (d : Diagnosis) : Type 0 where
  pub before : List Issued
  pub last : Issued
  pub found_is : found ≡ before ++ last ∷ []
  pub lawful : IsLawfulTrace r before
  pub why : IsWhy r (settled last.command.clock (unfolded r.timing before)) last d
