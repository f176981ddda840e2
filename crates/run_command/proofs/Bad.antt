-- The line that a refused script names.
use Rattle.std.proofs.Common.{◌≡◌, List, ℕ, Result, Ok, Err, IfErr, inl, inr, subst, sym}
use Rattle.std.specs.Result.{IsErrAnd}
use Rattle.ddr4_timing.specs.declared.timing.Geometry.{Geometry}
use Rattle.nv_script.specs.Texts.{IsRefusedBy}
use Rattle.nv_script.specs.declared.reading.ScriptFault.{ScriptFault}
use Rattle.nv_script.specs.declared.reading.ScriptFault.TheVariants as fault
use Rattle.script_runner.specs.Scripts.{IsBadText}
use Rattle.script_runner.specs.Story.{EndsBy}

module _ (g : Geometry) (text : List ℕ) where
  -- what a reader refuses is its first bad line
  refused_is_bad : (why : ScriptFault) → IsRefusedBy g text why → IsBadText g text why
  refused_is_bad (fault.Line number) is = is
  refused_is_bad fault.Memory is = tt
  refused_is_bad fault.Writer is = tt

  -- a run ends by no line
  ended_is_bad : (why : ScriptFault) (old new : List ScriptFault) → EndsBy why old new → IsBadText g text why
  ended_is_bad (fault.Line number) old new (inl refused) = absurd refused.0
  ended_is_bad (fault.Line number) old new (inr none) = absurd (let no : fault.Line number ≡ fault.Memory = none.0 in cc)
  ended_is_bad fault.Memory old new ends = tt
  ended_is_bad fault.Writer old new ends = tt

  -- so it is of what is handed on
  pub refused_on : {T : Type 0} (result : Result T ScriptFault) (why : ScriptFault) → IsErrAnd result (λ fault. fault ≡ why) → IsRefusedBy g text why → IfErr result (IsBadText g text)
  refused_on (Ok done) why is refused = tt
  refused_on (Err fault) why is refused = subst (IsBadText g text) (sym is) (refused_is_bad why refused)

  pub ended : {T : Type 0} (result : Result T ScriptFault) (old new : List ScriptFault) → IfErr result (λ fault. EndsBy fault old new) → IfErr result (IsBadText g text)
  ended (Ok done) old new ends = tt
  ended (Err fault) old new ends = ended_is_bad fault old new ends
