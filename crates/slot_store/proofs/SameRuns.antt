-- Saves of the same parts.
use mathlib.Core.HLevel.{is_prop→PathP}
use Rattle.std.specs.Coded.{le_prop}
use Rattle.std.proofs.Common.{◌≡◌, ◌≤◌}
use Rattle.slot_store.specs.Steps.{reach_of}
use Rattle.slot_store.specs.declared.saving.SaveRun.{SaveRun}

-- they are the same save: of its place there is one proof
pub same_run : (old new : SaveRun) → new.plan ≡ old.plan → new.next ≡ old.next → new.tried ≡ old.tried → new.failures ≡ old.failures → new.hasher ≡ old.hasher → new ≡ old
same_run old new plan next tried failures hasher = λ i. record {
  plan = plan i;
  next = next i;
  tried = tried i;
  failures = failures i;
  hasher = hasher i;
  place = is_prop→PathP (λ j. reach_of (next j) ≤ (plan j).lines) (λ j. le_prop) new.place old.place i;
}
