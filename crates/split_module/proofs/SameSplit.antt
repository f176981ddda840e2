-- Fronts of the same parts.
use mathlib.Core.HLevel.{is_prop→PathP}
use native.Mathlib.Nat.{ℕ_set}
use Rattle.std.specs.Prelude.{◌≡◌, ℕ, Option}
use Rattle.slot_store.specs.declared.saving.SaveRun.{SaveRun}
use Rattle.module_saves.specs.Saving.{IsOfLines}
use Rattle.split_module.specs.declared.front.SplitFront.{SplitFront}

of_lines-prop : (lines : ℕ) (saving : Option SaveRun) → IsProp (IsOfLines lines saving)
of_lines-prop lines saving = hlevel (ℕ_set)

-- the same front: of what is true of it there is one proof
pub same_split : (old new : SplitFront) → new.front ≡ old.front → new.out ≡ old.out → new.lines ≡ old.lines → new.costs ≡ old.costs → new ≡ old
same_split old new front out lines costs = λ i. record {
  front = front i;
  out = out i;
  lines = lines i;
  costs = costs i;
  running = is_prop→PathP (λ j. IsOfLines (lines j) (front j).saves.saving) (λ j. of_lines-prop (lines j) (front j).saves.saving) new.running old.running i;
}
