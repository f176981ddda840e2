-- Fronts of the same parts.
use mathlib.Core.HLevel.{is_prop→PathP}
use Rattle.std.specs.Coded.{le_prop}
use Rattle.std.specs.Prelude.{◌^◌}
use Rattle.module_saves.specs.Saving.{MakesAtMost, MakesBetween}
use Rattle.module_core.specs.declared.front.Front.{Front}
use Rattle.module_core.proofs.Common.{ℕ, ◌+◌, ◌≡◌, ◌≤◌, Option, SaveRun, is_armed, is_backed, true}

making-prop : (least most : ℕ) (saving : Option SaveRun) → IsProp (MakesBetween least most saving)
making-prop least most saving = hlevel (le_prop)

most-prop : (most : ℕ) (saving : Option SaveRun) → IsProp (MakesAtMost most saving)
most-prop most saving = hlevel (le_prop)

-- and the same front
pub same_front : (old new : Front) → new.terms ≡ old.terms → new.accepted ≡ old.accepted → new.persisted ≡ old.persisted → new.saved ≡ old.saved → new.mode ≡ old.mode → new.reading ≡ old.reading
    → new.saves ≡ old.saves → new ≡ old
same_front old new terms accepted persisted saved mode reading saves = λ i. record {
  terms = terms i;
  accepted = accepted i;
  persisted = persisted i;
  saved = saved i;
  mode = mode i;
  reading = reading i;
  saves = saves i;
  from = is_prop→PathP (λ j. (terms j).start ≤ accepted j) (λ j. le_prop) new.from old.from i;
  stored = is_prop→PathP (λ j. (terms j).cut ≤ saved j) (λ j. le_prop) new.stored old.stored i;
  settled = is_prop→PathP (λ j. saved j ≤ accepted j) (λ j. le_prop) new.settled old.settled i;
  making = is_prop→PathP (λ j. MakesBetween (saved j) (accepted j) (saves j).saving) (λ j. making-prop (saved j) (accepted j) (saves j).saving) new.making old.making i;
  kept = is_prop→PathP (λ j. accepted j ≤ (terms j).cut + (terms j).trail) (λ j. le_prop) new.kept old.kept i;
  numbers = is_prop→PathP (λ j. accepted j ≤ 2 ^ 62) (λ j. le_prop) new.numbers old.numbers i;
  unspent = is_prop→PathP (λ j. is_backed (mode j) ≡ true → (saves j).newest.generation ≤ 2 ^ 62) (λ j. hlevel (le_prop)) new.unspent old.unspent i;
  most = is_prop→PathP (λ j. is_armed (mode j) ≡ true → MakesAtMost (2 ^ 62) (saves j).saving) (λ j. hlevel (most-prop)) new.most old.most i;
}
