-- Saves of the same parts.
use mathlib.Core.HLevel.{is_prop→PathP}
use mathlib.Core.Sum.{⊎_set}
use Rattle.std.specs.Coded.{le_prop}
use native.Mathlib.Nat.{ℕ_set}
use Rattle.std.specs.Prelude.{◌^◌}
use Rattle.slot_store.specs.declared.plan.Newest.{Newest}
use Rattle.module_saves.specs.Saving.{IsSaveOver}
use Rattle.module_saves.proofs.Common.{◌<◌, ◌≡◌, ForSome, Option, SaveRun, Saves}

over-prop : (newest : Newest) (saving : Option SaveRun) → IsProp (ForSome saving (IsSaveOver newest))
over-prop newest saving = hlevel (ℕ_set, ⊎_set)

-- the same saves: of what is true of them there is one proof
pub same_saves : (old new : Saves) → new.newest ≡ old.newest → new.closed ≡ old.closed → new.unsettled ≡ old.unsettled → new.saving ≡ old.saving → new ≡ old
same_saves old new newest closed unsettled saving = λ i. record {
  newest = newest i;
  closed = closed i;
  unsettled = unsettled i;
  saving = saving i;
  generation = is_prop→PathP (λ j. (newest j).generation < 2 ^ 63) (λ j. le_prop) new.generation old.generation i;
  over = is_prop→PathP (λ j. ForSome (saving j) (IsSaveOver (newest j))) (λ j. over-prop (newest j) (saving j)) new.over old.over i;
}
