-- The reports of channels side by side, joined.
use Rattle.std.proofs.Common.{◌≡◌, ℕ, zero, suc, ◌+◌, ◌-◌, ◌<◌, ◌≤◌, List, [], ◌∷◌, ◌++◌, length, Option, None, inl, inr, ap, ◌∙◌, sym, arith, refl}
use Rattle.std.specs.Prelude.{slice_get, slice_index_or, option_map}
use Rattle.std.proofs.lemmas.Bool.{cases_order}
use Rattle.energy_budget.specs.declared.costs.CostNumbers.{CostNumbers}
use Rattle.chan_core.specs.State.{ChannelState}
use Rattle.drain_core.specs.declared.report.DrainReport.{DrainReport}
use Rattle.drain_core.specs.AtOnce.{AreReports, report_of}

-- an element of the first of two lists, and of the second one
get_front : {X : Type 0} (xs ys : List X) (i : ℕ) → i < length xs → slice_get (xs ++ ys) i ≡ slice_get xs i
get_front [] ys i less = absurd (omega (arith, less))
get_front (x ∷ xs) ys zero less = refl
get_front (x ∷ xs) ys (suc i) less = get_front xs ys i (omega (arith, less))

get_behind : {X : Type 0} (xs ys : List X) (i k : ℕ) → i ≡ length xs + k → slice_get (xs ++ ys) i ≡ slice_get ys k
get_behind [] ys i k is = ap (slice_get ys) (omega (arith, is))
get_behind (x ∷ xs) ys zero k is = absurd (omega (arith, is))
get_behind (x ∷ xs) ys (suc i) k is = get_behind xs ys i k (omega (arith, is))

module _ (numbers : CostNumbers) (all left right : List ChannelState) (one other joined : List (Option DrainReport)) (half : ℕ) (whole : all ≡ left ++ right) (count : length left ≡ half)
    (first : AreReports numbers left one) (second : AreReports numbers right other)
    (before : (i : ℕ) → i < half → slice_index_or joined i None ≡ slice_index_or one i None)
    (from : (i : ℕ) → half ≤ i → i < 8 → slice_index_or joined i None ≡ slice_index_or other (i - half) None) where
  of_second : (i : ℕ) → half ≤ i → i < 8 → slice_index_or joined i None ≡ option_map (report_of numbers) (slice_get all i)
  of_second i past few =
      from i past few
      ∙ second (i - half) (omega (arith, few))
      ∙ ap (option_map (report_of numbers)) (sym (get_behind left right i (i - half) (omega (arith, past, count))) ∙ ap (λ (xs : List ChannelState). slice_get xs i) (sym whole))

  pub reports_join : AreReports numbers all joined
  reports_join i few = elim (cases_order i half) [
    | inl same ↦ of_second i (omega (arith, same)) few
    | inr (inl less) ↦
        before i less ∙ first i few
        ∙ ap (option_map (report_of numbers)) (sym (get_front left right i (omega (arith, less, count))) ∙ ap (λ (xs : List ChannelState). slice_get xs i) (sym whole))
    | inr (inr more) ↦ of_second i (omega (arith, more)) few
  ]
