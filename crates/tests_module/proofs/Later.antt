-- What is left of a list of entries behind a mark.
use Rattle.std.specs.Prelude.{ℕ, ◌<◌, Bool, true, false, List, [], ◌∷◌, nat_le}
use Rattle.std.proofs.Common.{cond}
use Rattle.notice_book.specs.Numbered.{AreNumbersBelow, later_entries}

module _ {E : Type 0} (number : E → ℕ) where
  kept : (limit : ℕ) (keep : Bool) (x : E) (xs : List E) → number x < limit → AreNumbersBelow number limit xs → AreNumbersBelow number limit (cond keep (x ∷ xs) xs)
  kept limit true x xs below all = (below, all)
  kept limit false x xs below all = all

  -- its numbers are below a limit that all were below
  pub later_below : (limit mark : ℕ) (xs : List E) → AreNumbersBelow number limit xs → AreNumbersBelow number limit (later_entries number mark xs)
  later_below limit mark [] all = tt
  later_below limit mark (x ∷ xs) all = kept limit (nat_le mark (number x)) x (later_entries number mark xs) all.0 (later_below limit mark xs all.1)
