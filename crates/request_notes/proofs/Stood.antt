-- Where what is left of a list stood before one was taken out.
use Rattle.std.proofs.Common.{if◌then◌else◌, ltb, ◌≡◌, ℕ, ◌+◌, ◌<◌, List, arith, length, get_or, remove}
use Rattle.std.proofs.lemmas.List.Edits.{get_or-remove_above, get_or-remove_below}

-- the place at which an element stood before the i-th was taken out
abbrev pub stood : ℕ → ℕ → ℕ
stood i k = if ltb k i then k else k + 1

pub get_or-stood : {X : Type 0} (xs : List X) (i k : ℕ) (d : X) → i < length xs → get_or (remove xs i) k d ≡ get_or xs (stood i k) d
get_or-stood xs i k d within = grind (arith, get_or-remove_below, get_or-remove_above)
