-- What a search that found nothing says.

-- the fact holds of no value
abbrev pub HoldsOfNone : {A : Type 0} → (A → Type 0) → Type 0
HoldsOfNone {A = A} P = (x : A) → ¬ P x
