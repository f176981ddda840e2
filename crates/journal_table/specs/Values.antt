-- The values of a table, as a program holds them.
use Rattle.std.specs.Prelude.{◌≡◌, ℕ, List, Option, Some, Vec, bytes_eq, option_map}
use Rattle.std.specs.HashMap.{HashMap, get_by}

-- the value of a key, where it has one
abbrev pub held : {A S : Type 0} → HashMap (Vec ℕ A) (Vec ℕ A) S → List ℕ → Option (List ℕ)
held values key = option_map (λ v. v.items) (get_by (λ k. bytes_eq key k.items) values)

-- an entry says what its key has
abbrev pub IsHeld : {A S : Type 0} → HashMap (Vec ℕ A) (Vec ℕ A) S → Vec ℕ A × Vec ℕ A → Type 0
IsHeld values entry = held values entry.0.items ≡ Some entry.1.items
