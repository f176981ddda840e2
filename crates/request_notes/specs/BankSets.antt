-- Which banks a set has.
use Rattle.std.specs.Prelude.{◌≡◌, ◌≢◌, ◌<◌, ◌↔◌, ℕ, Option, None, Some}
use Rattle.std.specs.Int.{bit_at}
use Rattle.request_notes.specs.declared.bank_set.BankSet.{BankSet}

-- the bank is one of the set
abbrev pub Has : BankSet → ℕ → Type 0
Has set bank = bit_at set.bits bank ≡ 1

-- what a set was, the bank that was taken out of it if it had one, and what is left
abbrev pub IsOneTaken : BankSet → Option ℕ → BankSet → Type 0
IsOneTaken old None new = (bank : ℕ) → ¬ Has old bank
IsOneTaken old (Some bank) new =
    (bank < 64) × Has old bank × ((other : ℕ) → (Has new other ↔ (Has old other × (other ≢ bank)))) × (new.bits < old.bits)
