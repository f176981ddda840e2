-- What a notice is told, and when it may be called.
use Rattle.std.specs.Prelude.{ℕ, ◌<◌, ◌^◌}
use Rattle.notice_book.specs.declared.entry.Persisted.{Persisted}

-- that the write of this number is persistent, at this mark
abbrev pub persisted_at : ℕ → ℕ → Persisted
persisted_at number mark = record { number = number; mark = mark }

-- a notice of this number may be called at each mark above it. `pre` says what it may be called with
abbrev pub IsCallableAbove : (Persisted → Type 0) → ℕ → Type 0
IsCallableAbove pre number = (mark : ℕ) → number < mark → mark < 2 ^ 64 → pre (persisted_at number mark)
