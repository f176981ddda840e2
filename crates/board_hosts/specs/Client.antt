-- What a host is to its callers.
use Rattle.std.specs.Prelude.{ℕ, ◌≤◌, ◌++◌, List, [], ◌∷◌}

-- how many writes a host has seen to be accepted, and how many to be persistent; how many of its own were accepted; and the marks
-- below which it had the notices called, each delivery's in turn
pub record Client : Type 0 where
  pub accepted : ℕ
  pub persisted : ℕ
  pub writes : ℕ
  pub delivered : List ℕ

abbrev pub client : ℕ → ℕ → ℕ → List ℕ → Client
client accepted persisted writes delivered = record { accepted = accepted; persisted = persisted; writes = writes; delivered = delivered }

-- a host that has loaded this mark
abbrev pub seen_at : ℕ → Client → Client
seen_at mark host = client host.accepted mark host.writes host.delivered

-- a host that has loaded this mark, and has had the notices below it called once
abbrev pub delivered_at : ℕ → Client → Client
delivered_at mark host = client host.accepted mark host.writes (host.delivered ++ mark ∷ [])

-- what a host has seen never goes back
pub record SeesNoLess (old new : Client) : Type 0 where
  pub accepted : old.accepted ≤ new.accepted
  pub persisted : old.persisted ≤ new.persisted
