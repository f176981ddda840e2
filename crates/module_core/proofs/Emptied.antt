-- What waits in channels that were drained.
use Rattle.channel_port.specs.Waits.{emptied}
use Rattle.module_core.proofs.Common.{ℕ, ◌≡◌, List, NoneBelow, Waiting, Waits, WaitsFrom, arith, refl, subst, sym}

-- nothing waits
pub none_waits : (n : ℕ) (old new : Waits) → new ≡ emptied old → NoneBelow n new.writes
none_waits n old new is = subst (λ (w : Waits). NoneBelow n w.writes) (sym is) refl

pub all_wait : (n : ℕ) (writes : List Waiting) → WaitsFrom n n writes
all_wait n writes number from below = absurd (omega (arith, from, below))
