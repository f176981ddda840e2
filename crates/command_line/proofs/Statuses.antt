-- The status of a yes or a no.
use Rattle.std.proofs.Common.{◌≡◌, ◌↔◌, ℕ, Bool, true, false, true≢false, if◌then◌else◌, refl, sym, arith}

pub status_tells : (P : Type 0) (status : ℕ) (test : Bool) → status ≡ (if test then 0 else 1) → ((test ≡ true) ↔ P) → ((status ≡ 0) ↔ P)
status_tells P status true is told = (λ zero. told.0 refl, λ p. is)
status_tells P status false is told = (λ zero. absurd (omega (arith, is, zero)), λ p. absurd (true≢false (sym (told.1 p))))
