-- Two verbs are not one: they differ in a letter.
use Rattle.std.proofs.Common.{◌≡◌, ℕ, List, codes, get_or, ap, arith}

pub run-live : codes "run" ≡ codes "live" → ⊥
run-live e = let letter : 114 ≡ 108 = ap (λ (word : List ℕ). get_or word 0 0) e in omega (arith, letter)

pub run-show : codes "run" ≡ codes "show" → ⊥
run-show e = let letter : 114 ≡ 115 = ap (λ (word : List ℕ). get_or word 0 0) e in omega (arith, letter)

pub run-lint : codes "run" ≡ codes "lint" → ⊥
run-lint e = let letter : 114 ≡ 108 = ap (λ (word : List ℕ). get_or word 0 0) e in omega (arith, letter)

pub run-crash : codes "run" ≡ codes "crash" → ⊥
run-crash e = let letter : 114 ≡ 99 = ap (λ (word : List ℕ). get_or word 0 0) e in omega (arith, letter)

pub run-check : codes "run" ≡ codes "check" → ⊥
run-check e = let letter : 114 ≡ 99 = ap (λ (word : List ℕ). get_or word 0 0) e in omega (arith, letter)

pub run-draw : codes "run" ≡ codes "draw" → ⊥
run-draw e = let letter : 114 ≡ 100 = ap (λ (word : List ℕ). get_or word 0 0) e in omega (arith, letter)

pub run-profile : codes "run" ≡ codes "profile" → ⊥
run-profile e = let letter : 114 ≡ 112 = ap (λ (word : List ℕ). get_or word 0 0) e in omega (arith, letter)

pub live-show : codes "live" ≡ codes "show" → ⊥
live-show e = let letter : 108 ≡ 115 = ap (λ (word : List ℕ). get_or word 0 0) e in omega (arith, letter)

pub live-lint : codes "live" ≡ codes "lint" → ⊥
live-lint e = let letter : 118 ≡ 110 = ap (λ (word : List ℕ). get_or word 2 0) e in omega (arith, letter)

pub live-crash : codes "live" ≡ codes "crash" → ⊥
live-crash e = let letter : 108 ≡ 99 = ap (λ (word : List ℕ). get_or word 0 0) e in omega (arith, letter)

pub live-check : codes "live" ≡ codes "check" → ⊥
live-check e = let letter : 108 ≡ 99 = ap (λ (word : List ℕ). get_or word 0 0) e in omega (arith, letter)

pub live-draw : codes "live" ≡ codes "draw" → ⊥
live-draw e = let letter : 108 ≡ 100 = ap (λ (word : List ℕ). get_or word 0 0) e in omega (arith, letter)

pub live-profile : codes "live" ≡ codes "profile" → ⊥
live-profile e = let letter : 108 ≡ 112 = ap (λ (word : List ℕ). get_or word 0 0) e in omega (arith, letter)

pub lint-crash : codes "lint" ≡ codes "crash" → ⊥
lint-crash e = let letter : 108 ≡ 99 = ap (λ (word : List ℕ). get_or word 0 0) e in omega (arith, letter)

pub lint-check : codes "lint" ≡ codes "check" → ⊥
lint-check e = let letter : 108 ≡ 99 = ap (λ (word : List ℕ). get_or word 0 0) e in omega (arith, letter)

pub lint-draw : codes "lint" ≡ codes "draw" → ⊥
lint-draw e = let letter : 108 ≡ 100 = ap (λ (word : List ℕ). get_or word 0 0) e in omega (arith, letter)

pub lint-profile : codes "lint" ≡ codes "profile" → ⊥
lint-profile e = let letter : 108 ≡ 112 = ap (λ (word : List ℕ). get_or word 0 0) e in omega (arith, letter)

pub crash-check : codes "crash" ≡ codes "check" → ⊥
crash-check e = let letter : 114 ≡ 104 = ap (λ (word : List ℕ). get_or word 1 0) e in omega (arith, letter)

pub crash-draw : codes "crash" ≡ codes "draw" → ⊥
crash-draw e = let letter : 99 ≡ 100 = ap (λ (word : List ℕ). get_or word 0 0) e in omega (arith, letter)

pub crash-profile : codes "crash" ≡ codes "profile" → ⊥
crash-profile e = let letter : 99 ≡ 112 = ap (λ (word : List ℕ). get_or word 0 0) e in omega (arith, letter)

pub check-draw : codes "check" ≡ codes "draw" → ⊥
check-draw e = let letter : 99 ≡ 100 = ap (λ (word : List ℕ). get_or word 0 0) e in omega (arith, letter)

pub check-profile : codes "check" ≡ codes "profile" → ⊥
check-profile e = let letter : 99 ≡ 112 = ap (λ (word : List ℕ). get_or word 0 0) e in omega (arith, letter)
