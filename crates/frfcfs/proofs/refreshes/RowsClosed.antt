-- Which banks of a rank are open after a command.
use Rattle.std.proofs.Common.{◌≡◌, ℕ, zero, suc, ◌<◌, ◌⊎◌, ◌∙◌, Bool, false, cond, List, [], ◌∷◌, ◌++◌, Option, Some, None, inl, inr, arith, ap, refl, below_more}
use Rattle.std.proofs.lemmas.Bool.{eq-eqb}
use Rattle.frfcfs.proofs.Common.{Act, AllClosed, BankAddress, Command, Geometry, PreAll, Stamped, is_act_of, open_row, row_after}
use Rattle.ddr4_timing.proofs.FloorLemmas.{open_row_push}

stays_closed : (bank : BankAddress) (x : Command) → is_act_of bank.rank x ≡ false → row_after bank None x ≡ None
stays_closed bank (Act at w) e = rw e refl
stays_closed bank x e = grind arith

pub closed_push : (g : Geometry) (rank : ℕ) (list : List Stamped) (x : Stamped) → is_act_of rank x.cmd ≡ false → AllClosed g rank list → AllClosed g rank (list ++ x ∷ [])
closed_push g rank list x e h group bank l m =
    let at : BankAddress = record { rank = rank; group = group; bank = bank } in
    open_row_push at list x ∙ ap (λ (row : Option ℕ). row_after at row x.cmd) (h group bank l m) ∙ stays_closed at x.cmd e

pub closed_after : (g : Geometry) (rank clock : ℕ) (list : List Stamped) → AllClosed g rank (list ++ record { clock = clock; cmd = PreAll rank } ∷ [])
closed_after g rank clock list group bank l m =
    let at : BankAddress = record { rank = rank; group = group; bank = bank } in
    open_row_push at list (record { clock = clock; cmd = PreAll rank }) ∙ ap (λ (b : Bool). cond b None (open_row at list)) (eq-eqb rank rank refl)

-- a test below a bound
below_or : (P : ℕ → Type 0) (n : ℕ) → ((k : ℕ) → P k ⊎ (¬ P k)) → ((k : ℕ) → k < n → P k) ⊎ (¬ ((k : ℕ) → k < n → P k))
below_or P zero h = inl (λ k l. absurd (omega arith))
below_or P (suc n) h =
    elim (below_or P n h) [
      | inr some ↦ inr (λ all. some (λ k l. all k (omega arith)))
      | inl all ↦ elim (h n) [
        | inr some ↦ inr (λ every. some (every n (omega arith)))
        | inl here ↦ inl (λ k l. below_more P n all here k (omega arith))
      ]
    ]

none_or : (row : Option ℕ) → (row ≡ None) ⊎ (¬ (row ≡ None))
none_or None = inl refl
none_or (Some k) = inr (λ e. absurd cc)

-- a rank has all its banks closed or not
pub closed_or : (g : Geometry) (rank : ℕ) (list : List Stamped) → AllClosed g rank list ⊎ (¬ AllClosed g rank list)
closed_or g rank list =
    let closed = λ (group bank : ℕ). open_row (record { rank = rank; group = group; bank = bank }) list ≡ None in
    elim (below_or (λ group. (bank : ℕ) → bank < g.banks → closed group bank) g.groups (λ group. below_or (closed group) g.banks (λ bank. none_or _))) [
      | inl all ↦ inl (λ group bank l m. all group l bank m)
      | inr some ↦ inr (λ closed. some (λ group l bank m. closed group bank l m))
    ]
