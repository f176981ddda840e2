-- Flags after some of them were put up or down.
use Rattle.std.proofs.Common.{◌≡◌, inl, inr, ℕ, ◌+◌, ◌-◌, ◌≤◌, List, length, get_or, Bool, true, false, replicate, sym, ◌∙◌, arith}
use Rattle.std.proofs.lemmas.Bool.{cases_lt}
use Rattle.std.proofs.lemmas.List.{length-replicate, get_or-replicate}
use Rattle.save_device.specs.Flags.{IsUp, AllUpWithin}
use Rattle.save_device.specs.Rows.{IsInRange, overwritten}
use Rattle.save_device.proofs.Rows.{holds-length, holds-before, holds-within, holds-after, raised_flags}
use Rattle.file_device.specs.Places.{Adds, Takes}

module _ (old new : List Bool) (at n : ℕ) (fits : at + n ≤ length old) where
  pub adds : new ≡ overwritten old at (replicate n true) → Adds at n old new
  adds is = record {
    size = holds-length old new (replicate n true) at n (sym (length-replicate n true)) fits is;
    up = raised_flags old new at n fits is;
  }

  module _ (is : new ≡ overwritten old at (replicate n false)) where
    ns : n ≡ length (replicate n false)
    ns = sym (length-replicate n false)

    low_within : (place : ℕ) → IsInRange at n place → IsUp new place → ⊥
    low_within place in_range up =
        let low : get_or new place false ≡ false = holds-within old new (replicate n false) at n ns fits is place false in_range.0 in_range.1 ∙ get_or-replicate n (place - at) false false (omega (arith, in_range.0, in_range.1)) in
        cc (low, up)

    same_outside : (place : ℕ) → ¬ IsInRange at n place → get_or new place false ≡ get_or old place false
    same_outside place out = elim (cases_lt place at) [
      | inl before ↦ holds-before old new (replicate n false) at n ns fits is place false before
      | inr least ↦ elim (cases_lt place (at + n)) [
        | inl less ↦ absurd (out (least, less))
        | inr after ↦ holds-after old new (replicate n false) at n ns fits is place false after
      ]
    ]

    was_up : (place : ℕ) → IsUp new place → IsUp old place × (¬ IsInRange at n place)
    was_up place up = (sym (same_outside place (λ w. low_within place w up)) ∙ up, λ w. low_within place w up)

    pub takes : Takes at n old new
    takes = record {
      size = holds-length old new (replicate n false) at n ns fits is;
      up = λ place. (was_up place, λ both. same_outside place both.1 ∙ both.0);
    }

    pub still_within : (low high : ℕ) → AllUpWithin low high old → AllUpWithin low high new
    still_within low high within place up = within place (was_up place up).0
