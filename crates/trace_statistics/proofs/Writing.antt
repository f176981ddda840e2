-- Texts that are written one behind another.
use Rattle.std.proofs.Common.{◌≡◌, ℕ, zero, suc, ◌+◌, List, [], ◌++◌, Option, if◌then◌else◌, inl, inr, append-nil, ap, arith, refl, subst, sym}
use Rattle.std.specs.Io.KnownBytes.{Appends}
use Rattle.std.proofs.KnownBytes.{Appends-nil, Appends-trans}
use Rattle.auto_precharge.specs.declared.issued.Issued.{Issued}
use Rattle.ddr4_timing.specs.Places.{HasBank}
use Rattle.ddr4_timing.specs.declared.place.BankAddress.{BankAddress}
use Rattle.ddr4_timing.specs.declared.timing.CommandRules.{CommandRules}
use Rattle.trace_statistics.specs.Numbers.{AreNumbersOfBank, is_none}
use Rattle.trace_statistics.specs.Telling.{TellsBelow, TellsNumbered, bank_numbered}
use Rattle.trace_statistics.specs.declared.numbers.BankNumbers.{BankNumbers}

-- what was written of the numbers below one
abbrev pub Wrote : (ℕ → List ℕ → Type 0) → ℕ → Option (List ℕ) → Option (List ℕ) → Type 0
Wrote Tells n old new = (text : List ℕ) × TellsBelow Tells n text × Appends old new text

nothing : (Tells : ℕ → List ℕ → Type 0) → TellsBelow Tells 0 []
unfolding TellsBelow
nothing Tells = refl

one_more : (Tells : ℕ → List ℕ → Type 0) (n : ℕ) (before here : List ℕ) → TellsBelow Tells n before → Tells n here → TellsBelow Tells (suc n) (before ++ here)
unfolding TellsBelow
one_more Tells n before here told tells = (before, here, told, tells, refl)

one_up : (Tells : ℕ → List ℕ → Type 0) (n : ℕ) (text : List ℕ) → TellsBelow Tells (suc n) text → TellsBelow Tells (n + 1) text
one_up Tells n text told = let next : suc n ≡ n + 1 = omega arith in subst (λ (m : ℕ). TellsBelow Tells m text) next told

pub wrote_nothing : (Tells : ℕ → List ℕ → Type 0) (old : Option (List ℕ)) → Wrote Tells 0 old old
wrote_nothing Tells old = ([], nothing Tells, Appends-nil old)

-- of one more
pub wrote_more : (Tells : ℕ → List ℕ → Type 0) (n : ℕ) (old mid new : Option (List ℕ)) (here : List ℕ) → Tells n here → Appends mid new here → Wrote Tells n old mid → Wrote Tells (n + 1) old new
wrote_more Tells n old mid new here tells more before =
    (before.0 ++ here, one_up Tells n (before.0 ++ here) (one_more Tells n before.0 here before.1 tells), Appends-trans old mid new before.0 here before.2 more)

-- of one more, of which nothing is told
pub wrote_none : (Tells : ℕ → List ℕ → Type 0) (n : ℕ) (old mid : Option (List ℕ)) → Tells n [] → Wrote Tells n old mid → Wrote Tells (n + 1) old mid
wrote_none Tells n old mid tells before =
    (before.0, subst (λ (text : List ℕ). TellsBelow Tells (n + 1) text) (append-nil before.0) (one_up Tells n (before.0 ++ []) (one_more Tells n before.0 [] before.1 tells)), before.2)

-- three texts, one behind another
pub wrote_three : (old a b new : Option (List ℕ)) (x y z : List ℕ) → Appends old a x → Appends a b y → Appends b new z → Appends old new (x ++ (y ++ z))
wrote_three old a b new x y z first second third = Appends-trans old a new x (y ++ z) first (Appends-trans a b new y z second third)

module _ (written : BankAddress → BankNumbers → List ℕ) (r : CommandRules) (list : List Issued) (number : ℕ) (at : BankAddress) (is : at ≡ bank_numbered number) where
  -- a bank that the geometry has, and one that it hasn't
  pub bank_told : (n : BankNumbers) → HasBank r.geometry at → AreNumbersOfBank at list n → TellsNumbered written r list number (if is_none n then [] else written at n)
  bank_told n has are = inl (
    subst (λ (bank : BankAddress). HasBank r.geometry bank) is has,
    (
      n,
      subst (λ (bank : BankAddress). AreNumbersOfBank bank list n) is are,
      ap (λ (bank : BankAddress). if is_none n then [] else written bank n) is,
    ),
  )

  pub bank_untold : ¬ HasBank r.geometry at → TellsNumbered written r list number []
  bank_untold none = inr ((λ has. none (subst (λ (bank : BankAddress). HasBank r.geometry bank) (sym is) has)), refl)
