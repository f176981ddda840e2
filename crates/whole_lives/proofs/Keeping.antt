-- Stores that were formatted and restored.
use Rattle.std.proofs.Common.{◌≡◌, ◌∙◌, ℕ, List, ◌++◌, ap, drop, false, subst, sym, take}
use Rattle.std.specs.Prelude.{Result, Ok, Err, OnOk, is_err}
use Rattle.ddr4_timing.specs.Limits.{lines_of}
use Rattle.nv_profile.specs.declared.profile.Profile.{Profile}
use Rattle.nv_profile.specs.Profile.{IsProfileText}
use Rattle.reply_codes.specs.declared.codes.Told.{Told}
use Rattle.reply_codes.specs.Codes.{restore_told}
use Rattle.slot_store.specs.Formatted.{IsFormatted}
use Rattle.slot_store.specs.declared.restoring.Restored.{Restored}
use Rattle.slot_store.specs.Told.{IsRestored}
use Rattle.whole_lives.specs.Lives.{Formats, Restores}

pub on_good : {T E : Type 0} (result : Result T E) (P : Type 0) → is_err result ≡ false → OnOk result P → P
on_good (Ok value) P none holds = holds
on_good (Err error) P none holds = absurd (let bad : ⊥ = cc in bad)

pub formats : (text before after began ended : List ℕ) (profile : Profile) (lines : ℕ) → IsProfileText text profile → lines ≡ lines_of profile.checked.geometry
    → began ≡ before → after ≡ ended → IsFormatted lines began ended → Formats text before after
formats text before after began ended profile lines of lines_is began_is ended_is formatted = record {
  profile = profile;
  of = of;
  is = subst (λ (n : ℕ). IsFormatted n before after) lines_is
      (subst (λ (bytes : List ℕ). IsFormatted lines bytes after) began_is (subst (λ (bytes : List ℕ). IsFormatted lines began bytes) (sym ended_is) formatted));
}

pub restores : (text bytes began : List ℕ) (profile : Profile) (lines : ℕ) (it : Restored) (answered : Told) (all : List (List ℕ)) → IsProfileText text profile
    → lines ≡ lines_of profile.checked.geometry → began ≡ bytes → IsRestored it lines began → answered ≡ restore_told it.head → all ≡ it.lines.items → Restores text bytes answered all
restores text bytes began profile lines it answered all of lines_is began_is found told_is all_is = record {
  profile = profile;
  of = of;
  it = it;
  is = subst (λ (n : ℕ). IsRestored it n bytes) lines_is (subst (λ (row : List ℕ). IsRestored it lines row) began_is found);
  told_is = told_is;
  all = all_is;
}

-- as many elements as there is room for, in front of what a buffer had
pub in_front : {X : Type 0} (row had part : List X) (count most : ℕ) → count ≡ most → part ≡ take count row → part ++ drop count had ≡ take most row ++ drop most had
in_front row had part count most is part_is =
    ap (λ (front : List _). front ++ drop count had) part_is ∙ ap (λ (n : ℕ). take n row ++ drop n had) is
