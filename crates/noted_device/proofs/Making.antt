-- What one noted change more makes of a store.
use Rattle.std.proofs.Common.{◌≡◌, ◌∙◌, ℕ, List, [], ◌∷◌, ◌++◌, ap, false, refl, sym}
use Rattle.std.proofs.lemmas.List.{map-append}
use Rattle.std.specs.Prelude.{Result, Ok, Err, IfOk, IsOk, is_err, is_ok, map}
use Rattle.std.specs.Bool.{OnTrue}
use Rattle.save_device.specs.Changes.{Change, changed}
use Rattle.noted_device.specs.declared.notes.Note.{Note}
use Rattle.noted_device.specs.Notes.{change_of, made_of}

-- changes that are made behind others
made_behind : (first then : List Change) (row : List ℕ) → made_of (first ++ then) row ≡ made_of then (made_of first row)
made_behind [] then row = refl
made_behind (change ∷ first) then row = made_behind first then (changed change row)

made_handed : (handed notes : List Note) (row : List ℕ) → made_of (map change_of (handed ++ notes)) row ≡ made_of (map change_of notes) (made_of (map change_of handed) row)
made_handed handed notes row = ap (λ (changes : List Change). made_of changes row) (map-append change_of handed notes) ∙ made_behind (map change_of handed) (map change_of notes) row

-- one change more
pub made_more : (handed old new : List Note) (change : Change) (row : List ℕ) → map change_of new ≡ map change_of old ++ change ∷ []
    → made_of (map change_of (handed ++ new)) row ≡ changed change (made_of (map change_of (handed ++ old)) row)
made_more handed old new change row more =
    made_handed handed new row ∙ ap (λ (changes : List Change). made_of changes (made_of (map change_of handed) row)) more
    ∙ made_behind (map change_of old) (change ∷ []) (made_of (map change_of handed) row) ∙ ap (changed change) (sym (made_handed handed old row))

-- what holds of a result that is no error
pub if_good : {T E : Type 0} (result : Result T E) (P : Type 0) → is_err result ≡ false → IfOk result (λ value. P) → P
if_good (Ok value) P none holds = holds
if_good (Err error) P none holds = absurd (let bad : ⊥ = cc in bad)

pub on_ok : {T E : Type 0} {P : Type 0} (result : Result T E) → IsOk result → OnTrue (is_ok result) P → P
on_ok (Ok value) is holds = holds
on_ok (Err error) is holds = absurd (let bad : ⊥ = cc in bad)
