-- The last commands of a list.
use Rattle.std.proofs.Common.{◌≡◌, ℕ, ◌+◌, ◌-◌, List, [], ◌∷◌, ◌++◌, length, drop, sym, ap, ◌∙◌, arith}
use Rattle.std.proofs.lemmas.List.{drop-append-le, drop-drop, length-append, length-drop}

-- of the last ones and one more, the last are those of the whole list with it
pub last-push : {X : Type 0} (n : ℕ) (xs : List X) (x : X) → drop (length (drop (length xs - n) xs ++ x ∷ []) - n) (drop (length xs - n) xs ++ x ∷ []) ≡ drop (length (xs ++ x ∷ []) - n) (xs ++ x ∷ [])
last-push n xs x =
    let b = length xs - n in
    let whole : drop b xs ++ x ∷ [] ≡ drop b (xs ++ x ∷ []) = sym (drop-append-le b xs (x ∷ []) (omega arith)) in
    let size : length (drop b xs ++ x ∷ []) ≡ length xs - b + 1 = length-append (drop b xs) (x ∷ []) ∙ ap (λ (m : ℕ). m + 1) (length-drop b xs) in
    ap (λ (ys : List _). drop (length (drop b xs ++ x ∷ []) - n) ys) whole ∙ drop-drop (length (drop b xs ++ x ∷ []) - n) b (xs ++ x ∷ [])
    ∙ ap (λ (m : ℕ). drop m (xs ++ x ∷ [])) (omega (arith, size, length-append xs (x ∷ [])))
