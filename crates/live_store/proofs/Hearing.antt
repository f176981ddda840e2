-- The lines that were heard.
use Rattle.std.proofs.Common.{◌≡◌, ◌∙◌, ℕ, List, [], ◌∷◌, ◌++◌, ap, map, sym}
use Rattle.std.proofs.lemmas.List.{append-nil, map-append}

pub heard_same : {X : Type 0} (f : X → List ℕ) (old new : List X) → new ≡ old → map f new ≡ map f old ++ []
heard_same f old new same = ap (map f) same ∙ sym (append-nil (map f old))

pub heard_next : {X : Type 0} (f : X → List ℕ) (old new : List X) (x : X) → new ≡ old ++ x ∷ [] → map f new ≡ map f old ++ f x ∷ []
heard_next f old new x is = ap (map f) is ∙ map-append f old (x ∷ [])
