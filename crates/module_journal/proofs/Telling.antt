-- Which heads a mark tells, one after another.
use Rattle.std.proofs.Common.{◌≡◌, ◌∙◌, ◌<◌, ◌≤◌, ℕ, List, [], ◌∷◌, ap, arith, drop, drop-cons, get_or, length, refl, sym}
use Rattle.std.specs.Prelude.{Bool, true, false, if◌then◌else◌, nat_lt}
use Rattle.module_journal.specs.Heads.{untold}

-- the first of some heads
first_of : (heads : List ℕ) (head : ℕ) → 0 < length heads → head ≡ get_or heads 0 head → heads ≡ head ∷ drop 1 heads
first_of heads head some is = drop-cons heads 0 head some ∙ ap (λ (h : ℕ). h ∷ drop 1 heads) (sym is)

pub none_told : (mark : ℕ) (heads : List ℕ) (head : ℕ) → 0 < length heads → head ≡ get_or heads 0 head → mark ≤ head → untold mark heads ≡ heads
none_told mark heads head some is above =
    ap (untold mark) (first_of heads head some is)
    ∙ ap (λ (b : Bool). if b then untold mark (drop 1 heads) else head ∷ drop 1 heads) (let e : nat_lt head mark ≡ false = grind (arith, above) in e)
    ∙ sym (first_of heads head some is)

pub one_told : (mark : ℕ) (heads : List ℕ) (head : ℕ) → 0 < length heads → head ≡ get_or heads 0 head → head < mark → untold mark heads ≡ untold mark (drop 1 heads)
one_told mark heads head some is below =
    ap (untold mark) (first_of heads head some is)
    ∙ ap (λ (b : Bool). if b then untold mark (drop 1 heads) else head ∷ drop 1 heads) (let e : nat_lt head mark ≡ true = grind (arith, below) in e)

pub none_there : (mark : ℕ) (heads : List ℕ) → length heads ≡ 0 → untold mark heads ≡ heads
none_there mark [] none = refl
none_there mark (head ∷ heads) none = absurd (omega (arith, none))
