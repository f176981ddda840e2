-- What holds of eligible requests and of the choice.
use Rattle.std.proofs.Common.{◌∙◌, ◌≡◌, ◌≢◌, ℕ, ◌<◌, List, Some, inl, inr, arith, ap, sym, subst, slice_get}
use Rattle.std.proofs.lemmas.Bool.{cases_order}
use Rattle.frfcfs.proofs.Common.{AreInOrder, Checked, Command, IsCandidate, IsEligible, IsLeast, OfColumn, OfRank, OfRow, OffersRank, Pending, Stamped, Turn, WantsRow, class_of, column_of, tie_break_of}
use Rattle.frfcfs.proofs.Lists.{All-at, one_at, order_at}
use Rattle.frfcfs.proofs.RankOffers.{one_rank}
use Rattle.frfcfs.proofs.Wants.{one_row}

pub eligible_is_first : (pending : List Pending) (i j : ℕ) (p q : Pending) → AreInOrder pending → IsEligible pending i p → j < i → slice_get pending j ≡ Some q → q.line ≢ p.line
eligible_is_first pending i j p q order el less at = All-at (λ q. q.seq < p.seq → q.line ≢ p.line) pending j q el.oldest at (order_at pending j i q p order at el.here less)

-- of two requests neither of which is younger than the other
one_request : (pending : List Pending) (i j : ℕ) (p q : Pending) → AreInOrder pending → slice_get pending i ≡ Some p → slice_get pending j ≡ Some q → p.seq ≡ q.seq → p ≡ q
one_request pending i j p q order at there same =
    elim (cases_order i j) [
      | inl e ↦ one_at pending i j p q at there e
      | inr (inl l) ↦ absurd (omega (arith, order_at pending i j p q order at there l, same))
      | inr (inr l) ↦ absurd (omega (arith, order_at pending j i q p order there at l, same))
    ]

-- of two turns neither of which comes after the other
one_turn : (c : Checked) (list : List Stamped) (pending : List Pending) (k : ℕ) (s t : Turn) (a b : Command) → AreInOrder pending → IsCandidate c list pending k s a → IsCandidate c list pending k t b → class_of s ≡ class_of t → tie_break_of s ≡ tie_break_of t → (s ≡ t) × (a ≡ b)
one_turn c list pending k (OfRank r) (OfRank q) a b order x y class number = (ap OfRank number, one_rank c list k r a b x (subst (λ (n : ℕ). OffersRank c list k n b) (sym number) y))
one_turn c list pending k (OfColumn p) (OfColumn q) a b order x y class number =
    let same = one_request pending x.0 y.0 p q order x.1.here y.1.here number in
    (ap OfColumn same, x.3.1 ∙ ap (λ (z : Pending). column_of z.kind z.place) same ∙ sym y.3.1)
one_turn c list pending k (OfRow p) (OfRow q) a b order x y class number =
    let same = one_request pending x.0 y.0 p q order x.1.here y.1.here number in
    (ap OfRow same, one_row list pending q a b (subst (λ (z : Pending). WantsRow list pending z a) same x.3) y.3)
one_turn c list pending k s t a b order x y class number = absurd (omega (arith, class))

pub one_choice : (c : Checked) (list : List Stamped) (pending : List Pending) (clock : ℕ) (s t : Turn) (a b : Command) → AreInOrder pending → IsLeast c list pending clock s a → IsLeast c list pending clock t b → (s ≡ t) × (a ≡ b)
one_choice c list pending clock s t a b order x y =
    let up = x.least t b y.candidate in
    let down = y.least s a x.candidate in
    let class : class_of s ≡ class_of t = omega (arith, up.class, down.class) in
    one_turn c list pending clock s t a b order x.candidate y.candidate class (omega (arith, up.number class, down.number (sym class)))
