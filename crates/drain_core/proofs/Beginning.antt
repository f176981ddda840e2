-- Where a drain starts, and how one command of it goes.
use Rattle.std.proofs.Common.{◌≡◌, ℕ, ◌+◌, ◌-◌, List, [], ◌∷◌, Some, None, length, slice_get, arith, refl, ap}
use Rattle.drain_core.proofs.Common.{Checked, Command, IsEarliest, IsLawful, MayGo, Stamped, Timing, fold, last_clock}
use Rattle.drain_core.proofs.Common.{last_commands, least_clock, length-drop, max, with_command}
use Rattle.drain_core.specs.Drain.{drain_start, with_earliest}

no_first : (xs : List Stamped) → slice_get xs 0 ≡ None → xs ≡ []
no_first [] e = refl
no_first (x ∷ xs) e = absurd cc

no_length : (xs : List Stamped) → length xs ≡ 0 → xs ≡ []
no_length [] e = refl
no_length (x ∷ xs) e = absurd (omega (arith, e))

pub none_issued : (list : List Stamped) → slice_get (last_commands list) 0 ≡ None → drain_start list ≡ 0
unfolding drain_start
none_issued list e =
    let none = ap length (no_first (last_commands list) e) in
    let size = length-drop (length list - 64) list in
    rw (no_length list (omega (arith, none, size))) refl

fold_behind : (last : ℕ) (list : List Stamped) → fold (λ _ x. x.clock + 1) (last + 1) list ≡ fold (λ _ x. x.clock) last list + 1
fold_behind last [] = refl
fold_behind last (x ∷ list) = fold_behind x.clock list

pub some_issued : (list : List Stamped) (x : Stamped) → slice_get (last_commands list) 0 ≡ Some x → drain_start list ≡ last_clock list + 1
unfolding drain_start last_clock
some_issued [] x e = absurd cc
some_issued (y ∷ list) x e = fold_behind y.clock list

-- a command goes at its earliest clock
pub lawful_at : (c : Checked) (list : List Stamped) (cmd : Command) (least clock k : ℕ) → IsEarliest c list cmd (Some least) → MayGo c (record { list = list; clock = clock }) cmd → k ≡ max least clock → IsLawful c (with_command list k cmd)
lawful_at c list cmd least clock k e may at = (e.2 k).1 (omega (arith, at), omega (arith, at, e.1, may.in_time))

pub went : (t : Timing) (list new : List Stamped) (cmd : Command) (clock k : ℕ) → k ≡ max clock (least_clock t list cmd) → new ≡ with_command list k cmd → record { list = new; clock = k + 1 } ≡ with_earliest t cmd (record { list = list; clock = clock })
unfolding with_earliest
went t list new cmd clock k at is = rw (is, at) refl
