use Rattle.std.proofs.Common.{rules, ℕ, ◌<◌, length, List, [], ◌∷◌, arith}
use Rattle.channel_set.proofs.at_once.drain_ports.Goals as goal

-- what is so for any element is so where a list has one
of_element : {A P : Type 0} (xs : List A) (i : ℕ) → i < length xs → (A → P) → P
of_element [] i below holds = absurd (omega (arith, below))
of_element (x ∷ xs) i below holds = holds x

-- each call waited at its place
pub returns-clause-asked : goal.returns-clause-asked
returns-clause-asked g c i below = of_element c.args.ports.now i below (λ d. search (rules, c.for_each_mut.ensures i d below))
