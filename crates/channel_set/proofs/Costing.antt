-- What the drains of ports cost, and what is paid for them.
use Rattle.std.specs.Prelude.{IsErr}
use Rattle.std.proofs.lemmas.Grind.{flat_map-append}
use Rattle.std.proofs.lemmas.List.{append-nil}
use Rattle.std.proofs.lemmas.List.Sums.{sum_by-cons}
use Rattle.std.proofs.Math.Seq.{take-length}
use Rattle.energy_budget.specs.declared.action.Action.{Action}
use Rattle.energy_budget.specs.declared.costs.CostNumbers.{CostNumbers}
use Rattle.energy_budget.specs.Actions.{drain_actions, total_cost}
use Rattle.energy_budget.specs.Costs.{close_cost, entry_cost}
use Rattle.energy_budget.proofs.Totals.{cost-drain_actions, total_cost-append, total_cost-nil}
use Rattle.channel_port.specs.Draining.{Paid, pending_each}
use Rattle.channel_set.proofs.Entries.{lengths}
use Rattle.channel_set.proofs.Common.{arith, ◌≡◌, ◌*◌, ◌+◌, ◌≤◌, length-append, ℕ, zero, suc, refl, ap, ◌∙◌, List, [], ◌∷◌, ◌++◌, AllZip, Costs, Err, Ghosts, Ok, OnOk, Some, Waiting, flat_map, length, same_Some, slice_get, take, writes_on}
use Rattle.channel_set.specs.Draining.{drains_cost}

-- what is paid for the drains of one more channel
pub paid-more : (costs : Costs) (i : ℕ) (writes : List Waiting) → total_cost costs (flat_map drain_actions (pending_each (suc i) writes)) ≡ total_cost costs (flat_map drain_actions (pending_each i writes)) + total_cost costs (drain_actions (writes_on i writes))
paid-more costs i writes =
    ap (total_cost costs) (flat_map-append drain_actions (pending_each i writes) (writes_on i writes ∷ []))
    ∙ total_cost-append costs (flat_map drain_actions (pending_each i writes)) (drain_actions (writes_on i writes) ++ [])
    ∙ ap (λ (xs : List Action). total_cost costs (flat_map drain_actions (pending_each i writes)) + total_cost costs xs) (append-nil (drain_actions (writes_on i writes)))

-- what is paid for the drains of piles
pub cost-piles : {X A : Type 0} (costs : Costs) (f : X → List A) (xs : List X) → total_cost costs (flat_map drain_actions (lengths f xs)) ≡ length xs * close_cost costs + length (flat_map f xs) * entry_cost costs
cost-piles costs f [] = total_cost-nil costs ∙ omega arith
cost-piles costs f (x ∷ xs) =
    rw (total_cost-append costs (drain_actions (length (f x))) (flat_map drain_actions (lengths f xs)), cost-drain_actions costs (length (f x)), length-append (f x) (flat_map f xs))
    (omega (arith, cost-piles costs f xs))

-- nothing is said where a payment was refused
pub none-ok : (X : Type 0) (result : Paid) → IsErr result → OnOk result X
none-ok X (Ok done) is = absurd (let bad : ⊥ = cc in bad)
none-ok X (Err dark) is = tt

module _ {K : Type 0} (L : Ghosts K) (numbers : CostNumbers) where
  abbrev one : K → ℕ
  one port = L.drain_cost port numbers

  -- ports whose drains cost what they did
  pub costs-same : (old new : List K) → AllZip (λ p q. L.drain_cost q ≡ L.drain_cost p) old new → drains_cost L new numbers ≡ drains_cost L old numbers
  costs-same [] [] zip = refl
  costs-same [] (q ∷ new) zip = absurd zip
  costs-same (p ∷ old) [] zip = absurd zip
  costs-same (p ∷ old) (q ∷ new) zip = omega (arith, sum_by-cons one q new, sum_by-cons one p old, costs-same old new zip.1, ap (λ cost. cost numbers) zip.0)

  -- with one port more
  pub cost-more : (ports : List K) (i : ℕ) (p : K) → slice_get ports i ≡ Some p → drains_cost L (take (suc i) ports) numbers ≡ drains_cost L (take i ports) numbers + one p
  cost-more [] i p at = absurd cc
  cost-more (q ∷ ports) zero p at = omega (arith, sum_by-cons one q [], ap one (same_Some q p at))
  cost-more (q ∷ ports) (suc i) p at = omega (arith, sum_by-cons one q (take (suc i) ports), sum_by-cons one q (take i ports), cost-more ports i p at)

  -- of all ports
  pub cost-whole : (ports : List K) (i : ℕ) → i ≡ length ports → drains_cost L (take i ports) numbers ≡ drains_cost L ports numbers
  cost-whole ports i all = ap (λ (n : ℕ). drains_cost L (take n ports) numbers) all ∙ ap (λ (ps : List K). drains_cost L ps numbers) (take-length ports)

  -- each costs no more than is paid for it
  pub cost-covered : (costs : Costs) (f : K → List Waiting) (ports : List K) → ((k : ℕ) (p : K) → slice_get ports k ≡ Some p → one p ≤ total_cost costs (drain_actions (length (f p))))
      → drains_cost L ports numbers ≤ total_cost costs (flat_map drain_actions (lengths f ports))
  cost-covered costs f [] each = omega arith
  cost-covered costs f (p ∷ ports) each =
      omega (
        arith,
        sum_by-cons one p ports,
        total_cost-append costs (drain_actions (length (f p))) (flat_map drain_actions (lengths f ports)),
        each zero p refl,
        cost-covered costs f ports (λ k q at. each (suc k) q at),
      )
