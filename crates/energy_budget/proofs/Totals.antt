-- What lists of actions cost, and how many they are.
use Rattle.std.proofs.Common.{◌≡◌, ℕ, ◌+◌, ◌*◌, ◌≤◌, List, [], ◌∷◌, ◌++◌, length, replicate, refl, ap, ◌∙◌, arith, length-append, rules}
use Rattle.std.specs.Prelude.{sum, All}
use Rattle.std.specs.List.{flat_map}
use Rattle.std.proofs.lemmas.List.{length-replicate}
use Rattle.std.proofs.lemmas.List.Elements.{All-append, All-cons, All-nil, All-replicate}
use Rattle.std.proofs.lemmas.List.Folds.{sum_by-replicate}
use Rattle.std.proofs.lemmas.List.Sums.{sum_by-append, sum_by-cons}
use Rattle.energy_budget.specs.declared.action.Action.{Action}
use Rattle.energy_budget.specs.declared.action.Action.TheVariants.{CloseStep, EntryStep, CloseGate, WriteHeader, WritePage, OpenGate, Sync}
use Rattle.energy_budget.specs.declared.costs.Costs.{Costs}
use Rattle.energy_budget.specs.CostNumbers.{page_cost_of, frame_cost_of, repeat_cost_of}
use Rattle.energy_budget.specs.Costs.{close_cost, entry_cost}
use Rattle.energy_budget.specs.Actions.{cost_of, total_cost, dearest_of, drain_actions, page_actions, save_actions, closing_actions, actions_for}
use Rattle.energy_budget.specs.Sums.{reserve, steps}

module _ (costs : Costs) where
  pub total_cost-cons : (a : Action) (rest : List Action) → total_cost costs (a ∷ rest) ≡ cost_of costs a + total_cost costs rest
  unfolding total_cost
  total_cost-cons a rest = sum_by-cons (cost_of costs) a rest

  pub total_cost-append : (xs ys : List Action) → total_cost costs (xs ++ ys) ≡ total_cost costs xs + total_cost costs ys
  unfolding total_cost
  total_cost-append xs ys = sum_by-append (cost_of costs) xs ys

  pub total_cost-replicate : (n : ℕ) (a : Action) → total_cost costs (replicate n a) ≡ n * cost_of costs a
  unfolding total_cost
  total_cost-replicate n a = sum_by-replicate (cost_of costs) n a

  pub total_cost-nil : total_cost costs [] ≡ 0
  unfolding total_cost
  total_cost-nil = refl

  pub cost-page_actions : (pages : ℕ) → total_cost costs (page_actions pages) ≡ pages * page_cost_of costs.numbers + 2 * costs.numbers.e_mark + 2 * costs.numbers.e_sync
  unfolding page_actions
  cost-page_actions pages =
      simp (total_cost-append, total_cost-cons, total_cost-replicate, total_cost-nil) (omega arith)

  pub cost-save_actions : (pages : ℕ) → total_cost costs (save_actions pages) ≡ pages * page_cost_of costs.numbers + frame_cost_of costs.numbers
  unfolding save_actions
  cost-save_actions pages = simp (total_cost-cons, cost-page_actions) (omega arith)

  pub cost-drain_actions : (k : ℕ) → total_cost costs (drain_actions k) ≡ close_cost costs + k * entry_cost costs
  unfolding drain_actions
  cost-drain_actions k = total_cost-cons CloseStep (replicate k EntryStep) ∙ ap (λ (n : ℕ). close_cost costs + n) (total_cost-replicate k EntryStep)

  -- the dearest step of a save, and any of them
  pub cost-dearest : cost_of costs (dearest_of costs.numbers) ≡ repeat_cost_of costs.numbers
  cost-dearest = search rules

  pub repeats-cost : (pages : ℕ) → All (λ action. cost_of costs action ≤ repeat_cost_of costs.numbers) (save_actions pages)
  unfolding save_actions page_actions
  repeats-cost pages =
      let P : Action → Type 0 = λ action. cost_of costs action ≤ repeat_cost_of costs.numbers in
      let gate : P CloseGate = omega arith in
      let header : P WriteHeader = omega arith in
      let sync : P Sync = omega arith in
      let page : P WritePage = omega arith in
      let none : All P [] = All-nil P in
      let last : List Action = Sync ∷ [] in
      let opening : List Action = OpenGate ∷ last in
      let body : List Action = Sync ∷ opening in
      let end : All P (WriteHeader ∷ body) = All-cons P WriteHeader body header (All-cons P Sync opening sync (All-cons P OpenGate last gate (All-cons P Sync [] sync none))) in
      let written : List Action = replicate pages WritePage ++ WriteHeader ∷ body in
      let all : All P written = All-append P (replicate pages WritePage) (WriteHeader ∷ body) (All-replicate P pages WritePage page) end in
      All-cons P CloseGate (Sync ∷ written) gate (All-cons P Sync written sync all)

  pub reserve-closed : (k : ℕ) → reserve costs k ≡ costs.channels * close_cost costs + k * entry_cost costs + costs.pages * page_cost_of costs.numbers + frame_cost_of costs.numbers + costs.retries * repeat_cost_of costs.numbers
  unfolding reserve actions_for
  reserve-closed k =
      simp (total_cost-append, total_cost-replicate, cost-save_actions, cost-dearest) (omega arith)

count-save_actions : (pages : ℕ) → length (save_actions pages) ≡ pages + 6
unfolding save_actions page_actions
count-save_actions pages = simp (length-append, length-replicate) (omega arith)

pub steps-closed : (costs : Costs) (k : ℕ) → steps costs k ≡ k + costs.channels + costs.pages + 6 + costs.retries
unfolding steps actions_for
steps-closed costs k = simp (length-append, length-replicate, count-save_actions) (omega arith)

sum-cons : (k : ℕ) (ks : List ℕ) → sum (k ∷ ks) ≡ k + sum ks
sum-cons k ks = sum_by-cons (λ (n : ℕ). n) k ks

count-drain_actions : (k : ℕ) → length (drain_actions k) ≡ k + 1
unfolding drain_actions
count-drain_actions k = simp length-replicate (omega arith)

-- the drains of channels, one after another
cost-drains : (costs : Costs) (pending : List ℕ) → total_cost costs (flat_map drain_actions pending) ≡ length pending * close_cost costs + sum pending * entry_cost costs
cost-drains costs [] = total_cost-nil costs ∙ omega arith
cost-drains costs (k ∷ ks) =
    rw (total_cost-append costs (drain_actions k) (flat_map drain_actions ks), cost-drain_actions costs k, sum-cons k ks)
    (omega (arith, cost-drains costs ks))

count-drains : (pending : List ℕ) → length (flat_map drain_actions pending) ≡ length pending + sum pending
count-drains [] = omega arith
count-drains (k ∷ ks) =
    rw (length-append (drain_actions k) (flat_map drain_actions ks), count-drain_actions k, sum-cons k ks) (omega (arith, count-drains ks))

pub closing-cost : (costs : Costs) (pending : List ℕ) → length pending ≡ costs.channels → total_cost costs (closing_actions costs.pages pending) + costs.retries * repeat_cost_of costs.numbers ≡ reserve costs (sum pending)
unfolding closing_actions
closing-cost costs pending all =
    rw (total_cost-append costs (flat_map drain_actions pending) (save_actions costs.pages), cost-drains costs pending, cost-save_actions costs costs.pages, reserve-closed costs (sum pending), all)
    (omega arith)

pub closing-steps : (costs : Costs) (pending : List ℕ) → length pending ≡ costs.channels → length (closing_actions costs.pages pending) + costs.retries ≡ steps costs (sum pending)
unfolding closing_actions
closing-steps costs pending all =
    rw (length-append (flat_map drain_actions pending) (save_actions costs.pages), count-drains pending, count-save_actions costs.pages, steps-closed costs (sum pending), all)
    (omega arith)
