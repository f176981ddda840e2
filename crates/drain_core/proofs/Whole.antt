-- A whole drain.
use Rattle.std.proofs.Common.{◌≡◌, ℕ, suc, ◌+◌, ◌-◌, ◌*◌, ◌^◌, ◌≤◌, ◌<◌, List, [], ◌∷◌, length, arith}
use Rattle.std.proofs.lemmas.List.Elements.{All-head, All-tail}
use Rattle.std.proofs.Math.Nat.{mul-le-mul_left}
use Rattle.drain_core.proofs.Common.{AfterDrain, AfterEntries, All, AreAwake, CanDrain, Checked, CostNumbers}
use Rattle.drain_core.proofs.Common.{IsBetweenSteps, IsLawful, KeepsMargin, LiesIn, Place, Stamped, close_of, entry_of}
use Rattle.drain_core.proofs.Common.{fold, last_clock}
use Rattle.energy_budget.specs.declared.costs.Costs.{Costs}
use Rattle.energy_budget.specs.Costs.{AreReckonedFor, close_cost, entry_cost}
use Rattle.frfcfs.proofs.refreshes.MarginEnds.{drain_has_time}
use Rattle.drain_core.specs.Drain.{Progress, drain_start, close_step_of, entry_step_of, entry_steps_of, after_self_refresh, drain_of, drain_commands, drain_clocks, drain_spent}
use Rattle.drain_core.proofs.Closing.{close_step}
use Rattle.drain_core.proofs.Entering.{entry_step}
use Rattle.drain_core.proofs.Sleeping.{self_refresh}
use Rattle.drain_core.proofs.Spending.{Issues, issues_both, close_issues, entries_issue, sleep_issues, commands_behind}

-- many entries

one_entry : (k s e n m : ℕ) → k ≤ s + 1 * e → m ≤ k + n * e → m ≤ s + suc n * e
one_entry k s e n m h l = omega (arith, h, l)

pub entry_steps : (c : Checked) (start : Progress) (places : List Place) → All (LiesIn c.geometry) places → IsBetweenSteps c start → AfterEntries c start (length places) (entry_steps_of c.timing c.geometry places start)
entry_steps c start [] lie b = record { between = b; clocks = omega arith }
entry_steps c start (place ∷ places) lie b =
    let p = entry_step_of c.timing c.geometry place start in
    let first = entry_step c start place (All-head (LiesIn c.geometry) place places lie) b in
    let rest = entry_steps c p places (All-tail (LiesIn c.geometry) place places lie) first.between in
    record { between = rest.between; clocks = one_entry p.clock start.clock (entry_of c.timing c.geometry) (length places) _ first.clocks rest.clocks }

whole_clock : (a b d s cl r sum : ℕ) → a + r ≤ s + cl → b ≤ a + sum → d ≡ b + r → d ≤ s + cl + sum
whole_clock a b d s cl r sum h l e = omega arith

pub drains : (c : Checked) (list : List Stamped) (places : List Place) → CanDrain c list → All (LiesIn c.geometry) places → AfterDrain c list (length places) (drain_of c.timing c.geometry list places)
unfolding drain_of
drains c list places can lie =
    let t = c.timing in
    let g = c.geometry in
    let closed = close_step c list can in
    let p = close_step_of t g (record { list = list; clock = drain_start list }) in
    let entries = entry_steps c p places lie closed.between in
    let q = entry_steps_of t g places p in
    let sleep = self_refresh c q entries.between in record {
      lawful = sleep.lawful;
      asleep = sleep.asleep;
      clock = whole_clock p.clock q.clock _ (drain_start list) (close_of t g) g.ranks (length places * entry_of t g) closed.clocks entries.clocks sleep.clock;
    }

pub drain_clocks-le : (c : Checked) (list : List Stamped) (places : List Place) → CanDrain c list → All (LiesIn c.geometry) places → drain_clocks c.timing c.geometry list places ≤ close_of c.timing c.geometry + length places * entry_of c.timing c.geometry
unfolding drain_clocks
drain_clocks-le c list places can lie = let d = (drains c list places can lie).clock in omega (arith, d)

-- the clocks don't come to an end

pub sum_small : (e cl r t k : ℕ) → 2 * (e + cl) + 4 * r ≤ t → t ≤ 1000000 → k ≤ 64 → k * e ≤ 64 * e → cl + k * e ≤ 32500000
sum_small e cl r t k h l m n = omega arith

ends : (s cl sum d : ℕ) → s < 2 ^ 63 - 2 ^ 32 → d ≤ s + cl + sum → cl + sum ≤ 32500000 → d < 2 ^ 63
ends s cl sum d h l m = omega arith

pub drain_ends : (c : Checked) (list : List Stamped) (places : List Place) → CanDrain c list → All (LiesIn c.geometry) places → length places ≤ 64 → (drain_of c.timing c.geometry list places).clock < 2 ^ 63
drain_ends c list places can lie few =
    let e = entry_of c.timing c.geometry in
    ends (drain_start list) (close_of c.timing c.geometry) (length places * e) _ can.early (drains c list places can lie).clock
    (sum_small e (close_of c.timing c.geometry) c.geometry.ranks c.timing.t_refi (length places) c.fits_entry c.in_limits.t_refi.1 few (grind (arith, mul-le-mul_left e few)))

-- what is spent

whole_issues : (n : CostNumbers) (c : Checked) (list : List Stamped) (places : List Place) →
    Issues n (c.geometry.ranks * n.e_pre + length places * (c.geometry.ranks * n.e_ref + n.e_act + n.e_col + n.e_pre) + c.geometry.ranks * n.e_sre) (record { list = list; clock = drain_start list }) (drain_of c.timing c.geometry list places)
unfolding drain_of
whole_issues n c list places =
    let t = c.timing in
    let g = c.geometry in
    let start : Progress = record { list = list; clock = drain_start list } in
    let p = close_step_of t g start in
    let q = entry_steps_of t g places p in
    let d = after_self_refresh t g q in
    let entries = length places * (g.ranks * n.e_ref + n.e_act + n.e_col + n.e_pre) in
    issues_both n (g.ranks * n.e_pre + entries) (g.ranks * n.e_sre) start q d
    (issues_both n (g.ranks * n.e_pre) entries start p q (close_issues n t g start) (entries_issue n t g places p))
    (sleep_issues n t g q)

cost_sum : (r pre ref act col sre clk cl e k clocks cost : ℕ) → cost ≤ r * pre + k * (r * ref + act + col + pre) + r * sre → clk * clocks ≤ clk * (cl + k * e) →
    cost + clk * clocks ≤ r * (pre + sre) + clk * cl + k * (r * ref + act + col + pre + clk * e)
cost_sum r pre ref act col sre clk cl e k clocks cost h l = omega (arith, h, l)

pub drain_spent-le : (c : Checked) (costs : Costs) (list : List Stamped) (places : List Place) → AreReckonedFor c costs → CanDrain c list → All (LiesIn c.geometry) places →
    drain_spent costs.numbers c.timing c.geometry list places ≤ close_cost costs + length places * entry_cost costs
unfolding drain_spent drain_commands
drain_spent-le c costs list places for can lie =
    let n = costs.numbers in
    let cost = commands_behind n _ (record { list = list; clock = drain_start list }) (drain_of c.timing c.geometry list places) (whole_issues n c list places) in
    let clocks = mul-le-mul_left n.e_clk (drain_clocks-le c list places can lie) in
    rw (for.ranks, for.close, for.entry)
    (cost_sum c.geometry.ranks n.e_pre n.e_ref n.e_act n.e_col n.e_sre n.e_clk (close_of c.timing c.geometry) (entry_of c.timing c.geometry) (length places) (drain_clocks c.timing c.geometry list places) _ cost clocks)

-- when a drain may begin

start_behind : (s l : ℕ) (list : List Stamped) → s ≤ l + 1 → fold (λ _ x. x.clock + 1) s list ≤ fold (λ _ x. x.clock) l list + 1
start_behind s l [] h = h
start_behind s l (x ∷ list) h = start_behind (x.clock + 1) x.clock list (omega arith)

drain_start-last : (list : List Stamped) → drain_start list ≤ last_clock list + 1
unfolding drain_start last_clock
drain_start-last list = start_behind 0 0 list (omega arith)

has_clocks : (s now cl e r last t : ℕ) → s ≤ now + 1 → now + 1 + cl + 2 * e + 4 * r < last + 9 * t → s + (cl + r) ≤ last + 9 * t
has_clocks s now cl e r last t h l = omega arith

-- a channel whose refreshes have their time, as long as its clock is at most one command past where its scheduler stops
pub early_lets_drain : (c : Checked) (list : List Stamped) → IsLawful c list → KeepsMargin c list → AreAwake c list → last_clock list < 2 ^ 62 + 2 ^ 24 → CanDrain c list
early_lets_drain c list lawful margin awake early =
    let start = drain_start-last list in record {
      lawful = lawful;
      awake = awake;
      in_time = λ rank within. has_clocks (drain_start list) (last_clock list) (close_of c.timing c.geometry) (entry_of c.timing c.geometry) c.geometry.ranks _ _ start (drain_has_time c list rank margin within (awake rank within));
      early = omega (arith, start, early);
    }

pub margin_lets_drain : (c : Checked) (list : List Stamped) → IsLawful c list → KeepsMargin c list → AreAwake c list → last_clock list < 2 ^ 62 → CanDrain c list
margin_lets_drain c list lawful margin awake early = early_lets_drain c list lawful margin awake (omega (arith, early))
