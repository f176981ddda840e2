-- What the commands of a drain cost at the most, without their clocks.
use Rattle.std.proofs.Common.{◌≡◌, ℕ, zero, suc, ◌+◌, ◌*◌, ◌≤◌, Bool, true, false, cond, List, [], ◌∷◌, ◌++◌, append_assoc, length, drop, arith, refl, sym, ap, ◌∙◌}
use Rattle.std.proofs.Math.Seq.{drop-append_seam}
use Rattle.std.proofs.lemmas.List.Sums.{sum_by-append}
use Rattle.drain_core.proofs.Common.{Act, Command, CostNumbers, Geometry, Place, Pre, PreAll, Ref, Sre, Stamped, Timing}
use Rattle.drain_core.proofs.Common.{Wr, append-nil, bank_at, commands_cost}
use Rattle.energy_budget.specs.CostNumbers.{command_cost}
use Rattle.drain_core.specs.Drain.{Progress, with_earliest, for_each_rank, after_rest, has_open_bank, owes_refresh, close_rank, close_step_of, refresh_rank, after_refreshes, entry_step_of, entry_steps_of, after_self_refresh}

-- Between two moments of a drain commands of this cost at the most were issued.
pub record Issues (n : CostNumbers) (most : ℕ) (old new : Progress) : Type 0 where
  pub commands : List Stamped
  pub list : new.list ≡ old.list ++ commands
  pub cost : commands_cost n commands ≤ most

module _ (n : CostNumbers) where
  issues_more : (fewer more : ℕ) (old new : Progress) → fewer ≤ more → Issues n fewer old new → Issues n more old new
  issues_more fewer more old new h i = record { commands = i.commands; list = i.list; cost = let l = i.cost in omega (arith, h, l) }

  issues_none : (p : Progress) → Issues n 0 p p
  issues_none p = record { commands = []; list = sym (append-nil p.list); cost = omega arith }

  pub issues_both : (first second : ℕ) (old mid new : Progress) → Issues n first old mid → Issues n second mid new → Issues n (first + second) old new
  issues_both first second old mid new i j = record {
    commands = i.commands ++ j.commands;
    list = j.list ∙ ap (λ (list : List Stamped). list ++ j.commands) i.list ∙ append_assoc old.list i.commands j.commands;
    cost = let e = sum_by-append (λ x. command_cost n x.cmd) i.commands j.commands in let l = i.cost in let m = j.cost in omega (arith, e, l, m);
  }

  issues_next : (t : Timing) (cmd : Command) (p : Progress) → Issues n (command_cost n cmd) p (with_earliest t cmd p)
  unfolding with_earliest
  issues_next t cmd p = record { commands = _; list = refl; cost = omega arith }

  rest_issues : (most : ℕ) (t : Timing) (old new : Progress) → Issues n most old new → Issues n most old (after_rest t new)
  unfolding after_rest
  rest_issues most t old new i = record { commands = i.commands; list = i.list; cost = i.cost }

  issues_each : (most : ℕ) (step : ℕ → Progress → Progress) → ((rank : ℕ) (p : Progress) → Issues n most p (step rank p)) → (ranks : ℕ) (p : Progress) → Issues n (ranks * most) p (for_each_rank step ranks p)
  issues_each most step each zero p = issues_more 0 (0 * most) p p (omega arith) (issues_none p)
  issues_each most step each (suc ranks) p =
      let q = for_each_rank step ranks p in
      issues_more (ranks * most + most) (suc ranks * most) p (step ranks q) (omega arith)
      (issues_both (ranks * most) most p q (step ranks q) (issues_each most step each ranks p) (each ranks q))

  -- a command under a test
  issues_if : (test : Bool) (t : Timing) (cmd : Command) (p : Progress) → Issues n (command_cost n cmd) p (cond test (with_earliest t cmd p) p)
  issues_if true t cmd p = issues_next t cmd p
  issues_if false t cmd p = issues_more 0 (command_cost n cmd) p p (omega arith) (issues_none p)

  pub close_issues : (t : Timing) (g : Geometry) (p : Progress) → Issues n (g.ranks * n.e_pre) p (close_step_of t g p)
  unfolding close_step_of
  close_issues t g p =
      rest_issues (g.ranks * n.e_pre) t p (for_each_rank (close_rank t g) g.ranks p)
      (issues_each n.e_pre (close_rank t g) (λ rank q. issues_if (has_open_bank g rank q.list) t (PreAll rank) q) g.ranks p)

  refreshes_issue : (t : Timing) (g : Geometry) (p : Progress) → Issues n (g.ranks * n.e_ref) p (after_refreshes t g p)
  unfolding after_refreshes
  refreshes_issue t g p =
      rest_issues (g.ranks * n.e_ref) t p (for_each_rank (refresh_rank t p) g.ranks p)
      (issues_each n.e_ref (refresh_rank t p) (λ rank q. issues_if (owes_refresh t p.list p.clock rank) t (Ref rank) q) g.ranks p)

  pub entry_issues : (t : Timing) (g : Geometry) (place : Place) (p : Progress) → Issues n (g.ranks * n.e_ref + n.e_act + n.e_col + n.e_pre) p (entry_step_of t g place p)
  unfolding entry_step_of
  entry_issues t g place p =
      let q = after_refreshes t g p in
      let open_at = Act (bank_at place) place.row in
      let write_at = Wr (bank_at place) place.column in
      let refreshes = g.ranks * n.e_ref in
      let opened = with_earliest t open_at q in
      let written = with_earliest t write_at opened in
      let closed = with_earliest t (Pre (bank_at place)) written in
      rest_issues (refreshes + n.e_act + n.e_col + n.e_pre) t p closed
      (issues_both (refreshes + n.e_act + n.e_col) n.e_pre p written closed
      (issues_both (refreshes + n.e_act) n.e_col p opened written
      (issues_both refreshes n.e_act p q opened (refreshes_issue t g p) (issues_next t open_at q))
      (issues_next t write_at opened))
      (issues_next t (Pre (bank_at place)) written))

  pub entries_issue : (t : Timing) (g : Geometry) (places : List Place) (p : Progress) → Issues n (length places * (g.ranks * n.e_ref + n.e_act + n.e_col + n.e_pre)) p (entry_steps_of t g places p)
  entries_issue t g [] p = issues_more 0 (0 * _) p p (omega arith) (issues_none p)
  entries_issue t g (place ∷ places) p =
      let each = g.ranks * n.e_ref + n.e_act + n.e_col + n.e_pre in
      let q = entry_step_of t g place p in
      issues_more (each + length places * each) (suc (length places) * each) p (entry_steps_of t g places q) (omega arith)
      (issues_both each (length places * each) p q (entry_steps_of t g places q) (entry_issues t g place p) (entries_issue t g places q))

  pub sleep_issues : (t : Timing) (g : Geometry) (p : Progress) → Issues n (g.ranks * n.e_sre) p (after_self_refresh t g p)
  unfolding after_self_refresh
  sleep_issues t g p = issues_each n.e_sre (λ rank. with_earliest t (Sre rank)) (λ rank q. issues_next t (Sre rank) q) g.ranks p

-- the commands behind those of a first moment
pub commands_behind : (n : CostNumbers) (most : ℕ) (old new : Progress) → Issues n most old new → commands_cost n (drop (length old.list) new.list) ≤ most
commands_behind n most old new i = rw (i.list, drop-append_seam old.list i.commands) i.cost
