-- From which clock each command of a drain may go, where everything is settled.
use Rattle.std.proofs.Common.{◌≡◌, ℕ, ◌+◌, ◌≤◌, Bool, true, false, cond, List, arith, refl}
use Rattle.drain_core.proofs.Common.{Act, BankAddress, Checked, Command, Pre, PreAll, Rd, Ref, Sre, Stamped, Wr}
use Rattle.drain_core.proofs.Common.{and_parts, count_by, floor, is_act_of, least_clock, most_gap, window, ◌&&◌, ◌==◌}
use Rattle.drain_core.proofs.Gaps.{settle_gap, gap-Act, gap-Wr, gap-Pre, gap-Ref, gap-Sre}
use Rattle.drain_core.proofs.LawfulLists.{greatest_above}
use Rattle.drain_core.proofs.Settling.{settle_clock}

window-one : (p : Bool) (cmd : Command) (clock faw settle : ℕ) → (p ≡ true → faw ≤ settle) → cond p (clock + faw) 0 ≤ clock + settle + 0
window-one true cmd clock faw settle h = let l = h refl in omega (arith, l)
window-one false cmd clock faw settle h = omega arith

module _ (c : Checked) where
  faw-le : (rank : ℕ) (a : Command) → is_act_of rank a ≡ true → c.timing.t_faw ≤ settle_gap c.timing a
  faw-le rank (Act at row) e = c.fits_faw.t_faw
  faw-le rank (Rd at column) e = absurd cc
  faw-le rank (Wr at column) e = absurd cc
  faw-le rank (Pre at) e = absurd cc
  faw-le rank (PreAll r) e = absurd cc
  faw-le rank (Ref r) e = absurd cc
  faw-le rank (Sre r) e = absurd cc

  window-le : (rank : ℕ) (list : List Stamped) → window c.timing rank 3 list ≤ settle_clock c.timing list
  unfolding window settle_clock
  window-le rank list =
      let each = greatest_above (λ a later. cond (is_act_of rank a.cmd && count_by (λ x. is_act_of rank x.cmd) later == 3) (a.clock + c.timing.t_faw) 0) (λ a. a.clock + settle_gap c.timing a.cmd) 0 list
      (λ a later. window-one (is_act_of rank a.cmd && count_by (λ x. is_act_of rank x.cmd) later == 3) a.cmd a.clock c.timing.t_faw (settle_gap c.timing a.cmd)
      (λ e. faw-le rank a.cmd (and_parts (is_act_of rank a.cmd) (count_by (λ x. is_act_of rank x.cmd) later == 3) e).0)) in
      omega (arith, each)

  -- a command waits no longer than all settles, and a little more
  floor-le : (b : Command) (more : ℕ) (list : List Stamped) → ((a : Command) → most_gap c.timing a b ≤ settle_gap c.timing a + more) → floor c.timing list b ≤ settle_clock c.timing list + more
  unfolding floor settle_clock
  floor-le b more list h = greatest_above (λ a _. a.clock + most_gap c.timing a.cmd b) (λ a. a.clock + settle_gap c.timing a.cmd) more list (λ a _. let l = h a.cmd in omega (arith, l))

  pub least-Act : (list : List Stamped) (bank : BankAddress) (row : ℕ) → least_clock c.timing list (Act bank row) ≤ settle_clock c.timing list
  unfolding least_clock
  least-Act list bank row =
      let f = floor-le (Act bank row) 0 list (λ a. let g = gap-Act c a bank row in omega (arith, g)) in
      let w = window-le bank.rank list in
      omega (arith, f, w)

  pub floor-Wr : (list : List Stamped) (bank : BankAddress) (column : ℕ) → floor c.timing list (Wr bank column) ≤ settle_clock c.timing list + c.timing.t_rcd
  floor-Wr list bank column = floor-le (Wr bank column) c.timing.t_rcd list (λ a. gap-Wr c a bank column)

  pub floor-Pre : (list : List Stamped) (bank : BankAddress) → floor c.timing list (Pre bank) ≤ settle_clock c.timing list
  floor-Pre list bank = let f = floor-le (Pre bank) 0 list (λ a. let g = gap-Pre c a bank in omega (arith, g)) in omega (arith, f)

  pub floor-Ref : (list : List Stamped) (rank : ℕ) → floor c.timing list (Ref rank) ≤ settle_clock c.timing list
  floor-Ref list rank = let f = floor-le (Ref rank) 0 list (λ a. let g = gap-Ref c a rank in omega (arith, g)) in omega (arith, f)

  pub floor-Sre : (list : List Stamped) (rank : ℕ) → floor c.timing list (Sre rank) ≤ settle_clock c.timing list
  floor-Sre list rank = let f = floor-le (Sre rank) 0 list (λ a. let g = gap-Sre c a rank in omega (arith, g)) in omega (arith, f)
