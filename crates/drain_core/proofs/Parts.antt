-- One part of a drain behind another.
use Rattle.std.proofs.Common.{◌≡◌, ℕ, zero, suc, ◌+◌, List, [], ◌∷◌, ◌++◌, append_assoc, take, drop, arith, refl, sym, ap, subst, ◌∙◌}
use Rattle.std.proofs.lemmas.List.Sums.{sum_by-append}
use Rattle.drain_core.proofs.Common.{ChannelState, Checked, Command, CostNumbers, GoesNext, GoesTo, IssuesFor, Stamped}
use Rattle.drain_core.proofs.Common.{StepEnd, TakesOldest, Timing, max, placed_writes, progress_of, writes_by}
use Rattle.energy_budget.specs.CostNumbers.{command_cost}
use Rattle.wpq_core.specs.declared.queue.PendingWrite.{PendingWrite}
use Rattle.wpq_core.specs.PendingMemory.{after_pending}
use Rattle.drain_core.specs.Drain.{Progress, for_each_rank, rest_clock, after_rest, with_earliest}

-- commands

pub issues_then : (n : CostNumbers) (first second : ℕ) (old mid new : List Stamped) → IssuesFor n first old mid → IssuesFor n second mid new → IssuesFor n (first + second) old new
issues_then n first second old mid new i j = record {
  commands = i.commands ++ j.commands;
  list = j.list ∙ ap (λ (list : List Stamped). list ++ j.commands) i.list ∙ append_assoc old i.commands j.commands;
  is = let e = sum_by-append (λ x. command_cost n x.cmd) i.commands j.commands in let l = i.is in let m = j.is in omega (arith, e, l, m);
}

issues_one : (n : CostNumbers) (t : Timing) (cmd : Command) (p : Progress) → IssuesFor n (command_cost n cmd) p.list (with_earliest t cmd p).list
unfolding with_earliest
issues_one n t cmd p = record { commands = _; list = refl; is = omega arith }

-- writes

drop_drop : {X : Type 0} (a b k : ℕ) (xs : List X) → k ≡ a + b → drop b (drop a xs) ≡ drop k xs
drop_drop zero b k xs e = ap (λ (n : ℕ). drop n xs) (let l : b ≡ k = omega (arith, e) in l)
drop_drop (suc a) zero k [] e = ap (λ (n : ℕ). drop n []) (let l : suc a ≡ k = omega (arith, e) in l)
drop_drop (suc a) (suc b) zero [] e = refl
drop_drop (suc a) (suc b) (suc k) [] e = refl
drop_drop (suc a) b zero (x ∷ xs) e = absurd (omega (arith, e))
drop_drop (suc a) b (suc k) (x ∷ xs) e = drop_drop a b k xs (omega (arith, e))

after_both : (a b k : ℕ) (array : List (List ℕ)) (writes : List PendingWrite) → k ≡ a + b → after_pending (after_pending array (take a writes)) (take b (drop a writes)) ≡ after_pending array (take k writes)
after_both zero b k array writes e = ap (λ (n : ℕ). after_pending array (take n writes)) (let l : b ≡ k = omega (arith, e) in l)
after_both (suc a) zero zero array [] e = refl
after_both (suc a) zero (suc k) array [] e = refl
after_both (suc a) (suc b) zero array [] e = refl
after_both (suc a) (suc b) (suc k) array [] e = refl
after_both (suc a) b zero array (w ∷ writes) e = absurd (omega (arith, e))
after_both (suc a) b (suc k) array (w ∷ writes) e = after_both a b k (after_pending array (w ∷ [])) writes (omega (arith, e))

-- a channel whose oldest writes, so many of them, went into the array, with what may change taken from another
took : ℕ → ChannelState → ChannelState → ChannelState
took count old new = record old {
  array = after_pending old.array (take count old.writes);
  writes = drop count old.writes;
  tickets = new.tickets;
  requests = new.requests;
  commands = new.commands;
  phase = new.phase;
}

pub takes_then : (a b k : ℕ) (old mid new : ChannelState) → k ≡ a + b → TakesOldest a old mid → TakesOldest b mid new → TakesOldest k old new
unfolding took
takes_then a b k old mid new e i j = record {
  same = j.same ∙ ap (λ (s : ChannelState). took b s new) i.same
      ∙ ap (λ (array : List (List ℕ)). record (took k old new) { array = array; writes = drop b (drop a old.writes) }) (after_both a b k old.array old.writes e)
      ∙ ap (λ (writes : List PendingWrite). record (took k old new) { writes = writes }) (drop_drop a b k old.writes e);
  placed = j.placed ∙ ap (drop b) i.placed ∙ drop_drop a b k (placed_writes old) e;
  lost = λ none. j.lost (i.lost none);
}

pub takes_checked : (count : ℕ) (old new : ChannelState) → TakesOldest count old new → new.checked ≡ old.checked
takes_checked count old new i = ap (λ (s : ChannelState). s.checked) i.same

-- both

pub goes_then : (n : CostNumbers) (p : Progress) (a k : ℕ) (cmd : Command) (old mid new : ChannelState) (before after : StepEnd) → k ≡ a + writes_by cmd → GoesTo n p a old mid before → GoesNext n cmd mid new before after →
    GoesTo n (with_earliest old.checked.timing cmd p) k old new after
goes_then n p a k cmd old mid new before after e i j =
    let t = mid.checked.timing in
    let checked = ap (λ (c : Checked). with_earliest c.timing cmd p) (takes_checked a old mid i.takes) in
    let list = ap (λ (q : Progress). q.list) j.progress in
    let one = subst (λ (list : List Stamped). IssuesFor n (command_cost n cmd) mid.commands list) (sym list) (issues_one n t cmd (progress_of mid before.clock)) in record {
      progress = j.progress ∙ ap (with_earliest t cmd) i.progress ∙ checked;
      cost = subst (λ (cost : ℕ). IssuesFor n cost old.commands new.commands) (sym j.cost) (issues_then n before.cost (command_cost n cmd) old.commands mid.commands new.commands i.cost one);
      takes = takes_then a (writes_by cmd) k old mid new e i.takes j.takes;
    }

-- and the wait behind it
pub goes_rested : (n : CostNumbers) (p : Progress) (k : ℕ) (old new : ChannelState) (end : StepEnd) (clock : ℕ) → GoesTo n p k old new end → clock ≡ max end.clock (rest_clock new.checked.timing new.commands) → GoesTo n (after_rest old.checked.timing p) k old new (record { clock = clock; cost = end.cost })
unfolding after_rest
goes_rested n p k old new end clock i e =
    let checked = ap (λ (c : Checked). after_rest c.timing p) (takes_checked k old new i.takes) in record {
      progress = ap (λ (clock : ℕ). progress_of new clock) e ∙ ap (after_rest new.checked.timing) i.progress ∙ checked;
      cost = i.cost;
      takes = i.takes;
    }

-- a further rank

pub next_rank : (step : ℕ → Progress → Progress) (rank : ℕ) (p : Progress) → for_each_rank step (rank + 1) p ≡ step rank (for_each_rank step rank p)
next_rank step rank p = ap (λ (n : ℕ). for_each_rank step n p) (let e : rank + 1 ≡ suc rank = omega arith in e)

-- what holds of where a part has come to holds of the channel
pub at_mid : (n : CostNumbers) (p : Progress) (k : ℕ) (old mid : ChannelState) (end : StepEnd) → GoesTo n p k old mid end → (P : Checked → Progress → Type 0) → P old.checked p → P mid.checked (progress_of mid end.clock)
at_mid n p k old mid end i P h = subst (λ (c : Checked). P c (progress_of mid end.clock)) (sym (takes_checked k old mid i.takes)) (subst (λ (q : Progress). P old.checked q) (sym i.progress) h)
