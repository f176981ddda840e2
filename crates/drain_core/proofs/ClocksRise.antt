-- No part of a drain ends before it starts.
use Rattle.std.proofs.Common.{ℕ, zero, suc, ◌≤◌, Bool, true, false, cond, List, [], ◌∷◌, arith}
use Rattle.drain_core.proofs.Common.{Act, Command, Geometry, Place, Pre, PreAll, Ref, Sre, Stamped, Timing, Wr, bank_at}
use Rattle.drain_core.specs.Drain.{Progress, drain_start, with_earliest, for_each_rank, after_rest, has_open_bank, owes_refresh, close_rank, close_step_of, refresh_rank, after_refreshes, entry_step_of, entry_steps_of, after_self_refresh, drain_of}

abbrev Rises : Progress → Progress → Type 0
Rises p q = p.clock ≤ q.clock

rises_next : (t : Timing) (cmd : Command) (p : Progress) → Rises p (with_earliest t cmd p)
unfolding with_earliest
rises_next t cmd p = omega arith

rises_rest : (t : Timing) (p : Progress) → Rises p (after_rest t p)
unfolding after_rest
rises_rest t p = omega arith

rises_if : (b : Bool) (t : Timing) (cmd : Command) (p : Progress) → Rises p (cond b (with_earliest t cmd p) p)
rises_if true t cmd p = rises_next t cmd p
rises_if false t cmd p = omega arith

rises_each : (step : ℕ → Progress → Progress) → ((rank : ℕ) (p : Progress) → Rises p (step rank p)) → (ranks : ℕ) (p : Progress) → Rises p (for_each_rank step ranks p)
rises_each step rises zero p = omega arith
rises_each step rises (suc ranks) p =
    let before = rises_each step rises ranks p in
    let last = rises ranks (for_each_rank step ranks p) in
    omega (arith, before, last)

module _ (t : Timing) (g : Geometry) where
  rises_close : (p : Progress) → Rises p (close_step_of t g p)
  unfolding close_step_of
  rises_close p =
      let q = for_each_rank (close_rank t g) g.ranks p in
      let each = rises_each (close_rank t g) (λ rank p. rises_if (has_open_bank g rank p.list) t (PreAll rank) p) g.ranks p in
      let rest = rises_rest t q in
      omega (arith, each, rest)

  rises_refreshes : (p : Progress) → Rises p (after_refreshes t g p)
  unfolding after_refreshes
  rises_refreshes p =
      let q = for_each_rank (refresh_rank t p) g.ranks p in
      let each = rises_each (refresh_rank t p) (λ rank q. rises_if (owes_refresh t p.list p.clock rank) t (Ref rank) q) g.ranks p in
      let rest = rises_rest t q in
      omega (arith, each, rest)

  rises_entry : (place : Place) (p : Progress) → Rises p (entry_step_of t g place p)
  unfolding entry_step_of
  rises_entry place p =
      let q = after_refreshes t g p in
      let opened = with_earliest t (Act (bank_at place) place.row) q in
      let written = with_earliest t (Wr (bank_at place) place.column) opened in
      let closed = with_earliest t (Pre (bank_at place)) written in
      let first = rises_refreshes p in
      let second = rises_next t (Act (bank_at place) place.row) q in
      let third = rises_next t (Wr (bank_at place) place.column) opened in
      let fourth = rises_next t (Pre (bank_at place)) written in
      let rest = rises_rest t closed in
      omega (arith, first, second, third, fourth, rest)

  rises_entries : (places : List Place) (p : Progress) → Rises p (entry_steps_of t g places p)
  rises_entries [] p = omega arith
  rises_entries (place ∷ places) p =
      let first = rises_entry place p in
      let rest = rises_entries places (entry_step_of t g place p) in
      omega (arith, first, rest)

  rises_sleep : (p : Progress) → Rises p (after_self_refresh t g p)
  unfolding after_self_refresh
  rises_sleep p = rises_each (λ rank. with_earliest t (Sre rank)) (λ rank p. rises_next t (Sre rank) p) g.ranks p

  pub drain_rises : (list : List Stamped) (places : List Place) → drain_start list ≤ (drain_of t g list places).clock
  unfolding drain_of
  drain_rises list places =
      let start : Progress = record { list = list; clock = drain_start list } in
      let p = close_step_of t g start in
      let q = entry_steps_of t g places p in
      let first = rises_close start in
      let entries = rises_entries places p in
      let last = rises_sleep q in
      omega (arith, first, entries, last)
