-- The turns of a worker, by what its gate told it and what each turn came to.
use Rattle.std.proofs.Common.{◌≡◌, ℕ, zero, suc, inl, inr, refl, subst}
use Rattle.worker_turns.specs.declared.Turn.{Turn}
use Rattle.worker_turns.specs.declared.Turn.TheVariants.{Go, Hold, Stop}
use Rattle.worker_turns.specs.declared.shift.Shift.{Ghosts}
use Rattle.worker_turns.specs.declared.shift.Working.{Working}
use Rattle.worker_turns.specs.declared.shift.Working.TheVariants.{Worked, Rested, Closed}
use Rattle.worker_turns.specs.declared.turns.Ended.{Ended}
use Rattle.worker_turns.specs.declared.turns.Ended.TheVariants as ended
use Rattle.worker_turns.specs.Shifts.{AsksAndObeys, EndsAt, GivesWay, ObeysGate, RestsIfIdle, TurnByTurn, WorksUntil}
use Rattle.split_board.specs.Turns.{by_gate}

-- What is lent stays as it is at each question, each turn and each rest.
pub record StaysLent {S : Type 0} (G : Ghosts S) (s : S) (says : ℕ → ℕ → Turn → Type 0) (takes : ℕ → Working → Type 0) : Type 0 where
  pub asked : (worker turn : ℕ) (told : Turn) (new : S) → G.asks worker turn told s new → says worker turn told × (new ≡ s)
  pub worked : (worker : ℕ) (done : Working) (new : S) → G.works worker done s new → takes worker done × (new ≡ s)
  pub rested : (idle : ℕ) (new : S) → G.rests idle s new → new ≡ s

module _ {S : Type 0} (G : Ghosts S) (s : S) (says : ℕ → ℕ → Turn → Type 0) (takes : ℕ → Working → Type 0) (stays : StaysLent G s says takes) where
  gives : (idle next : ℕ) (new : S) → GivesWay G idle next s new → GivesWay (by_gate says takes) idle next tt tt × (new ≡ s)
  gives idle next new way = (record { rests = tt; more = way.more }, stays.rested idle new way.rests)

  rests : (done : Working) (idle next : ℕ) (new : S) → RestsIfIdle G done idle next s new → RestsIfIdle (by_gate says takes) done idle next tt tt × (new ≡ s)
  rests Worked idle next new it = ((it.0, refl), it.1)
  rests Rested idle next new it = gives idle next new it
  rests Closed idle next new it = absurd it

  obeys : (worker : ℕ) (told : Turn) (idle next : ℕ) (new : S) → ObeysGate G worker told idle next s new
      → ObeysGate (by_gate says takes) worker told idle next tt tt × (new ≡ s)
  obeys worker Go idle next new it =
      let took = stays.worked worker it.0 it.1 it.2 in
      let rest = rests it.0 idle next new (subst (λ (w : S). RestsIfIdle G it.0 idle next w new) took.1 it.3) in
      ((it.0, tt, took.0, rest.0), rest.1)
  obeys worker Hold idle next new it = gives idle next new it
  obeys worker Stop idle next new it = absurd it

  asks : (worker turn idle next : ℕ) (new : S) → AsksAndObeys G worker turn idle next s new
      → AsksAndObeys (by_gate says takes) worker turn idle next tt tt × (new ≡ s)
  asks worker turn idle next new it =
      let asked = stays.asked worker turn it.told it.asked it.asks in
      let took = obeys worker it.told idle next new (subst (λ (w : S). ObeysGate G worker it.told idle next w new) asked.1 it.takes) in
      (record { told = it.told; asked = tt; asks = asked.0; takes = took.0 }, took.1)

  turns : (worker count idle : ℕ) (new : S) → TurnByTurn G worker count idle s new
      → TurnByTurn (by_gate says takes) worker count idle tt tt × (new ≡ s)
  turns worker zero idle new it = ((it.0, refl), it.1)
  turns worker (suc count) idle new it =
      let before = turns worker count it.0 it.1 it.2 in
      let step = asks worker count it.0 idle new (subst (λ (w : S). AsksAndObeys G worker count it.0 idle w new) before.1 it.3) in
      ((it.0, tt, before.0, step.0), step.1)

  ends : (worker turn : ℕ) (why : Ended) (new : S) → EndsAt G worker turn why s new → EndsAt (by_gate says takes) worker turn why tt tt
  ends worker turn ended.Stopped new (inl it) = inl (stays.asked worker turn Stop new it).0
  ends worker turn ended.Stopped new (inr it) = inr (it.0, refl)
  ends worker turn ended.Closed new it =
      let asked = stays.asked worker turn Go it.0 it.1 in
      let took = stays.worked worker Closed new (subst (λ (w : S). G.works worker Closed w new) asked.1 it.2) in
      (tt, asked.0, took.0)

  -- so are all turns of a worker, by the gate and by what each came to
  pub works_by_gate : (worker : ℕ) (why : Ended) (new : S) → WorksUntil G worker why s new → WorksUntil (by_gate says takes) worker why tt tt
  works_by_gate worker why new it =
      let took = turns worker it.turns it.idle it.last it.takes in
      record {
        turns = it.turns;
        idle = it.idle;
        last = tt;
        takes = took.0;
        ends = ends worker it.turns why new (subst (λ (w : S). EndsAt G worker it.turns why w new) took.1 it.ends);
      }
