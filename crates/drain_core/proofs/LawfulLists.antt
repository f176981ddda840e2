-- Lawful lists of commands, one command after another.
use Rattle.std.proofs.Common.{◌≡◌, ℕ, ◌+◌, ◌*◌, ◌≤◌, List, [], ◌∷◌, ◌++◌, append_assoc, length, arith, sym, subst}
use Rattle.std.proofs.lemmas.List.Sums.{fold_push}
use Rattle.std.proofs.Math.Seq.{take-append_seam}
use Rattle.drain_core.proofs.Common.{Checked, Command, IsLawful, KeepsRows, Stamped, Timing, append-nil, floor, fold}
use Rattle.drain_core.proofs.Common.{greatest, greatest_push, last_ref, least_clock, max, most_gap, rank_of}
use Rattle.ddr4_timing.proofs.Ready.{lawful_ready, ready_lawful, IsLawful-take, most_gap_some}
use Rattle.bank_core.specs.Stands.{with_command}
use Rattle.drain_core.specs.Drain.{drain_start}

-- a command that the banks want, from its least clock on, before its rank's deadline
pub lawful_next : (c : Checked) (list : List Stamped) (k : ℕ) (cmd : Command) → IsLawful c list → KeepsRows c.geometry list cmd → least_clock c.timing list cmd ≤ k →
    k ≤ last_ref (rank_of cmd) list + 9 * c.timing.t_refi → IsLawful c (with_command list k cmd)
lawful_next c list k cmd lawful rows least in_time =
    lawful_ready c list (record { clock = k; cmd = cmd }) lawful (record { rows = rows; clock = least; in_time = in_time })

-- what the last command of a lawful list had before it
pub record IsLast (c : Checked) (list : List Stamped) (x : Stamped) : Type 0 where
  pub before : IsLawful c list
  pub rows : KeepsRows c.geometry list x.cmd
  pub floor : floor c.timing list x.cmd ≤ x.clock

pub lawful_last : (c : Checked) (list : List Stamped) (x : Stamped) → IsLawful c (list ++ x ∷ []) → IsLast c list x
unfolding least_clock
lawful_last c list x lawful =
    let ready = ready_lawful c list x lawful in record {
      before = subst (λ (front : List Stamped). IsLawful c front) (take-append_seam list (x ∷ [])) (IsLawful-take c (list ++ x ∷ []) (length list) lawful);
      rows = ready.rows;
      floor = omega (arith, ready.clock);
    }

module _ (c : Checked) (P : List Stamped → Type 0) (next : (list : List Stamped) (x : Stamped) → IsLawful c (list ++ x ∷ []) → P list → P (list ++ x ∷ [])) where
  push_on : (before after : List Stamped) → IsLawful c (before ++ after) → P before → P (before ++ after)
  push_on before [] lawful kept = subst P (sym (append-nil before)) kept
  push_on before (x ∷ after) lawful kept =
      let on : (before ++ x ∷ []) ++ after ≡ before ++ x ∷ after = append_assoc before (x ∷ []) after in
      let whole = subst (λ (list : List Stamped). IsLawful c list) (sym on) lawful in
      let front = subst (λ (list : List Stamped). IsLawful c list) (take-append_seam (before ++ x ∷ []) after) (IsLawful-take c ((before ++ x ∷ []) ++ after) (length (before ++ x ∷ [])) whole) in
      subst P on (push_on (before ++ x ∷ []) after whole (next before x front kept))

  -- what holds of no command, and stays with each lawful one more, holds of each lawful list
  pub by_push : P [] → (list : List Stamped) → IsLawful c list → P list
  by_push none list lawful = push_on [] list lawful none

-- the greatest of clocks and gaps

pub greatest_above : (f : Stamped → List Stamped → ℕ) (g : Stamped → ℕ) (e : ℕ) (list : List Stamped) → ((x : Stamped) (later : List Stamped) → f x later ≤ g x + e) → greatest f list ≤ greatest (λ a _. g a) list + e
unfolding greatest
greatest_above f g e [] h = omega arith
greatest_above f g e (a ∷ list) h = let m = greatest_above f g e list h in let n = h a list in omega (arith, m, n)

pub drain_start_push : (list : List Stamped) (x : Stamped) → drain_start (list ++ x ∷ []) ≡ x.clock + 1
unfolding drain_start
drain_start_push list x = fold_push (λ clock y. y.clock + 1) 0 list x

-- a command goes behind all others
floor-latest : (t : Timing) (list : List Stamped) (b : Command) → greatest (λ x _. x.clock + 1) list ≤ floor t list b + 0
unfolding floor
floor-latest t list b = greatest_above (λ a _. a.clock + 1) (λ a. a.clock + most_gap t a.cmd b) 0 list (λ a _. let some = most_gap_some t a.cmd b in omega (arith, some))

start-latest : (start : ℕ) (list : List Stamped) → fold (λ _ x. x.clock + 1) start list ≤ max start (greatest (λ x _. x.clock + 1) list)
unfolding greatest
start-latest start [] = omega arith
start-latest start (a ∷ list) = let h = start-latest (a.clock + 1) list in omega (arith, h)

-- a command goes from the drain's start on at the earliest
pub drain_start-floor : (t : Timing) (list : List Stamped) (b : Command) → drain_start list ≤ floor t list b
unfolding drain_start
drain_start-floor t list b = let s = start-latest 0 list in let f = floor-latest t list b in omega (arith, s, f)

clock_first : (latest floor clock : ℕ) → latest ≤ floor + 0 → floor ≤ clock → max latest (clock + 1) ≤ clock + 1
clock_first latest floor clock h l = omega arith

nothing_later : (c : Checked) → greatest (λ x _. x.clock + 1) [] ≤ drain_start []
unfolding greatest drain_start
nothing_later c = omega arith

-- each command of a lawful list came before the drain's start
pub latest-le : (c : Checked) (list : List Stamped) → IsLawful c list → greatest (λ x _. x.clock + 1) list ≤ drain_start list
latest-le c list lawful =
    by_push c (λ list. greatest (λ x _. x.clock + 1) list ≤ drain_start list)
    (λ front x whole _.
    let last = lawful_last c front x whole in
    let before = floor-latest c.timing front x.cmd in
    rw (greatest_push (λ a. a.clock + 1) front x, drain_start_push front x) (clock_first _ _ _ before last.floor))
    (nothing_later c) list lawful
