-- Where every bank is closed and has rested, nothing else in the list holds the next row up.
use Rattle.std.proofs.Common.{◌≡◌, ℕ, ◌+◌, ◌≤◌, Bool, true, false, cond, List, [], ◌∷◌, ◌++◌, Option, Some, None, inl, inr, arith, refl, sym, ap, ◌∙◌}
use Rattle.drain_core.proofs.Common.{Act, AreClosed, BankAddress, Checked, Command, HasBank, IsLawful, KeepsRows, Pre}
use Rattle.drain_core.proofs.Common.{PreAll, Rd, Ref, Sre, Stamped, Timing, Wr, cases_Bool, eqb-true, floor, greatest}
use Rattle.drain_core.proofs.Common.{greatest_push, max, most_gap, open_row, open_row_push, row_after, ◌==◌}
use Rattle.drain_core.specs.Drain.{rest_gap, rest_clock, drain_start}
use Rattle.drain_core.proofs.Gaps.{uses, is_at, is_at-same, eqb-same, settle_gap, settles-Pre, settles-PreAll}
use Rattle.drain_core.proofs.LawfulLists.{IsLast, lawful_last, by_push, greatest_above, drain_start_push, drain_start-floor}

-- the clock by which all that a bank was used for is settled
abbrev used_until : Timing → BankAddress → List Stamped → ℕ
used_until t bank list = greatest (λ x _. cond (uses bank x.cmd) (x.clock + settle_gap t x.cmd) 0) list

-- the clock by which everything is
unfoldable pub settle_clock : Timing → List Stamped → ℕ
settle_clock t list = greatest (λ x _. x.clock + settle_gap t x.cmd) list

pub settle_clock_push : (t : Timing) (list : List Stamped) (x : Stamped) → settle_clock t (list ++ x ∷ []) ≡ max (settle_clock t list) (x.clock + settle_gap t x.cmd)
unfolding settle_clock
settle_clock_push t list x = greatest_push (λ a. a.clock + settle_gap t a.cmd) list x

pub rest_clock_push : (t : Timing) (list : List Stamped) (x : Stamped) → rest_clock t (list ++ x ∷ []) ≡ max (rest_clock t list) (x.clock + rest_gap t x.cmd)
unfolding rest_clock
rest_clock_push t list x = greatest_push (λ a. a.clock + rest_gap t a.cmd) list x

-- a closed bank has rested since it was used

abbrev IsSettled : Checked → BankAddress → List Stamped → Type 0
IsSettled c bank list = open_row bank list ≡ None → used_until c.timing bank list ≤ rest_clock c.timing list

-- a command that doesn't use the bank and leaves it as it is
abbrev PassesBy : BankAddress → Stamped → Type 0
PassesBy bank x = (uses bank x.cmd ≡ false) × ((row : Option ℕ) → row_after bank row x.cmd ≡ row)

pass_by : (c : Checked) (bank : BankAddress) (list : List Stamped) (x : Stamped) → PassesBy bank x → IsSettled c bank list → IsSettled c bank (list ++ x ∷ [])
pass_by c bank list x p before closed =
    let was = before (sym (p.1 (open_row bank list)) ∙ sym (open_row_push bank list x) ∙ closed) in
    rw (greatest_push (λ a. cond (uses bank a.cmd) (a.clock + settle_gap c.timing a.cmd) 0) list x, p.0, rest_clock_push c.timing list x) (omega (arith, was))

under_test : (b : Bool) (clock settle gap p : ℕ) → (b ≡ true → settle ≤ gap + p) → cond b (clock + settle) 0 ≤ clock + gap + p
under_test true clock settle gap p h = let l = h refl in omega (arith, l)
under_test false clock settle gap p h = omega arith

floor_above : (c : Checked) (bank : BankAddress) (list : List Stamped) (b : Command) → ((a : Command) → uses bank a ≡ true → settle_gap c.timing a ≤ most_gap c.timing a b + c.timing.t_rp) →
    used_until c.timing bank list ≤ floor c.timing list b + c.timing.t_rp
unfolding floor
floor_above c bank list b waits =
    greatest_above (λ a _. cond (uses bank a.cmd) (a.clock + settle_gap c.timing a.cmd) 0) (λ a. a.clock + most_gap c.timing a.cmd b) c.timing.t_rp list
    (λ a _. under_test (uses bank a.cmd) a.clock (settle_gap c.timing a.cmd) (most_gap c.timing a.cmd b) c.timing.t_rp (waits a.cmd))

-- a command that closes it
close_up : (c : Checked) (bank : BankAddress) (list : List Stamped) (x : Stamped) → IsLast c list x → uses bank x.cmd ≡ false → rest_gap c.timing x.cmd ≡ c.timing.t_rp →
    ((a : Command) → uses bank a ≡ true → settle_gap c.timing a ≤ most_gap c.timing a x.cmd + c.timing.t_rp) → IsSettled c bank (list ++ x ∷ [])
close_up c bank list x last none rest waits closed =
    let p = c.timing.t_rp in
    let each = floor_above c bank list x.cmd waits in
    rw (greatest_push (λ a. cond (uses bank a.cmd) (a.clock + settle_gap c.timing a.cmd) 0) list x, none, rest_clock_push c.timing list x, rest) (omega (arith, each, last.floor))

-- a row is open behind a command that uses the bank
opened : (bank at : BankAddress) (row : Option ℕ) (new : ℕ) → is_at bank at ≡ true → row_after bank row (Act at new) ≡ None → ⊥
opened bank at row new e n = absurd (let s = ap (λ (b : Bool). cond b (Some new) row) e in cc)

settled_push : (c : Checked) (bank : BankAddress) (list : List Stamped) (clock : ℕ) (cmd : Command) → IsLawful c (list ++ record { clock = clock; cmd = cmd } ∷ []) → IsSettled c bank list → IsSettled c bank (list ++ record { clock = clock; cmd = cmd } ∷ [])
settled_push c bank list clock (Act at row) lawful before =
    let x : Stamped = record { clock = clock; cmd = Act at row } in
    elim (cases_Bool (is_at bank at)) [
      | inl here ↦ λ closed. absurd (opened bank at (open_row bank list) row here (sym (open_row_push bank list x) ∙ closed))
      | inr other ↦ pass_by c bank list x (other, λ was. ap (λ (b : Bool). cond b (Some row) was) other) before
    ]
settled_push c bank list clock (Rd at column) lawful before =
    let x : Stamped = record { clock = clock; cmd = Rd at column } in
    elim (cases_Bool (is_at bank at)) [
      | inl here ↦ λ closed. absurd ((lawful_last c list x lawful).rows.rows (rw (is_at-same bank at here) (sym (open_row_push bank list x) ∙ closed)))
      | inr other ↦ pass_by c bank list x (other, λ was. refl) before
    ]
settled_push c bank list clock (Wr at column) lawful before =
    let x : Stamped = record { clock = clock; cmd = Wr at column } in
    elim (cases_Bool (is_at bank at)) [
      | inl here ↦ λ closed. absurd ((lawful_last c list x lawful).rows.rows (rw (is_at-same bank at here) (sym (open_row_push bank list x) ∙ closed)))
      | inr other ↦ pass_by c bank list x (other, λ was. refl) before
    ]
settled_push c bank list clock (Pre at) lawful before =
    let x : Stamped = record { clock = clock; cmd = Pre at } in
    elim (cases_Bool (is_at bank at)) [
      | inl here ↦ close_up c bank list x (lawful_last c list x lawful) refl refl (rw (is_at-same bank at here) (λ a e. settles-Pre c a bank e))
      | inr other ↦ pass_by c bank list x (refl, λ was. ap (λ (b : Bool). cond b None was) other) before
    ]
settled_push c bank list clock (PreAll rank) lawful before =
    let x : Stamped = record { clock = clock; cmd = PreAll rank } in
    elim (cases_Bool (rank == bank.rank)) [
      | inl here ↦ close_up c bank list x (lawful_last c list x lawful) refl refl (rw (eqb-true rank bank.rank here) (λ a e. settles-PreAll c a bank e))
      | inr other ↦ pass_by c bank list x (refl, λ was. ap (λ (b : Bool). cond b None was) other) before
    ]
settled_push c bank list clock (Ref rank) lawful before = pass_by c bank list (record { clock = clock; cmd = Ref rank }) (refl, λ was. refl) before
settled_push c bank list clock (Sre rank) lawful before = pass_by c bank list (record { clock = clock; cmd = Sre rank }) (refl, λ was. refl) before

nothing_used : (c : Checked) (bank : BankAddress) → IsSettled c bank []
unfolding greatest rest_clock
nothing_used c bank closed = omega arith

settled : (c : Checked) (bank : BankAddress) (list : List Stamped) → IsLawful c list → IsSettled c bank list
settled c bank list lawful = by_push c (λ list. IsSettled c bank list) (λ front x whole before. settled_push c bank front x.clock x.cmd whole before) (nothing_used c bank) list lawful

-- every bank of the geometry

-- once all that the banks were used for is settled, and each command has rested, everything is settled
abbrev SettlesBy : Checked → List Stamped → Type 0
SettlesBy c list = (k : ℕ) → ((bank : BankAddress) → HasBank c.geometry bank → used_until c.timing bank list ≤ k) → rest_clock c.timing list ≤ k → drain_start list ≤ k → settle_clock c.timing list ≤ k

-- what one more command of the list says
record SettlesLast (c : Checked) (list : List Stamped) (x : Stamped) (k : ℕ) : Type 0 where
  used : (bank : BankAddress) → HasBank c.geometry bank → used_until c.timing bank (list ++ x ∷ []) ≤ k
  rest : x.clock + rest_gap c.timing x.cmd ≤ k
  later : x.clock + 1 ≤ k

use_last : (c : Checked) (list : List Stamped) (x : Stamped) (k : ℕ) (bank : BankAddress) → uses bank x.cmd ≡ true → used_until c.timing bank (list ++ x ∷ []) ≤ k → x.clock + settle_gap c.timing x.cmd ≤ k
use_last c list x k bank e h =
    let p = greatest_push (λ a. cond (uses bank a.cmd) (a.clock + settle_gap c.timing a.cmd) 0) list x in
    let s = ap (λ (b : Bool). cond b (x.clock + settle_gap c.timing x.cmd) 0) e in
    omega (arith, h, p, s)

at_itself : (at : BankAddress) → is_at at at ≡ true
at_itself at = simp eqb-same

settle_last : (c : Checked) (list : List Stamped) (clock k : ℕ) (cmd : Command) → KeepsRows c.geometry list cmd → SettlesLast c list (record { clock = clock; cmd = cmd }) k → clock + settle_gap c.timing cmd ≤ k
settle_last c list clock k (Act at row) rows h = use_last c list (record { clock = clock; cmd = Act at row }) k at (at_itself at) (h.used at rows.place.0)
settle_last c list clock k (Rd at column) rows h = use_last c list (record { clock = clock; cmd = Rd at column }) k at (at_itself at) (h.used at rows.place.0)
settle_last c list clock k (Wr at column) rows h = use_last c list (record { clock = clock; cmd = Wr at column }) k at (at_itself at) (h.used at rows.place.0)
settle_last c list clock k (Pre at) rows h = h.rest
settle_last c list clock k (PreAll rank) rows h = h.rest
settle_last c list clock k (Ref rank) rows h = h.rest
settle_last c list clock k (Sre rank) rows h = h.later

fewer : (t : Timing) (bank : BankAddress) (list : List Stamped) (x : Stamped) (k : ℕ) → used_until t bank (list ++ x ∷ []) ≤ k → used_until t bank list ≤ k
fewer t bank list x k h = let p = greatest_push (λ a. cond (uses bank a.cmd) (a.clock + settle_gap t a.cmd) 0) list x in omega (arith, h, p)

settles_push : (c : Checked) (list : List Stamped) (x : Stamped) → IsLawful c (list ++ x ∷ []) → SettlesBy c list → SettlesBy c (list ++ x ∷ [])
settles_push c list x lawful before k used rest later =
    let last = lawful_last c list x lawful in
    let t = c.timing in
    let r = rw (rest_clock_push t list x) at rest in
    let l = rw (drain_start_push list x) at later in
    let start = drain_start-floor t list x.cmd in
    let front = before k (λ bank h. fewer t bank list x k (used bank h)) (omega (arith, r)) (omega (arith, start, last.floor, l)) in
    let here = settle_last c list x.clock k x.cmd last.rows (record { used = used; rest = omega (arith, r); later = omega (arith, l) }) in
    rw (settle_clock_push t list x) (omega (arith, front, here))

settles_none : (c : Checked) → SettlesBy c []
unfolding settle_clock greatest
settles_none c k used rest later = omega arith

pub settle_clock-le : (c : Checked) (list : List Stamped) (k : ℕ) → IsLawful c list → AreClosed c list → rest_clock c.timing list ≤ k → drain_start list ≤ k → settle_clock c.timing list ≤ k
settle_clock-le c list k lawful closed rest later =
    by_push c (λ list. SettlesBy c list) (λ front x whole before. settles_push c front x whole before) (settles_none c) list lawful k
    (λ bank h. let s = settled c bank list lawful (closed bank.rank h.rank bank.group bank.bank h.group h.bank) in omega (arith, s, rest))
    rest later
