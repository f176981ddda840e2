-- What the closed-page drain of a channel issues, and when: a function of the commands so far and of the pending writes'
-- places, in number order.
use Rattle.std.specs.Prelude.{ℕ, zero, suc, ◌+◌, ◌-◌, ◌/◌, max, Bool, false, ◌||◌, nat_lt, is_some, if◌then◌else◌, List, [], ◌∷◌, ◌++◌, length, drop, fold}
use Rattle.ddr4_timing.specs.declared.command.Command.{Command}
use Rattle.ddr4_timing.specs.declared.command.Command.TheVariants.{Act, Wr, Pre, PreAll, Ref, Sre}
use Rattle.ddr4_timing.specs.declared.command.Stamped.{Stamped}
use Rattle.ddr4_timing.specs.declared.place.Place.{Place}
use Rattle.ddr4_timing.specs.declared.timing.Timing.{Timing}
use Rattle.ddr4_timing.specs.declared.timing.Geometry.{Geometry}
use Rattle.ddr4_timing.specs.Command.{is_precharge, is_ref}
use Rattle.ddr4_timing.specs.Places.{bank_at}
use Rattle.ddr4_timing.specs.Lawful.{open_row, ref_count}
use Rattle.ddr4_timing.specs.Floors.{greatest, least_clock}
use Rattle.energy_budget.specs.declared.costs.CostNumbers.{CostNumbers}
use Rattle.energy_budget.specs.CostNumbers.{spent_on}

-- How far a drain has come: the commands issued so far, those before it too, and the clock from which the next may go.
pub record Progress : Type 0 where
  pub list : List Stamped
  pub clock : ℕ

-- one past the last command's clock, 0 where there was none
unfoldable pub drain_start : List Stamped → ℕ
drain_start list = fold (λ clock x. x.clock + 1) 0 list

-- the least lawful clock of the command from there on
abbrev pub next_clock : Timing → Command → Progress → ℕ
next_clock t cmd p = max p.clock (least_clock t p.list cmd)

-- the command goes then
unfoldable pub with_earliest : Timing → Command → Progress → Progress
with_earliest t cmd p =
    record { list = p.list ++ record { clock = next_clock t cmd p; cmd = cmd } ∷ []; clock = next_clock t cmd p + 1 }

-- a step of each rank, in rising order
abbrev pub for_each_rank : (ℕ → Progress → Progress) → ℕ → Progress → Progress
for_each_rank step zero p = p
for_each_rank step (suc ranks) p = step ranks (for_each_rank step ranks p)

-- how long a bank or a rank rests behind a command: tRP behind a precharge, tRFC behind a REF
abbrev pub rest_gap : Timing → Command → ℕ
rest_gap t cmd = if is_precharge cmd then t.t_rp else if is_ref cmd then t.t_rfc else 0

-- the first clock by which each precharge has tRP passed, and each REF tRFC
unfoldable pub rest_clock : Timing → List Stamped → ℕ
rest_clock t list = greatest (λ x later. x.clock + rest_gap t x.cmd) list

-- the wait until then
unfoldable pub after_rest : Timing → Progress → Progress
after_rest t p = record { list = p.list; clock = max p.clock (rest_clock t p.list) }

-- one of the numbers below n passes
abbrev pub any_below : (ℕ → Bool) → ℕ → Bool
any_below test zero = false
any_below test (suc n) = any_below test n || test n

-- a bank of the rank is open
unfoldable pub has_open_bank : Geometry → ℕ → List Stamped → Bool
has_open_bank g rank list =
    any_below (λ group. any_below (λ bank. is_some (open_row (record { rank = rank; group = group; bank = bank }) list)) g.banks) g.groups

-- the rank owes a REF at the clock
unfoldable pub owes_refresh : Timing → List Stamped → ℕ → ℕ → Bool
owes_refresh t list clock rank = nat_lt 0 (clock / t.t_refi - ref_count rank list)

-- a PREA, where the rank has an open bank
abbrev pub close_rank : Timing → Geometry → ℕ → Progress → Progress
close_rank t g rank p = if has_open_bank g rank p.list then with_earliest t (PreAll rank) p else p

-- The close step: a PREA of each rank with an open bank, and the wait until every bank and rank has rested.
unfoldable pub close_step_of : Timing → Geometry → Progress → Progress
close_step_of t g p = after_rest t (for_each_rank (close_rank t g) g.ranks p)

-- a REF, where the rank owes one at the start
abbrev pub refresh_rank : Timing → Progress → ℕ → Progress → Progress
refresh_rank t start rank p = if owes_refresh t start.list start.clock rank then with_earliest t (Ref rank) p else p

-- a REF of each rank that owes any where the entry starts, and the wait until each has tRFC passed
unfoldable pub after_refreshes : Timing → Geometry → Progress → Progress
after_refreshes t g p = after_rest t (for_each_rank (refresh_rank t p) g.ranks p)

-- An entry step, of a write's place: the refreshes, ACT, WR and PRE, and the wait of tRP.
unfoldable pub entry_step_of : Timing → Geometry → Place → Progress → Progress
entry_step_of t g place p =
    after_rest t
    (with_earliest t (Pre (bank_at place))
    (with_earliest t (Wr (bank_at place) place.column)
    (with_earliest t (Act (bank_at place) place.row) (after_refreshes t g p))))

abbrev pub entry_steps_of : Timing → Geometry → List Place → Progress → Progress
entry_steps_of t g [] p = p
entry_steps_of t g (place ∷ places) p = entry_steps_of t g places (entry_step_of t g place p)

-- the end of a drain: an SRE of each rank
unfoldable pub after_self_refresh : Timing → Geometry → Progress → Progress
after_self_refresh t g p = for_each_rank (λ rank. with_earliest t (Sre rank)) g.ranks p

-- A whole drain, after these commands and of writes at these places: each step starts where the one before ended.
unfoldable pub drain_of : Timing → Geometry → List Stamped → List Place → Progress
drain_of t g list places =
    after_self_refresh t g (entry_steps_of t g places (close_step_of t g (record { list = list; clock = drain_start list })))

-- its own commands
unfoldable pub drain_commands : Timing → Geometry → List Stamped → List Place → List Stamped
drain_commands t g list places = drop (length list) (drain_of t g list places).list

-- its clocks, from its start to one past the last SRE
unfoldable pub drain_clocks : Timing → Geometry → List Stamped → List Place → ℕ
drain_clocks t g list places = (drain_of t g list places).clock - drain_start list

-- what it spends
unfoldable pub drain_spent : CostNumbers → Timing → Geometry → List Stamped → List Place → ℕ
drain_spent n t g list places = spent_on n (drain_commands t g list places) (drain_clocks t g list places)
