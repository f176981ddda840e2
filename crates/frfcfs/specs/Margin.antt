-- How much time a rank's refresh has left.
use Rattle.std.specs.Prelude.{ℕ, zero, suc, ◌+◌, ◌*◌, ◌≤◌, ◌<◌, ◌⊎◌, max, ltb, if◌then◌else◌, List, fold, IsTrue}
use Rattle.ddr4_timing.specs.declared.command.Command.TheVariants.{PreAll, Ref}
use Rattle.ddr4_timing.specs.declared.command.Stamped.{Stamped}
use Rattle.ddr4_timing.specs.declared.timing.Timing.{Timing}
use Rattle.ddr4_timing.specs.declared.timing.Checked.{Checked}
use Rattle.ddr4_timing.specs.Floors.{floor}
use Rattle.ddr4_timing.specs.Lawful.{AllClosed, IsLawful, last_ref, ref_count, is_asleep}
use Rattle.bank_core.specs.Stands.{with_command}
use Rattle.request_notes.specs.declared.pending.Pending.{Pending}
use Rattle.frfcfs.specs.Next.{HasWork}

-- the most clocks that a PREA waits for an ACT, RD or WR of its rank
abbrev pub row_time : Timing → ℕ
row_time t = max t.t_ras (max t.t_rtp (t.cwl + 4 + t.t_wr))

-- The clock from which the rank is in lead: eight of its REF are owed.
abbrev pub lead_clock : Timing → List Stamped → ℕ → ℕ
lead_clock t list rank = (ref_count rank list + 8) * t.t_refi

-- at how many places below n the numbers of a row are above this one
unfoldable pub above : (ℕ → ℕ) → ℕ → ℕ → ℕ
above f most zero = 0
above f most (suc n) = above f most n + (if ltb most (f n) then 1 else 0)

-- The commands of other ranks that may come before this one's, a clock each: its number, for the PREA of the ranks below it,
-- and one for the REF of each rank that had more of them.
abbrev pub commands_before : Checked → List Stamped → ℕ → ℕ
commands_before c list rank = rank + above (λ other. ref_count other list) (ref_count rank list) c.geometry.ranks

-- The last clock of the PREA that a rank in lead needs. No command of a request goes to the rank from its lead clock on, so
-- its rows have their time row_time later, and other ranks go before.
abbrev pub close_clock : Checked → List Stamped → ℕ → ℕ
close_clock c list rank = lead_clock c.timing list rank + row_time c.timing + commands_before c list rank

-- The last clock of the REF of a rank in lead. At most 2 * ranks - 2 commands come before, so it is less than a close step after
-- the lead clock, and that is less than the interval of t_refi clocks between the lead clock and the deadline.
abbrev pub refresh_clock : Checked → List Stamped → ℕ → ℕ
refresh_clock c list rank = close_clock c list rank + c.timing.t_rp

-- The rank's next REF, with the PREA that it needs, has its time where the last command went at the clock now.
pub record HasTime (c : Checked) (list : List Stamped) (now rank : ℕ) : Type 0 where
  -- no REF was pulled in, and none is to come
  pub refreshed : ref_count rank list * c.timing.t_refi ≤ last_ref rank list
  pub past : last_ref rank list ≤ now
  -- there is a clock for the REF
  pub next : now + 1 ≤ refresh_clock c list rank
  pub refresh : floor c.timing list (Ref rank) ≤ refresh_clock c list rank
  -- and one for the PREA, where a bank is open
  pub close : floor c.timing list (PreAll rank) ≤ max (now + 1) (lead_clock c.timing list rank + row_time c.timing)
  pub opened : ¬ AllClosed c.geometry rank list → now + 1 ≤ close_clock c list rank

-- the clock of the last command, 0 before there is one
unfoldable pub last_clock : List Stamped → ℕ
last_clock list = fold (λ last x. x.clock) 0 list

-- Each rank that is awake has its time.
abbrev pub KeepsMargin : Checked → List Stamped → Type 0
KeepsMargin c list = (rank : ℕ) → rank < c.geometry.ranks → ¬ IsTrue (is_asleep rank list) → HasTime c list (last_clock list) rank

-- The rank's REF is lawful at some clock behind the list, which isn't past its deadline.
abbrev pub MayRefresh : Checked → List Stamped → ℕ → Type 0
MayRefresh c list rank =
    (k : ℕ) × (last_clock list ≤ k) × (k ≤ last_ref rank list + 9 * c.timing.t_refi) × IsLawful c (with_command list k (Ref rank))

-- The rank's PREA is lawful at some clock behind the list, and its REF after it.
abbrev pub MayClose : Checked → List Stamped → ℕ → Type 0
MayClose c list rank =
    (k : ℕ) × (last_clock list ≤ k) × IsLawful c (with_command list k (PreAll rank)) × MayRefresh c (with_command list k (PreAll rank)) rank

-- Every rank had its SRE.
abbrev pub AreAsleep : Checked → List Stamped → Type 0
AreAsleep c list = (rank : ℕ) → rank < c.geometry.ranks → IsTrue (is_asleep rank list)

-- A channel has nothing to send: no request is eligible and no rank is in lead now, or every rank had its SRE.
abbrev pub IsIdle : Checked → List Stamped → List Pending → ℕ → Type 0
IsIdle c list pending now = (¬ HasWork c list pending now) ⊎ AreAsleep c list
