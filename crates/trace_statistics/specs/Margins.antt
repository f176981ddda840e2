-- How far the refreshes of a rank lie apart, and what the rules on refreshes and on four ACT left to spare: the greatest and the least
-- of what each command gives, seen with those before it.
use Rattle.std.specs.Prelude.{◌≡◌, ℕ, ◌+◌, ◌-◌, ◌*◌, ◌/◌, ◌&&◌, ◌==◌, if◌then◌else◌, not, min, max, List, [], ◌∷◌, ◌++◌, fold, Option, Some, None}
use Rattle.ddr4_timing.specs.Command.{is_act_of, is_ref_of, rank_of}
use Rattle.ddr4_timing.specs.Floors.{window}
use Rattle.ddr4_timing.specs.Lawful.{last_ref, ref_count}
use Rattle.ddr4_timing.specs.declared.command.Stamped.{Stamped}
use Rattle.ddr4_timing.specs.declared.timing.Timing.{Timing}
use Rattle.trace_statistics.specs.declared.margins.Margins.{Margins}
use Rattle.trace_statistics.specs.Numbers.{told}

-- a command, and those before it
pub record Turn : Type 0 where
  pub before : List Stamped
  pub next : Stamped

-- the commands of a list behind another one, each with all before it
abbrev pub turns_behind : List Stamped → List Stamped → List Turn
turns_behind before [] = []
turns_behind before (x ∷ list) = record { before = before; next = x } ∷ turns_behind (before ++ x ∷ []) list

-- the commands of a list, each with those before it
unfoldable pub turns : List Stamped → List Turn
turns list = turns_behind [] list

-- the greatest of what they give, and the least, of those that give something
abbrev pub greatest_of : (Turn → ℕ) → List Stamped → ℕ
greatest_of gives list = fold (λ most x. max most (gives x)) 0 (turns list)

abbrev pub lesser : Option ℕ → Option ℕ → Option ℕ
lesser None n = n
lesser (Some m) None = Some m
lesser (Some m) (Some n) = Some (min m n)

abbrev pub least_of : (Turn → Option ℕ) → List Stamped → Option ℕ
least_of gives list = fold (λ least x. lesser least (gives x)) None (turns list)

-- how far a REF of the rank lies behind the one before, or behind clock 0
abbrev pub distance : ℕ → Turn → ℕ
distance rank x = if is_ref_of rank x.next.cmd then x.next.clock - last_ref rank x.before else 0

-- how many clocks later a command to the rank could have gone by the rule on refreshes
abbrev pub refresh_margin : Timing → ℕ → Turn → Option ℕ
refresh_margin t rank x =
    if rank_of x.next.cmd == rank then Some (last_ref rank x.before + 9 * t.t_refi - x.next.clock) else None

-- how many clocks earlier an ACT of the rank could have gone by the window of four, where the rank had four before it
abbrev pub window_margin : Timing → ℕ → Turn → Option ℕ
window_margin t rank x =
    if is_act_of rank x.next.cmd && not (window t rank 3 x.before == 0) then Some (x.next.clock - window t rank 3 x.before) else None

-- the margins of a rank
pub record AreMarginsOf (t : Timing) (rank : ℕ) (list : List Stamped) (m : Margins) : Type 0 where
  pub refreshes : m.refreshes ≡ told (ref_count rank list)
  pub last : m.last ≡ last_ref rank list
  pub longest : m.longest ≡ greatest_of (distance rank) list
  pub refresh : m.refresh ≡ least_of (refresh_margin t rank) list
  pub window : m.window ≡ least_of (window_margin t rank) list

-- the mean distance of the REF of a rank, from clock 0 to the last, rounded down
abbrev pub mean_of : Margins → ℕ
mean_of m = if m.refreshes == 0 then 0 else m.last / m.refreshes
