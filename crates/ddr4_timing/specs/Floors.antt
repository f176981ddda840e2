-- The least clock that a list of commands leaves to the next one.
use Rattle.std.specs.Prelude.{ℕ, ◌+◌, ◌*◌, max, ◌==◌, ◌&&◌, if◌then◌else◌, List, [], ◌∷◌, count_by}
use Rattle.ddr4_timing.specs.declared.command.Command.{Command}
use Rattle.ddr4_timing.specs.declared.command.Stamped.{Stamped}
use Rattle.ddr4_timing.specs.declared.timing.Timing.{Timing}
use Rattle.ddr4_timing.specs.Command.{is_act, is_act_of, is_ref, rank_of}
use Rattle.ddr4_timing.specs.Lawful.{ref_count}
use Rattle.ddr4_timing.specs.Gaps.{most_gap}

-- the greatest demand of the commands of a list, each seen with those behind it
unfoldable pub greatest : (Stamped → List Stamped → ℕ) → List Stamped → ℕ
greatest demand [] = 0
greatest demand (a ∷ later) = max (demand a later) (greatest demand later)

-- the least clock that the rules on two commands leave to a command, rule 10 aside
unfoldable pub floor : Timing → List Stamped → Command → ℕ
floor t list b = greatest (λ a _. a.clock + most_gap t a.cmd b) list

-- tFAW after the rank's ACT that has n later ones, 0 where there is none
unfoldable pub window : Timing → ℕ → ℕ → List Stamped → ℕ
window t rank n list =
    greatest (λ a later. if is_act_of rank a.cmd && count_by (λ x. is_act_of rank x.cmd) later == n then a.clock + t.t_faw else 0) list

-- the least clock that every rule but 2 and the latest clock of rule 16 leave to a command
unfoldable pub least_clock : Timing → List Stamped → Command → ℕ
least_clock t list b =
    max (floor t list b) (max (if is_act b then window t (rank_of b) 3 list else 0) (if is_ref b then (ref_count (rank_of b) list + 1) * t.t_refi else 0))
