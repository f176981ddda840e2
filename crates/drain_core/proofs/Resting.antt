-- By when every bank and rank has rested: as soon as each rank could have its SRE.
use Rattle.std.proofs.Common.{◌≡◌, ℕ, ◌≤◌, ◌<◌, Bool, cond, eqb, List, [], arith, refl, ap}
use Rattle.drain_core.proofs.Common.{Act, Checked, Command, IsLawful, Pre, PreAll, Rd, Ref, Sre, Stamped, Timing, Wr}
use Rattle.drain_core.proofs.Common.{cond-le, floor, floor_push, greatest, max, most_gap, rank_of}
use Rattle.ddr4_timing.specs.Demands.{demand_of}
use Rattle.ddr4_timing.proofs.GapParts.{tells_gaps}
use Rattle.ddr4_timing.proofs.Addresses.{rank_within}
use Rattle.drain_core.specs.Drain.{drain_start, rest_gap, rest_clock}
use Rattle.drain_core.proofs.Gaps.{eqb-same}
use Rattle.drain_core.proofs.LawfulLists.{by_push, drain_start_push, drain_start-floor, lawful_last}
use Rattle.drain_core.proofs.Settling.{rest_clock_push}

-- a rest is what a command asks of the SRE of its rank
idle_rest : (t : Timing) (a : Command) → (demand_of t a).rank_idle ≡ rest_gap t a
idle_rest t (Act at row) = refl
idle_rest t (Rd at column) = refl
idle_rest t (Wr at column) = refl
idle_rest t (Pre at) = refl
idle_rest t (PreAll rank) = refl
idle_rest t (Ref rank) = refl
idle_rest t (Sre rank) = refl

rest-le_gap : (t : Timing) (a : Command) → rest_gap t a ≤ most_gap t a (Sre (rank_of a))
rest-le_gap t a =
    let gap = (tells_gaps t a).sleep (rank_of a) in
    let same = ap (λ (b : Bool). cond b (demand_of t a).rank_idle 0) (eqb-same (rank_of a)) in
    omega (arith, gap, same, idle_rest t a)

gap-le_rest : (t : Timing) (a : Command) (rank : ℕ) → most_gap t a (Sre rank) ≤ max 1 (rest_gap t a)
gap-le_rest t a rank = omega (arith, (tells_gaps t a).sleep rank, cond-le (eqb (rank_of a) rank) (demand_of t a).rank_idle, idle_rest t a)

-- each rank's SRE could go by then
abbrev pub MaySleepBy : Checked → List Stamped → ℕ → Type 0
MaySleepBy c list k = (rank : ℕ) → rank < c.geometry.ranks → floor c.timing list (Sre rank) ≤ k

none_rest : (c : Checked) (k : ℕ) → rest_clock c.timing [] ≤ k
unfolding rest_clock greatest
none_rest c k = omega arith

pub rests_by : (c : Checked) (list : List Stamped) (k : ℕ) → IsLawful c list → MaySleepBy c list k → rest_clock c.timing list ≤ k
rests_by c list k lawful sleeps =
    by_push c (λ list. MaySleepBy c list k → rest_clock c.timing list ≤ k)
    (λ front x whole before sleeps.
    let t = c.timing in
    let last = lawful_last c front x whole in
    let within = rank_within c.geometry x.cmd last.rows.place in
    let here = rest-le_gap t x.cmd in
    let own = sleeps (rank_of x.cmd) within in
    let first = before (λ rank l. let s = sleeps rank l in let p = floor_push t front x (Sre rank) in omega (arith, s, p)) in
    let p = floor_push t front x (Sre (rank_of x.cmd)) in
    rw (rest_clock_push t front x) (omega (arith, here, own, first, p)))
    (λ _. none_rest c k) list lawful sleeps

none_sleeps : (c : Checked) (rank : ℕ) → floor c.timing [] (Sre rank) ≤ max (drain_start []) (rest_clock c.timing [])
unfolding floor greatest
none_sleeps c rank = omega arith

pub sleeps_by : (c : Checked) (list : List Stamped) (rank : ℕ) → IsLawful c list → floor c.timing list (Sre rank) ≤ max (drain_start list) (rest_clock c.timing list)
sleeps_by c list rank lawful =
    by_push c (λ list. floor c.timing list (Sre rank) ≤ max (drain_start list) (rest_clock c.timing list))
    (λ front x whole before.
    let t = c.timing in
    let last = lawful_last c front x whole in
    let start = drain_start-floor t front x.cmd in
    let gap = gap-le_rest t x.cmd rank in
    rw (floor_push t front x (Sre rank), rest_clock_push t front x, drain_start_push front x) (omega (arith, before, last.floor, start, gap)))
    (none_sleeps c rank) list lawful
