-- How long a command may have to wait, by its kind.
use Rattle.std.proofs.Common.{◌≡◌, ◌≢◌, ℕ, ◌+◌, ◌≤◌, Bool, true, false, cond, eqb, arith, max, ne_eqb}
use Rattle.ddr4_timing.proofs.Common.{Act, Command, FitsFaw, PreAll, Ref, Timing, demand_of, is_ref, most_gap, rank_of}
use Rattle.ddr4_timing.proofs.GapParts.{tells_gaps}

pub cond-le : (b : Bool) (v : ℕ) → cond b v 0 ≤ v
cond-le true v = omega arith
cond-le false v = omega arith

-- a precharge waits for the rows that it closes
pub most_gap-PreAll : (t : Timing) (a : Command) (rank : ℕ) → FitsFaw t → most_gap t a (PreAll rank) ≤ max 1 (max t.t_ras (max t.t_rtp (t.cwl + 4 + t.t_wr)))
most_gap-PreAll t (Act at row) rank h = omega (arith, (tells_gaps t (Act at row)).pre_all rank, cond-le (eqb at.rank rank) t.t_ras)
most_gap-PreAll t a rank h = omega (arith, (tells_gaps t a).pre_all rank, cond-le (eqb (rank_of a) rank) (demand_of t a).rank_pre_all)

-- a REF waits for precharges and for an earlier REF
pub most_gap-Ref : (t : Timing) (a : Command) (rank : ℕ) → FitsFaw t → most_gap t a (Ref rank) ≤ max 1 (max t.t_rp t.t_rfc)
most_gap-Ref t (Ref r) rank h = omega (arith, (tells_gaps t (Ref r)).refresh rank, cond-le (eqb r rank) t.t_rfc)
most_gap-Ref t a rank h = omega (arith, (tells_gaps t a).refresh rank, cond-le (eqb (rank_of a) rank) (demand_of t a).rank_idle)

-- no command but a REF holds a REF up for longer than a precharge
pub most_gap-Ref_calm : (t : Timing) (a : Command) (rank : ℕ) → is_ref a ≡ false → most_gap t a (Ref rank) ≤ max 1 t.t_rp
most_gap-Ref_calm t (Ref r) rank calm = absurd cc
most_gap-Ref_calm t a rank calm = omega (arith, (tells_gaps t a).refresh rank, cond-le (eqb (rank_of a) rank) (demand_of t a).rank_idle)

-- a PREA closes banks, so it holds no other PREA up
pub most_gap-close : (t : Timing) (r rank : ℕ) → most_gap t (PreAll r) (PreAll rank) ≤ 1
most_gap-close t r rank = omega (arith, (tells_gaps t (PreAll r)).pre_all rank, cond-le (eqb r rank) 0)

-- a command of another rank takes its own clock alone
pub most_gap-Ref_other : (t : Timing) (a : Command) (rank : ℕ) → rank_of a ≢ rank → most_gap t a (Ref rank) ≤ 1
most_gap-Ref_other t a rank n = rw ((tells_gaps t a).refresh rank, ne_eqb (rank_of a) rank n) (omega arith)

pub most_gap-PreAll_other : (t : Timing) (a : Command) (rank : ℕ) → rank_of a ≢ rank → most_gap t a (PreAll rank) ≤ 1
most_gap-PreAll_other t a rank n = rw ((tells_gaps t a).pre_all rank, ne_eqb (rank_of a) rank n) (omega arith)
