-- The gap between two commands comes apart by what they share.
use Rattle.std.proofs.Common.{◌≡◌, ℕ, ◌+◌, Bool, true, false, cond, eqb, refl, arith, max, not}
use Rattle.std.proofs.Math.Nat.{max-zero, zero-max}
use Rattle.std.proofs.lemmas.Bool.Decides.{nat_tests}
use Rattle.ddr4_timing.proofs.Common.{Act, BankAddress, Command, Demand, Pre, PreAll, Rd, Ref, Sre, TellsGaps, Timing, Wr, beyond_rank, demand_of, in_groups, in_rank, is_bank, most_gap, pair_gap}
use Rattle.ddr4_timing.specs.Demands.{in_bank}

pub cond_same : (b : Bool) (k : ℕ) → cond b k k ≡ k
cond_same true k = refl
cond_same false k = refl

cond_not : (b : Bool) (k : ℕ) → cond (not b) k 0 ≡ cond b 0 k
cond_not true k = refl
cond_not false k = refl

add_cond : (b c : Bool) (k v w : ℕ) → cond b (k + cond c v w) 0 ≡ cond b (cond c (k + v) (k + w)) 0
add_cond true true k v w = refl
add_cond true false k v w = refl
add_cond false c k v w = refl

eqb_back : (m n : ℕ) → eqb m n ≡ eqb n m
eqb_back m n = grind (arith, nat_tests)

bank_back : (a b : BankAddress) → is_bank a b ≡ is_bank b a
bank_back a b = let r = eqb_back a.rank b.rank in let g = eqb_back a.group b.group in let k = eqb_back a.bank b.bank in cc

-- what a demand asks of a command
abbrev asked : Demand → Command → Command → ℕ
asked d a (Act at row) = max (in_bank a at d.bank_act) (max (in_groups a at d.near_act d.far_act) (in_rank a at.rank d.rank_act))
asked d a (Rd at column) = max (beyond_rank a at.rank d.beyond) (max (in_bank a at d.bank_column) (in_groups a at d.near_rd d.far_rd))
asked d a (Wr at column) = max (beyond_rank a at.rank d.beyond) (max d.write (max (in_bank a at d.bank_column) (in_groups a at d.near_wr d.far_wr)))
asked d a (Pre at) = in_bank a at d.bank_pre
asked d a (PreAll rank) = in_rank a rank d.rank_pre_all
asked d a (Ref rank) = in_rank a rank d.rank_idle
asked d a (Sre rank) = in_rank a rank d.rank_idle

ruleset gap_terms = (max-zero, zero-max, cond_same, cond_not, add_cond)

gap_parts : (t : Timing) (a b : Command) → most_gap t a b ≡ max 1 (asked (demand_of t a) a b)
unfolding most_gap pair_gap
gap_parts t (Act a v) (Pre b) = rw (bank_back a b) (simp gap_terms (omega arith))
gap_parts t (Rd a v) (Pre b) = rw (bank_back a b) (simp gap_terms (omega arith))
gap_parts t (Wr a v) (Pre b) = rw (bank_back a b) (simp gap_terms (omega arith))
gap_parts t (Act a v) (PreAll rank) = rw (eqb_back a.rank rank) (simp gap_terms (omega arith))
gap_parts t (Rd a v) (PreAll rank) = rw (eqb_back a.rank rank) (simp gap_terms (omega arith))
gap_parts t (Wr a v) (PreAll rank) = rw (eqb_back a.rank rank) (simp gap_terms (omega arith))
gap_parts t (Pre a) (Act b v) = simp gap_terms (omega arith)
gap_parts t (PreAll rank) (Act b v) = simp gap_terms (omega arith)
gap_parts t (Ref rank) (Act b v) = simp gap_terms (omega arith)
gap_parts t (Sre rank) (Act b v) = simp gap_terms (omega arith)
gap_parts t a b = simp gap_terms (omega arith)

pub tells_gaps : (t : Timing) (a : Command) → TellsGaps t a (demand_of t a)
tells_gaps t a = record {
  act = λ at row. gap_parts t a (Act at row);
  rd = λ at column. gap_parts t a (Rd at column);
  wr = λ at column. gap_parts t a (Wr at column);
  pre = λ at. gap_parts t a (Pre at);
  pre_all = λ rank. gap_parts t a (PreAll rank);
  refresh = λ rank. gap_parts t a (Ref rank);
  sleep = λ rank. gap_parts t a (Sre rank);
}
