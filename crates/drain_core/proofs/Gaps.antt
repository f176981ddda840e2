-- How long the commands of a drain wait for those before them.
use Rattle.std.proofs.Common.{◌≡◌, ℕ, ◌+◌, ◌≤◌, Bool, true, false, cond, eqb, arith, refl, ap, ◌∙◌}
use Rattle.drain_core.proofs.Common.{Act, BankAddress, Checked, Command, Pre, PreAll, Rd, Ref, Sre, Timing, Wr}
use Rattle.drain_core.proofs.Common.{and_parts, bank_of, cond-le, eq-eqb, eqb-true, is_bank, is_group, max, most_gap}
use Rattle.drain_core.proofs.Common.{rank_of, ◌&&◌, ◌==◌}
use Rattle.ddr4_timing.specs.Demands.{Demand, demand_of}
use Rattle.ddr4_timing.proofs.Addresses.{same_address}
use Rattle.ddr4_timing.proofs.GapParts.{tells_gaps}

-- a clock at least
-- a gap under a test is at most each of two bounds
cond-le2 : (b c : Bool) (v w d : ℕ) → v ≤ d → w ≤ d → cond b (cond c v w) 0 ≤ d
cond-le2 true true v w d h k = h
cond-le2 true false v w d h k = k
cond-le2 false c v w d h k = omega arith

cond_past-le : (b : Bool) (v : ℕ) → cond b 0 v ≤ v
cond_past-le true v = omega arith
cond_past-le false v = omega arith

-- how long all others wait behind a command: until its row was precharged and tRP has passed, or tRFC
abbrev pub settle_gap : Timing → Command → ℕ
settle_gap t (Act at row) = t.t_ras + t.t_rp
settle_gap t (Rd at column) = t.t_rtp + t.t_rp
settle_gap t (Wr at column) = t.cwl + 4 + t.t_wr + t.t_rp
settle_gap t (Pre at) = t.t_rp
settle_gap t (PreAll rank) = t.t_rp
settle_gap t (Ref rank) = t.t_rfc
settle_gap t (Sre rank) = 1

-- the two are one bank
abbrev pub is_at : BankAddress → BankAddress → Bool
is_at bank at = at.rank == bank.rank && at.group == bank.group && at.bank == bank.bank

pub eqb-same : (n : ℕ) → eqb n n ≡ true
eqb-same n = eq-eqb n n refl

pub is_at-same : (bank at : BankAddress) → is_at bank at ≡ true → at ≡ bank
is_at-same bank at e =
    let b = and_parts (at.rank == bank.rank && at.group == bank.group) (at.bank == bank.bank) e in
    let g = and_parts (at.rank == bank.rank) (at.group == bank.group) b.0 in
    same_address at bank (eqb-true at.rank bank.rank g.0) (eqb-true at.group bank.group g.1) (eqb-true at.bank bank.bank b.1)

of_rank : (bank at : BankAddress) → is_at bank at ≡ true → at.rank == bank.rank ≡ true
of_rank bank at e = (and_parts (at.rank == bank.rank) (at.group == bank.group) (and_parts (at.rank == bank.rank && at.group == bank.group) (at.bank == bank.bank) e).0).0

-- the command opens a row of the bank, reads or writes there
abbrev pub uses : BankAddress → Command → Bool
uses bank (Act at row) = is_at bank at
uses bank (Rd at column) = is_at bank at
uses bank (Wr at column) = is_at bank at
uses bank _ = false

-- what a command asks for is over once all has settled, and that of a WR once a row was opened besides
record IsOver (t : Timing) (d : Demand) (settle : ℕ) : Type 0 where
  some : 1 ≤ settle
  pre : d.bank_pre ≤ settle
  idle : d.rank_idle ≤ settle
  bank_act : d.bank_act ≤ settle
  near_act : d.near_act ≤ settle
  far_act : d.far_act ≤ settle
  rank_act : d.rank_act ≤ settle
  column : d.bank_column ≤ settle + t.t_rcd
  beyond : d.beyond ≤ settle + t.t_rcd
  write : d.write ≤ settle + t.t_rcd
  near_wr : d.near_wr ≤ settle + t.t_rcd
  far_wr : d.far_wr ≤ settle + t.t_rcd

module _ (c : Checked) where
  over : (a : Command) → IsOver c.timing (demand_of c.timing a) (settle_gap c.timing a)
  over a =
      let t = c.timing in
      let p = c.in_limits.t_rp.0 in
      let r = c.in_limits.t_rfc.0 in
      let f = c.fits_faw in
      elim a as (λ a. IsOver t (demand_of t a) (settle_gap t a)) [
        | Act at w ↦ record {
          some = omega (arith, p);
          pre = omega arith;
          idle = omega arith;
          bank_act = omega arith;
          near_act = f.t_rrd_l;
          far_act = f.t_rrd_s;
          rank_act = omega arith;
          column = omega arith;
          beyond = omega arith;
          write = omega arith;
          near_wr = omega arith;
          far_wr = omega arith;
        }
        | Rd at w ↦ record {
          some = omega (arith, p);
          pre = omega arith;
          idle = omega arith;
          bank_act = omega arith;
          near_act = omega arith;
          far_act = omega arith;
          rank_act = omega arith;
          column = omega arith;
          beyond = omega (arith, f.t_cs);
          write = omega (arith, f.t_rtw);
          near_wr = omega arith;
          far_wr = omega arith;
        }
        | Wr at w ↦ record {
          some = omega (arith, p);
          pre = omega arith;
          idle = omega arith;
          bank_act = omega arith;
          near_act = omega arith;
          far_act = omega arith;
          rank_act = omega arith;
          column = omega arith;
          beyond = omega (arith, f.t_cs);
          write = omega arith;
          near_wr = omega (arith, f.t_ccd_l);
          far_wr = omega (arith, f.t_ccd_s);
        }
        | Pre at ↦ record {
          some = p;
          pre = omega arith;
          idle = omega arith;
          bank_act = omega arith;
          near_act = omega arith;
          far_act = omega arith;
          rank_act = omega arith;
          column = omega arith;
          beyond = omega arith;
          write = omega arith;
          near_wr = omega arith;
          far_wr = omega arith;
        }
        | PreAll rank ↦ record {
          some = p;
          pre = omega arith;
          idle = omega arith;
          bank_act = omega arith;
          near_act = omega arith;
          far_act = omega arith;
          rank_act = omega arith;
          column = omega arith;
          beyond = omega arith;
          write = omega arith;
          near_wr = omega arith;
          far_wr = omega arith;
        }
        | Ref rank ↦ record {
          some = r;
          pre = omega arith;
          idle = omega arith;
          bank_act = omega arith;
          near_act = omega arith;
          far_act = omega arith;
          rank_act = omega arith;
          column = omega arith;
          beyond = omega arith;
          write = omega arith;
          near_wr = omega arith;
          far_wr = omega arith;
        }
        | Sre rank ↦ record {
          some = omega arith;
          pre = omega arith;
          idle = omega arith;
          bank_act = omega arith;
          near_act = omega arith;
          far_act = omega arith;
          rank_act = omega arith;
          column = omega arith;
          beyond = omega arith;
          write = omega arith;
          near_wr = omega arith;
          far_wr = omega arith;
        }
      ]

  pub gap-Act : (a : Command) (bank : BankAddress) (row : ℕ) → most_gap c.timing a (Act bank row) ≤ settle_gap c.timing a
  gap-Act a bank row =
      let d = demand_of c.timing a in
      let o = over a in
      let groups = cond-le2 (eqb (rank_of a) bank.rank) (is_group (bank_of a) bank) d.near_act d.far_act (settle_gap c.timing a) o.near_act o.far_act in
      omega (arith, (tells_gaps c.timing a).act bank row, cond-le (is_bank (bank_of a) bank) d.bank_act, groups, cond-le (eqb (rank_of a) bank.rank) d.rank_act, o.some, o.bank_act, o.rank_act)

  pub gap-Pre : (a : Command) (bank : BankAddress) → most_gap c.timing a (Pre bank) ≤ settle_gap c.timing a
  gap-Pre a bank = let o = over a in omega (arith, (tells_gaps c.timing a).pre bank, cond-le (is_bank (bank_of a) bank) (demand_of c.timing a).bank_pre, o.some, o.pre)

  pub gap-Ref : (a : Command) (rank : ℕ) → most_gap c.timing a (Ref rank) ≤ settle_gap c.timing a
  gap-Ref a rank = let o = over a in omega (arith, (tells_gaps c.timing a).refresh rank, cond-le (eqb (rank_of a) rank) (demand_of c.timing a).rank_idle, o.some, o.idle)

  pub gap-Sre : (a : Command) (rank : ℕ) → most_gap c.timing a (Sre rank) ≤ settle_gap c.timing a
  gap-Sre a rank = let o = over a in omega (arith, (tells_gaps c.timing a).sleep rank, cond-le (eqb (rank_of a) rank) (demand_of c.timing a).rank_idle, o.some, o.idle)

  pub gap-Wr : (a : Command) (bank : BankAddress) (column : ℕ) → most_gap c.timing a (Wr bank column) ≤ settle_gap c.timing a + c.timing.t_rcd
  gap-Wr a bank column =
      let d = demand_of c.timing a in
      let o = over a in
      let groups = cond-le2 (eqb (rank_of a) bank.rank) (is_group (bank_of a) bank) d.near_wr d.far_wr (settle_gap c.timing a + c.timing.t_rcd) o.near_wr o.far_wr in
      omega (arith, (tells_gaps c.timing a).wr bank column, cond-le (is_bank (bank_of a) bank) d.bank_column, groups, cond_past-le (eqb (rank_of a) bank.rank) d.beyond, o.some, o.column, o.beyond, o.write)

  -- a PRE or PREA waits for what its bank was used for

  waits : (most gap settle p : ℕ) (b : Bool) → b ≡ true → most ≡ max 1 (cond b gap 0) → settle ≤ gap + p → settle ≤ most + p
  waits most gap settle p b e m l = let s = ap (λ (b : Bool). cond b gap 0) e in omega (arith, m, s, l)

  pub settles-Pre : (a : Command) (bank : BankAddress) → uses bank a ≡ true → settle_gap c.timing a ≤ most_gap c.timing a (Pre bank) + c.timing.t_rp
  settles-Pre (Act at w) bank e = waits _ c.timing.t_ras _ c.timing.t_rp (is_at bank at) e ((tells_gaps c.timing (Act at w)).pre bank) (omega arith)
  settles-Pre (Rd at w) bank e = waits _ c.timing.t_rtp _ c.timing.t_rp (is_at bank at) e ((tells_gaps c.timing (Rd at w)).pre bank) (omega arith)
  settles-Pre (Wr at w) bank e = waits _ (c.timing.cwl + 4 + c.timing.t_wr) _ c.timing.t_rp (is_at bank at) e ((tells_gaps c.timing (Wr at w)).pre bank) (omega arith)
  settles-Pre (Pre at) bank e = absurd cc
  settles-Pre (PreAll r) bank e = absurd cc
  settles-Pre (Ref r) bank e = absurd cc
  settles-Pre (Sre r) bank e = absurd cc

  pub settles-PreAll : (a : Command) (bank : BankAddress) → uses bank a ≡ true → settle_gap c.timing a ≤ most_gap c.timing a (PreAll bank.rank) + c.timing.t_rp
  settles-PreAll (Act at w) bank e = waits _ c.timing.t_ras _ c.timing.t_rp (at.rank == bank.rank) (of_rank bank at e) ((tells_gaps c.timing (Act at w)).pre_all bank.rank) (omega arith)
  settles-PreAll (Rd at w) bank e = waits _ c.timing.t_rtp _ c.timing.t_rp (at.rank == bank.rank) (of_rank bank at e) ((tells_gaps c.timing (Rd at w)).pre_all bank.rank) (omega arith)
  settles-PreAll (Wr at w) bank e = waits _ (c.timing.cwl + 4 + c.timing.t_wr) _ c.timing.t_rp (at.rank == bank.rank) (of_rank bank at e) ((tells_gaps c.timing (Wr at w)).pre_all bank.rank) (omega arith)
  settles-PreAll (Pre at) bank e = absurd cc
  settles-PreAll (PreAll r) bank e = absurd cc
  settles-PreAll (Ref r) bank e = absurd cc
  settles-PreAll (Sre r) bank e = absurd cc

-- the gaps of an entry's own commands
itself : (bank : BankAddress) → is_bank bank bank ≡ true
itself bank = simp eqb-same

pub gap-act_wr : (t : Timing) (bank : BankAddress) (row column : ℕ) → most_gap t (Act bank row) (Wr bank column) ≡ max 1 t.t_rcd
gap-act_wr t bank row column =
    let e = (tells_gaps t (Act bank row)).wr bank column in
    let same = ap (λ (b : Bool). cond b t.t_rcd 0) (itself bank) in
    let groups = cond-le2 (eqb bank.rank bank.rank) (is_group bank bank) 0 0 0 (omega arith) (omega arith) in
    omega (arith, e, same, groups, cond_past-le (eqb bank.rank bank.rank) 0)

pub gap-act_pre : (t : Timing) (bank : BankAddress) (row : ℕ) → most_gap t (Act bank row) (Pre bank) ≡ max 1 t.t_ras
gap-act_pre t bank row = (tells_gaps t (Act bank row)).pre bank ∙ ap (λ (b : Bool). max 1 (cond b t.t_ras 0)) (itself bank)

pub gap-wr_pre : (t : Timing) (bank : BankAddress) (column : ℕ) → most_gap t (Wr bank column) (Pre bank) ≡ max 1 (t.cwl + 4 + t.t_wr)
gap-wr_pre t bank column = (tells_gaps t (Wr bank column)).pre bank ∙ ap (λ (b : Bool). max 1 (cond b (t.cwl + 4 + t.t_wr) 0)) (itself bank)
