use Rattle.std.proofs.Common.{◌≡◌, ◌∙◌, Bool, true, false, ◌||◌, ℕ, cond, inl, inr, refl}
use Rattle.ddr4_timing.specs.Gaps.{pair_gap}
use Rattle.all_faults.proofs.gaps.pair_gap.Goals.{in-Order, in-Rcd, in-Ras, in-Rp, in-Rc, in-Rtp, in-Wr, in-Rrd, in-Ccd, in-Wtr, in-Rtw, in-Cs, in-Rfc, in-Rows}
use Rattle.all_faults.proofs.gaps.pair_gap.Goals as goal

cond_or : (b c : Bool) (k : ℕ) → cond (b || c) k 0 ≡ cond b k (cond c k 0)
cond_or true c k = refl
cond_or false c k = refl

pub returns : goal.returns
unfolding pair_gap
returns c = let in_rank = c.same_rank-in_rank.ensures in let in_group = c.same_group-in_group.ensures in c.one_of-2.ensures ∙ elim c.match-rule.branch [
  | in-Order w ↦ simp (w.in-Order.is, w.test-is) refl
  | in-Rcd w ↦ simp (w.in-Rcd.is, w.test-is, w.is_act.ensures, w.is_column.ensures, w.same_bank.ensures) refl
  | in-Ras w ↦ simp (w.in-Ras.is, w.test-is, w.is_act-in-Ras.ensures, w.precharges.ensures) refl
  | in-Rp w ↦ simp (w.in-Rp.is, w.test-is, w.is_act-in-Rp.ensures, w.precharges-in-Rp.ensures, w.is_idle.ensures, w.is_precharge.ensures, in_rank, cond_or) refl
  | in-Rc w ↦ simp (w.in-Rc.is, w.test-is, w.is_act-in-Rc.ensures, w.is_act-in-Rc-2.ensures, w.same_bank-in-Rc.ensures) refl
  | in-Rtp w ↦ simp (w.in-Rtp.is, w.test-is, w.is_rd.ensures, w.precharges-in-Rtp.ensures) refl
  | in-Wr w ↦ simp (w.in-Wr.is, w.test-is, w.is_wr.ensures, w.precharges-in-Wr.ensures) refl
  | in-Rrd w ↦ simp (w.in-Rrd.is, w.test-is, w.is_act-in-Rrd.ensures, w.is_act-in-Rrd-2.ensures, w.one_of.ensures, in_rank, in_group) refl
  | in-Ccd w ↦ simp (w.in-Ccd.is, w.test-is, w.is_rd-in-Ccd.ensures, w.is_rd-in-Ccd-2.ensures, w.is_wr-in-Ccd.ensures, w.is_wr-in-Ccd-2.ensures, w.one_of-in-Ccd.ensures, in_rank, in_group) refl
  | in-Wtr w ↦ simp (w.in-Wtr.is, w.test-is, w.is_wr-in-Wtr.ensures, w.is_rd-in-Wtr.ensures, w.one_of-in-Wtr.ensures, in_rank, in_group) refl
  | in-Rtw w ↦ simp (w.in-Rtw.is, w.test-is, w.is_rd-in-Rtw.ensures, w.is_wr-in-Rtw.ensures) refl
  | in-Cs w ↦ simp (w.in-Cs.is, w.test-is, w.is_column-in-Cs.ensures, w.is_column-in-Cs-2.ensures, in_rank) refl
  | in-Rfc w ↦ simp (w.in-Rfc.is, w.test-is, w.is_ref.ensures, w.is_act-in-Rfc.ensures, w.is_idle-in-Rfc.ensures, in_rank) refl
  | in-Rows w ↦ elim w.in-Rows.is [ inl e ↦ simp (e, w.test-is) refl | inr (inl e) ↦ simp (e, w.test-is) refl | inr (inr e) ↦ simp (e, w.test-is) refl ]
]
