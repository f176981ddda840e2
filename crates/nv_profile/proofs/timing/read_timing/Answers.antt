use Rattle.std.proofs.Common.{refl, [], ◌∷◌}
use Rattle.nv_profile.proofs.TableLemmas.{six_numbers}
use Rattle.nv_profile.proofs.timing.read_timing.Goals as goal

pub returns-in_err-t_rcd-clause-none : goal.returns-in_err-t_rcd-clause-none
returns-in_err-t_rcd-clause-none c _ x says =
    c.in_err-t_rcd.ensures.none refl (x.t_rcd ∷ x.t_rp ∷ x.t_ras ∷ x.cl ∷ x.cwl ∷ x.t_ccd_s ∷ [])
    (record { found = rw (says.t_rcd, says.t_rp, says.t_ras, says.cl, says.cwl, says.t_ccd_s) refl })

pub returns-in_err-t_ccd_l-clause-none : goal.returns-in_err-t_ccd_l-clause-none
returns-in_err-t_ccd_l-clause-none c _ x says =
    c.in_err-t_ccd_l.ensures.none refl (x.t_ccd_l ∷ x.t_rrd_s ∷ x.t_rrd_l ∷ x.t_faw ∷ x.t_wr ∷ x.t_wtr_s ∷ [])
    (record { found = rw (says.t_ccd_l, says.t_rrd_s, says.t_rrd_l, says.t_faw, says.t_wr, says.t_wtr_s) refl })

pub returns-in_err-t_wtr_l-clause-none : goal.returns-in_err-t_wtr_l-clause-none
returns-in_err-t_wtr_l-clause-none c _ x says =
    c.in_err-t_wtr_l.ensures.none refl (x.t_wtr_l ∷ x.t_rtp ∷ x.t_rtw ∷ x.t_cs ∷ x.t_rfc ∷ x.t_refi ∷ [])
    (record { found = rw (says.t_wtr_l, says.t_rtp, says.t_rtw, says.t_cs, says.t_rfc, says.t_refi) refl })

pub returns-clause-some : goal.returns-clause-some
returns-clause-some c =
    let (t_rcd, t_rp, t_ras, cl, cwl, t_ccd_s) = six_numbers _ _ _ _ _ _ _ _ c.in_ok-t_rcd.ensures.some in
    let (t_ccd_l, t_rrd_s, t_rrd_l, t_faw, t_wr, t_wtr_s) = six_numbers _ _ _ _ _ _ _ _ c.in_ok-t_ccd_l.ensures.some in
    let (t_wtr_l, t_rtp, t_rtw, t_cs, t_rfc, t_refi) = six_numbers _ _ _ _ _ _ _ _ c.in_ok-t_wtr_l.ensures.some in
    record {
      size = cc;
      t_rcd = t_rcd;
      t_rp = t_rp;
      t_ras = t_ras;
      cl = cl;
      cwl = cwl;
      t_ccd_s = t_ccd_s;
      t_ccd_l = t_ccd_l;
      t_rrd_s = t_rrd_s;
      t_rrd_l = t_rrd_l;
      t_faw = t_faw;
      t_wr = t_wr;
      t_wtr_s = t_wtr_s;
      t_wtr_l = t_wtr_l;
      t_rtp = t_rtp;
      t_rtw = t_rtw;
      t_cs = t_cs;
      t_rfc = t_rfc;
      t_refi = t_refi;
    }
