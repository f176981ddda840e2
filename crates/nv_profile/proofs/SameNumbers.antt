-- A table says the numbers of one profile at most.
use Rattle.std.proofs.Common.{◌≡◌, ℕ, sym, ◌∙◌}
use Rattle.std.proofs.lemmas.Option.{same_Some}
use Rattle.ddr4_timing.specs.declared.timing.Timing.{Timing}
use Rattle.ddr4_timing.specs.declared.timing.Geometry.{Geometry}
use Rattle.toml.specs.Data.{Members}
use Rattle.nv_profile.specs.Profile.{SaysTiming, SaysGeometry}

-- a geometry by its numbers
abbrev geometry_from : ℕ → ℕ → ℕ → ℕ → ℕ → ℕ → Geometry
geometry_from channels ranks groups banks rows columns = record { channels = channels; ranks = ranks; groups = groups; banks = banks; rows = rows; columns = columns }

pub same_geometry : (table : Members) (x y : Geometry) → SaysGeometry table x → SaysGeometry table y → x ≡ y
same_geometry table x y one other =
    let channels : x.channels ≡ y.channels = same_Some _ _ (sym one.channels ∙ other.channels) in
    let ranks : x.ranks ≡ y.ranks = same_Some _ _ (sym one.ranks ∙ other.ranks) in
    let groups : x.groups ≡ y.groups = same_Some _ _ (sym one.groups ∙ other.groups) in
    let banks : x.banks ≡ y.banks = same_Some _ _ (sym one.banks ∙ other.banks) in
    let rows : x.rows ≡ y.rows = same_Some _ _ (sym one.rows ∙ other.rows) in
    let columns : x.columns ≡ y.columns = same_Some _ _ (sym one.columns ∙ other.columns) in
    let same : geometry_from x.channels x.ranks x.groups x.banks x.rows x.columns ≡ y = rw (channels, ranks, groups, banks, rows, columns) in
    same

-- timing numbers, one by one
abbrev timing_from : ℕ → ℕ → ℕ → ℕ → ℕ → ℕ → ℕ → ℕ → ℕ → ℕ → ℕ → ℕ → ℕ → ℕ → ℕ → ℕ → ℕ → ℕ → Timing
timing_from t_rcd t_rp t_ras cl cwl t_ccd_s t_ccd_l t_rrd_s t_rrd_l t_faw t_wr t_wtr_s t_wtr_l t_rtp t_rtw t_cs t_rfc t_refi = record { t_rcd = t_rcd; t_rp = t_rp; t_ras = t_ras; cl = cl; cwl = cwl; t_ccd_s = t_ccd_s; t_ccd_l = t_ccd_l; t_rrd_s = t_rrd_s; t_rrd_l = t_rrd_l; t_faw = t_faw; t_wr = t_wr; t_wtr_s = t_wtr_s; t_wtr_l = t_wtr_l; t_rtp = t_rtp; t_rtw = t_rtw; t_cs = t_cs; t_rfc = t_rfc; t_refi = t_refi }

pub same_timing : (table : Members) (x y : Timing) → SaysTiming table x → SaysTiming table y → x ≡ y
same_timing table x y one other =
    let t_rcd : x.t_rcd ≡ y.t_rcd = same_Some _ _ (sym one.t_rcd ∙ other.t_rcd) in
    let t_rp : x.t_rp ≡ y.t_rp = same_Some _ _ (sym one.t_rp ∙ other.t_rp) in
    let t_ras : x.t_ras ≡ y.t_ras = same_Some _ _ (sym one.t_ras ∙ other.t_ras) in
    let cl : x.cl ≡ y.cl = same_Some _ _ (sym one.cl ∙ other.cl) in
    let cwl : x.cwl ≡ y.cwl = same_Some _ _ (sym one.cwl ∙ other.cwl) in
    let t_ccd_s : x.t_ccd_s ≡ y.t_ccd_s = same_Some _ _ (sym one.t_ccd_s ∙ other.t_ccd_s) in
    let t_ccd_l : x.t_ccd_l ≡ y.t_ccd_l = same_Some _ _ (sym one.t_ccd_l ∙ other.t_ccd_l) in
    let t_rrd_s : x.t_rrd_s ≡ y.t_rrd_s = same_Some _ _ (sym one.t_rrd_s ∙ other.t_rrd_s) in
    let t_rrd_l : x.t_rrd_l ≡ y.t_rrd_l = same_Some _ _ (sym one.t_rrd_l ∙ other.t_rrd_l) in
    let t_faw : x.t_faw ≡ y.t_faw = same_Some _ _ (sym one.t_faw ∙ other.t_faw) in
    let t_wr : x.t_wr ≡ y.t_wr = same_Some _ _ (sym one.t_wr ∙ other.t_wr) in
    let t_wtr_s : x.t_wtr_s ≡ y.t_wtr_s = same_Some _ _ (sym one.t_wtr_s ∙ other.t_wtr_s) in
    let t_wtr_l : x.t_wtr_l ≡ y.t_wtr_l = same_Some _ _ (sym one.t_wtr_l ∙ other.t_wtr_l) in
    let t_rtp : x.t_rtp ≡ y.t_rtp = same_Some _ _ (sym one.t_rtp ∙ other.t_rtp) in
    let t_rtw : x.t_rtw ≡ y.t_rtw = same_Some _ _ (sym one.t_rtw ∙ other.t_rtw) in
    let t_cs : x.t_cs ≡ y.t_cs = same_Some _ _ (sym one.t_cs ∙ other.t_cs) in
    let t_rfc : x.t_rfc ≡ y.t_rfc = same_Some _ _ (sym one.t_rfc ∙ other.t_rfc) in
    let t_refi : x.t_refi ≡ y.t_refi = same_Some _ _ (sym one.t_refi ∙ other.t_refi) in
    let same : timing_from x.t_rcd x.t_rp x.t_ras x.cl x.cwl x.t_ccd_s x.t_ccd_l x.t_rrd_s x.t_rrd_l x.t_faw x.t_wr x.t_wtr_s x.t_wtr_l x.t_rtp x.t_rtw x.t_cs x.t_rfc x.t_refi ≡ y = rw (t_rcd, t_rp, t_ras, cl, cwl, t_ccd_s, t_ccd_l, t_rrd_s, t_rrd_l, t_faw, t_wr, t_wtr_s, t_wtr_l, t_rtp, t_rtw, t_cs, t_rfc, t_refi) in
    same
