-- The rules, in their order.
use Rattle.std.specs.Prelude.{ℕ, List, [], ◌∷◌}
use Rattle.ddr4_timing.specs.declared.rules.Rule.{Rule}
use Rattle.ddr4_timing.specs.declared.rules.Rule.TheVariants.{Order, Rows, Rcd, Ras, Rp, Rc, Rtp, Wr, Rrd, Faw, Ccd, Wtr, Rtw, Cs, Rfc, Refi}

abbrev pub every_rule : List Rule
every_rule =
    Order ∷ Rows ∷ Rcd ∷ Ras ∷ Rp ∷ Rc ∷ Rtp ∷ Wr ∷
    Rrd ∷ Faw ∷ Ccd ∷ Wtr ∷ Rtw ∷ Cs ∷ Rfc ∷ Refi ∷ []

abbrev pub rule_number : Rule → ℕ
rule_number Order = 1
rule_number Rows = 2
rule_number Rcd = 3
rule_number Ras = 4
rule_number Rp = 5
rule_number Rc = 6
rule_number Rtp = 7
rule_number Wr = 8
rule_number Rrd = 9
rule_number Faw = 10
rule_number Ccd = 11
rule_number Wtr = 12
rule_number Rtw = 13
rule_number Cs = 14
rule_number Rfc = 15
rule_number Refi = 16
