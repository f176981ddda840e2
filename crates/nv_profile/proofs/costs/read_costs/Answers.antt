-- The first costs are found missing without help.
use Rattle.std.proofs.Common.{refl, arith}
use Rattle.nv_profile.proofs.costs.read_costs.Goals as goal

pub returns-in_err-cost-3-clause-none : goal.returns-in_err-cost-3-clause-none
returns-in_err-cost-3-clause-none c _ costs says =
    c.in_err-cost-3.ensures.none refl costs.e_pre (says.e_pre, omega arith, says.within.e_pre)

pub returns-in_err-cost-4-clause-none : goal.returns-in_err-cost-4-clause-none
returns-in_err-cost-4-clause-none c _ costs says =
    c.in_err-cost-4.ensures.none refl costs.e_ref (says.e_ref, omega arith, says.within.e_ref)

pub returns-in_err-cost-5-clause-none : goal.returns-in_err-cost-5-clause-none
returns-in_err-cost-5-clause-none c _ costs says =
    c.in_err-cost-5.ensures.none refl costs.e_sre (says.e_sre, omega arith, says.within.e_sre)

pub returns-in_err-cost-6-clause-none : goal.returns-in_err-cost-6-clause-none
returns-in_err-cost-6-clause-none c _ costs says =
    c.in_err-cost-6.ensures.none refl costs.e_clk (says.e_clk, omega arith, says.within.e_clk)

pub returns-in_err-cost-7-clause-none : goal.returns-in_err-cost-7-clause-none
returns-in_err-cost-7-clause-none c _ costs says =
    c.in_err-cost-7.ensures.none refl costs.e_mark (says.e_mark, omega arith, says.within.e_mark)

pub returns-in_err-cost-8-clause-none : goal.returns-in_err-cost-8-clause-none
returns-in_err-cost-8-clause-none c _ costs says =
    c.in_err-cost-8.ensures.none refl costs.e_sync (says.e_sync, omega arith, says.within.e_sync)

pub returns-in_err-cost-9-clause-none : goal.returns-in_err-cost-9-clause-none
returns-in_err-cost-9-clause-none c _ costs says =
    c.in_err-cost-9.ensures.none refl costs.e_page (says.e_page, omega arith, says.within.e_page)

pub returns-in_err-cost_if_any-clause-none : goal.returns-in_err-cost_if_any-clause-none
returns-in_err-cost_if_any-clause-none c _ costs says =
    c.in_err-cost_if_any.ensures.none refl costs.e_digest (says.e_digest, says.within.e_digest)

pub returns-in_err-cost-10-clause-none : goal.returns-in_err-cost-10-clause-none
returns-in_err-cost-10-clause-none c _ costs says =
    c.in_err-cost-10.ensures.none refl costs.leak (says.leak, omega arith, says.within.leak)
