use Rattle.std.proofs.Common.{rules}
use Rattle.energy_budget.proofs.costs.CostNumbers.is_in_limits.Goals as goal

pub returns : goal.returns
returns c = (
  λ low. record {
    e_act = c.if-self-most.false;
    e_col = c.if-self-most-2.false;
    e_pre = c.if-self-most-3.false;
    e_ref = c.if-self-most-4.false;
    e_sre = c.if-self-most-5.false;
    e_clk = c.if-self-most-6.false;
    e_mark = c.if-self-most-7.false;
    e_sync = c.if-self-most-8.false;
    e_page = c.if-self-most-9.false;
    e_digest = c.if-self-most-10.false;
    leak = search rules;
  },
  λ all. search rules,
)
