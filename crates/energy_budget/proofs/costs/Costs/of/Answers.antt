use Rattle.std.proofs.Common.{◌≤◌, ◌+◌, ◌*◌, ◌/◌, ◌^◌, ℕ, ap, arith}
use Rattle.std.proofs.Math.Nat.{mul-le-mul}
use Rattle.energy_budget.specs.CostNumbers.{frame_cost_of}
use Rattle.energy_budget.proofs.costs.Costs.of.Goals as goal

pub invariant_of-result : goal.invariant_of-result
invariant_of-result c =
    let small = c.args.checked.now.is_small in
    let limits = c.requires in
    let close = c.cost_with_clocks-close_step in
    let refreshes = c.cost_with_clocks-refreshes in
    let pages = c.line_count-pages.result / 64 in
    let drains : c.args.checked.now.geometry.channels * close.result ≤ 8 * 2 ^ 40 = mul-le-mul small.channels close.ensures.fits in
    let all : pages ≤ 1024 = omega (arith, c.line_count-pages.ensures, small.lines.1) in
    let paged : pages * c.page_cost.result ≤ 1024 * 2000000 = mul-le-mul all c.page_cost.ensures.fits in
    record {
      in_limits = limits;
      few = (small.channels, small.ranks, all);
      short = (c.close-close.ensures.small, c.entry-entry.ensures.small);
      few_repeats = omega arith;
      fit_repeats = omega arith;
      is_for_repeats = omega arith;
      fit = (omega (arith, close.ensures.fits), omega (arith, refreshes.ensures.fits, limits.e_act, limits.e_col, limits.e_pre), omega (arith, drains, paged, limits.e_mark, limits.e_sync));
      is_close_step = close.ensures.value;
      is_entry_step = omega (arith, refreshes.ensures.value);
      is_without_entries = ap (λ (n : ℕ). c.args.checked.now.geometry.channels * close.result + pages * n + frame_cost_of c.args.numbers.now) c.page_cost.ensures.value;
    }

pub close-close-requires-clause-limits : goal.close-close-requires-clause-limits
close-close-requires-clause-limits c = c.args.checked.now.in_limits

pub close-close-requires-clause-ranks : goal.close-close-requires-clause-ranks
close-close-requires-clause-ranks c = c.args.checked.now.is_small.ranks

pub entry-entry-requires-clause-limits : goal.entry-entry-requires-clause-limits
entry-entry-requires-clause-limits c = c.args.checked.now.in_limits

pub entry-entry-requires-clause-ranks : goal.entry-entry-requires-clause-ranks
entry-entry-requires-clause-ranks c = c.args.checked.now.is_small.ranks

pub line_count-pages-requires : goal.line_count-pages-requires
line_count-pages-requires c = c.args.checked.now.is_small

pub overflow_add-numbers : goal.overflow_add-numbers
overflow_add-numbers c = omega (arith, c.requires.e_pre, c.requires.e_sre)

pub cost_with_clocks-close_step-requires-clause-count : goal.cost_with_clocks-close_step-requires-clause-count
cost_with_clocks-close_step-requires-clause-count c = c.args.checked.now.is_small.ranks

pub cost_with_clocks-close_step-requires-clause-cost : goal.cost_with_clocks-close_step-requires-clause-cost
cost_with_clocks-close_step-requires-clause-cost c = omega (arith, c.requires.e_pre, c.requires.e_sre)

pub cost_with_clocks-close_step-requires-clause-clock : goal.cost_with_clocks-close_step-requires-clause-clock
cost_with_clocks-close_step-requires-clause-clock c = c.requires.e_clk

pub cost_with_clocks-close_step-requires-clause-clocks : goal.cost_with_clocks-close_step-requires-clause-clocks
cost_with_clocks-close_step-requires-clause-clocks c = c.close-close.ensures.small

pub cost_with_clocks-refreshes-requires-clause-count : goal.cost_with_clocks-refreshes-requires-clause-count
cost_with_clocks-refreshes-requires-clause-count c = c.args.checked.now.is_small.ranks

pub cost_with_clocks-refreshes-requires-clause-cost : goal.cost_with_clocks-refreshes-requires-clause-cost
cost_with_clocks-refreshes-requires-clause-cost c = omega (arith, c.requires.e_ref)

pub cost_with_clocks-refreshes-requires-clause-clock : goal.cost_with_clocks-refreshes-requires-clause-clock
cost_with_clocks-refreshes-requires-clause-clock c = c.requires.e_clk

pub cost_with_clocks-refreshes-requires-clause-clocks : goal.cost_with_clocks-refreshes-requires-clause-clocks
cost_with_clocks-refreshes-requires-clause-clocks c = c.entry-entry.ensures.small

pub overflow_mul-frame : goal.overflow_mul-frame
overflow_mul-frame c = omega (arith, c.requires.e_mark)

pub overflow_mul-frame-2 : goal.overflow_mul-frame-2
overflow_mul-frame-2 c = omega (arith, c.requires.e_sync)

pub overflow_add-frame : goal.overflow_add-frame
overflow_add-frame c = omega (arith, c.requires.e_mark, c.requires.e_sync)

pub overflow_add-result : goal.overflow_add-result
overflow_add-result c = omega (arith, c.cost_with_clocks-refreshes.ensures.fits, c.requires.e_act)

pub overflow_add-result-2 : goal.overflow_add-result-2
overflow_add-result-2 c = omega (arith, c.cost_with_clocks-refreshes.ensures.fits, c.requires.e_act, c.requires.e_col)

pub overflow_add-result-3 : goal.overflow_add-result-3
overflow_add-result-3 c = omega (arith, c.cost_with_clocks-refreshes.ensures.fits, c.requires.e_act, c.requires.e_col, c.requires.e_pre)

pub overflow_mul-result : goal.overflow_mul-result
overflow_mul-result c =
    let drains : c.args.checked.now.geometry.channels * c.cost_with_clocks-close_step.result ≤ 8 * 2 ^ 40 = mul-le-mul c.args.checked.now.is_small.channels c.cost_with_clocks-close_step.ensures.fits in omega (arith, drains)

pub overflow_mul-result-2 : goal.overflow_mul-result-2
overflow_mul-result-2 c =
    let all : c.line_count-pages.result / 64 ≤ 1024 = omega (arith, c.line_count-pages.ensures, c.args.checked.now.is_small.lines.1) in
    let paged : c.line_count-pages.result / 64 * c.page_cost.result ≤ 1024 * 2000000 = mul-le-mul all c.page_cost.ensures.fits in omega (arith, paged)

pub overflow_add-result-4 : goal.overflow_add-result-4
overflow_add-result-4 c =
    let drains : c.args.checked.now.geometry.channels * c.cost_with_clocks-close_step.result ≤ 8 * 2 ^ 40 = mul-le-mul c.args.checked.now.is_small.channels c.cost_with_clocks-close_step.ensures.fits in
    let all : c.line_count-pages.result / 64 ≤ 1024 = omega (arith, c.line_count-pages.ensures, c.args.checked.now.is_small.lines.1) in
    let paged : c.line_count-pages.result / 64 * c.page_cost.result ≤ 1024 * 2000000 = mul-le-mul all c.page_cost.ensures.fits in omega (arith, drains, paged)

pub overflow_add-result-5 : goal.overflow_add-result-5
overflow_add-result-5 c =
    let drains : c.args.checked.now.geometry.channels * c.cost_with_clocks-close_step.result ≤ 8 * 2 ^ 40 = mul-le-mul c.args.checked.now.is_small.channels c.cost_with_clocks-close_step.ensures.fits in
    let all : c.line_count-pages.result / 64 ≤ 1024 = omega (arith, c.line_count-pages.ensures, c.args.checked.now.is_small.lines.1) in
    let paged : c.line_count-pages.result / 64 * c.page_cost.result ≤ 1024 * 2000000 = mul-le-mul all c.page_cost.ensures.fits in omega (arith, drains, paged, c.requires.e_mark, c.requires.e_sync)
