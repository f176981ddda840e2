use Rattle.std.proofs.Common.{refl, arith}
use Rattle.ddr4_timing.specs.Limits.{lines_of}
use Rattle.interleave_map.proofs.Numbering.{few_rows_in_all}
use Rattle.interleave_map.proofs.cells.line_count.Goals as goal

pub overflow_mul-rows : goal.overflow_mul-rows
overflow_mul-rows c = let few = few_rows_in_all _ c.args.checked.now.is_small in omega (arith, few)

pub overflow_mul-result : goal.overflow_mul-result
unfolding lines_of
overflow_mul-result c = let few = c.args.checked.now.is_small.lines.1 in omega (arith, few)

pub returns-clause-is : goal.returns-clause-is
unfolding lines_of
returns-clause-is c = refl

pub returns-clause-some : goal.returns-clause-some
unfolding lines_of
returns-clause-some c = c.args.checked.now.is_small.lines.0

pub returns-clause-few : goal.returns-clause-few
unfolding lines_of
returns-clause-few c = c.args.checked.now.is_small.lines.1
