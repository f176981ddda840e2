use Rattle.std.proofs.Common.{refl, arith}
use Rattle.interleave_map.specs.Cells.{cells_of}
use Rattle.interleave_map.proofs.Numbering.{some_cells, few_cells, few_rows}
use Rattle.interleave_map.proofs.cells.cells.Goals as goal

pub overflow_mul-cells : goal.overflow_mul-cells
overflow_mul-cells c = let few = few_rows _ c.args.checked.now.is_small in omega (arith, few)

pub overflow_mul-cells-2 : goal.overflow_mul-cells-2
unfolding cells_of
overflow_mul-cells-2 c = let few = few_cells _ c.args.checked.now.is_small in omega (arith, few)

pub returns-clause-is : goal.returns-clause-is
unfolding cells_of
returns-clause-is c = refl

pub returns-clause-some : goal.returns-clause-some
unfolding cells_of
returns-clause-some c = some_cells c.args.checked.now.geometry c.args.checked.now.is_small

pub returns-clause-few : goal.returns-clause-few
unfolding cells_of
returns-clause-few c = few_cells c.args.checked.now.geometry c.args.checked.now.is_small
