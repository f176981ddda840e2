use Rattle.std.proofs.Common.{refl, arith}
use Rattle.interleave_map.specs.Cells.{cell_of}
use Rattle.interleave_map.proofs.Numbering.{cell_parts, cell_within}
use Rattle.interleave_map.proofs.cells.cell_of.Goals as goal

pub overflow_mul-rank : goal.overflow_mul-rank
overflow_mul-rank c = let parts = cell_parts _ _ c.args.checked.now.is_small c.requires in omega (arith, parts)

pub overflow_add-rank : goal.overflow_add-rank
overflow_add-rank c = let parts = cell_parts _ _ c.args.checked.now.is_small c.requires in omega (arith, parts)

pub overflow_mul-bank : goal.overflow_mul-bank
overflow_mul-bank c = let parts = cell_parts _ _ c.args.checked.now.is_small c.requires in omega (arith, parts)

pub overflow_add-bank : goal.overflow_add-bank
overflow_add-bank c = let parts = cell_parts _ _ c.args.checked.now.is_small c.requires in omega (arith, parts)

pub overflow_mul-group : goal.overflow_mul-group
overflow_mul-group c = let parts = cell_parts _ _ c.args.checked.now.is_small c.requires in omega (arith, parts)

pub overflow_add-group : goal.overflow_add-group
overflow_add-group c = let parts = cell_parts _ _ c.args.checked.now.is_small c.requires in omega (arith, parts)

pub overflow_mul-cell : goal.overflow_mul-cell
overflow_mul-cell c = let parts = cell_parts _ _ c.args.checked.now.is_small c.requires in omega (arith, parts)

pub overflow_add-cell : goal.overflow_add-cell
overflow_add-cell c = let parts = cell_parts _ _ c.args.checked.now.is_small c.requires in omega (arith, parts)

pub returns-clause-is : goal.returns-clause-is
unfolding cell_of
returns-clause-is c = refl

pub returns-clause-within : goal.returns-clause-within
unfolding cell_of
returns-clause-within c = cell_within c.args.checked.now.geometry c.args.place.now c.requires
