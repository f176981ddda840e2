use Rattle.std.proofs.Common.{◌+◌, ◌*◌, ap, arith}
use Rattle.interleave_map.specs.Interleaving.{line_by_lines}
use Rattle.interleave_map.proofs.Numbering.{number_below}
use Rattle.interleave_map.proofs.lines.join.Goals as goal

pub overflow_mul-result : goal.overflow_mul-result
unfolding line_by_lines
overflow_mul-result c =
    let below = number_below c.args.checked.now.geometry c.args.place c.requires in
    let e = ap (λ n. n * c.args.checked.now.geometry.channels) c.cell_of-cell.ensures.is in
    omega (arith, below, e, c.args.checked.now.is_small.lines.1)

pub overflow_add-result : goal.overflow_add-result
unfolding line_by_lines
overflow_add-result c =
    let below = number_below c.args.checked.now.geometry c.args.place c.requires in
    let e = ap (λ n. n * c.args.checked.now.geometry.channels) c.cell_of-cell.ensures.is in
    omega (arith, below, e, c.args.checked.now.is_small.lines.1)

pub returns : goal.returns
unfolding line_by_lines
returns c = ap (λ n. n * c.args.checked.now.geometry.channels + c.args.place.channel) c.cell_of-cell.ensures.is
