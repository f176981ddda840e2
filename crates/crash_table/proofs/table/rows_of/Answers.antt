use Rattle.std.proofs.Common.{◌<◌, ◌-◌, ◌^◌, length, take, arith}
use Rattle.std.proofs.lemmas.List.{length-take}
use Rattle.crash_table.proofs.Rows.{few_times}
use Rattle.crash_table.proofs.table.rows_of.Goals as goal

pub count_outcome-requires : goal.count_outcome-requires
count_outcome-requires c =
    let few : length (take c.loop-one.one-index c.args.tried.now) < 2 ^ 64 - 1 = omega (arith, length-take c.loop-one.one-index c.args.tried.now) in
    few_times (take c.loop-one.one-index c.args.tried.now) c.loop-one.rows.items c.loop-one.invariant few
