use Rattle.std.proofs.Common.{◌≡◌, ◌+◌, get_or, arith, ap}
use Rattle.slot_store.specs.declared.restoring.Verdict.TheVariants.{Complete}
use Rattle.crash_table.specs.declared.outcome.Found.TheVariants.{Image}
use Rattle.crash_table.specs.declared.table.OutcomeCount.{OutcomeCount}
use Rattle.crash_table.proofs.Adding.{added_more}
use Rattle.crash_table.proofs.table.add_rows.Goals as goal

pub loop-place-preserved : goal.loop-place-preserved
loop-place-preserved c =
    let row : OutcomeCount = c.index_mut.result.now in
    let none : OutcomeCount = record { outcome = record { found = Image 0 0 Complete; told = 0 }; times = 0 } in
    let next : OutcomeCount = record { outcome = row.outcome; times = row.times + (get_or c.args.others.now c.loop-place.place none).times } in
    let at : row ≡ get_or c.loop-place.rows.items c.loop-place.place row = c.index_mut.ensures.value in
    added_more c.args.others.now c.loop-place.place c.args.rows.now.items c.loop-place.rows.items row none next c.requires (omega arith) c.loop-place.invariant
    (ap (λ (x : OutcomeCount). x.outcome) at) (ap (λ (x : OutcomeCount). x.times + (get_or c.args.others.now c.loop-place.place none).times) at)
