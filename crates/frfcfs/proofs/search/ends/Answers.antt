use Rattle.std.proofs.Common.{◌<◌, ◌≤◌, List, ap, ◌∙◌, length, length-set, arith}
use Rattle.frfcfs.proofs.Common.{IsEnd, Stamped, Stands, limit_of}
use Rattle.frfcfs.proofs.Leads.{early_set, end_asleep, end_awake, ends_set}
use Rattle.frfcfs.proofs.search.ends.Goals as goal
use Rattle.frfcfs.proofs.search.ends.Goals.{then-is_asleep, else-is_asleep}

pub loop-rank-preserved : goal.loop-rank-preserved
loop-rank-preserved c =
    let b = c.args.banks.now.checked in
    let rank = c.loop-rank.rank in
    let ends = c.loop-rank.ends in
    let end = c.if-is_asleep.ends in
    let size = c.loop-rank.invariant.size in
    let within : rank < length ends = omega (arith, b.is_small.ranks, ap (λ x. x.geometry.ranks) c.checked.ensures, size) in
    let here : (end ≤ limit_of c.args.last) × ((list : List Stamped) → Stands c.args.banks.now list → IsEnd b list rank c.args.last end) =
    elim c.if-is_asleep.branch [
      | then-is_asleep w ↦ (omega (arith, w.ends-is), λ list s. rw w.ends-is (end_asleep b list rank c.args.last (cc (c.is_asleep.ensures list s))))
      | else-is_asleep w ↦ (
        omega (arith, w.ends-is, w.min.ensures, w.saturating_add.ensures),
        λ list s.
            end_awake b list rank c.args.last w.lead_from.result w.saturating_add.result end (w.lead_from.ensures list s)
            (λ on. absurd (cc (c.is_asleep.ensures list s, w.if-is_asleep.false, on))) (omega arith) w.saturating_add.ensures (w.ends-is ∙ w.min.ensures),
      )
    ] in
    record {
      size = length-set ends rank end ∙ size;
      early = early_set (limit_of c.args.last) rank end ends within here.0 c.loop-rank.invariant.early;
      ends = λ list s. ends_set b list c.args.last rank end ends within (here.1 list s) (c.loop-rank.invariant.ends list s);
    }

pub returns-clause-ends : goal.returns-clause-ends
returns-clause-ends c list s rank within = c.loop-rank.invariant.ends list s rank (omega (arith, within, ap (λ x. x.geometry.ranks) c.checked.ensures))
