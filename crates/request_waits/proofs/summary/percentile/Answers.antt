use Rattle.std.proofs.Common.{ℕ, ◌*◌, ◌-◌, ◌/◌, get_or, length, subst, sym}
use Rattle.request_waits.specs.Summary.{IsPercentile}
use Rattle.request_waits.proofs.Percentiles.{percentile_at, rank_of}
use Rattle.request_waits.proofs.summary.percentile.Goals as goal

pub returns : goal.returns
returns c =
    let rising = c.args.rising.now in let size = length rising in let percent = c.args.percent in
    subst (λ (n : ℕ). IsPercentile percent rising (get_or rising ((size * n - 1) / 100) 0)) (sym c.from.ensures)
    (percentile_at rising percent ((size * percent - 1) / 100) c.requires.rising (rank_of size percent c.requires.some c.requires.positive c.requires.share))
