use Rattle.std.proofs.Common.{◌≡◌, ◌+◌, ◌-◌, ◌<◌, arith, length, take}
use Rattle.journal_log.specs.Lines.{sizes_of}
use Rattle.journal_lines.proofs.Lying.{fits_behind, line_there}
use Rattle.journal_lines.proofs.index.Index.line_of_record.Goals as goal

pub returns : goal.returns
returns c = λ log memory bytes is holds whole there less.
    let behind : sizes_of (take (c.args.number - log.gone) log.records) + c.args.at < sizes_of log.records = fits_behind log.records (c.args.number - log.gone) bytes there c.args.at less in
    let round : c.max.result ≡ length memory - 1 = omega (arith, c.max.ensures, whole, behind, holds.room) in
    line_there c.args.self.now log memory is holds whole c.args.number bytes there c.index-begin.result.now c.args.at c.max.result c.index-begin.ensures round less
