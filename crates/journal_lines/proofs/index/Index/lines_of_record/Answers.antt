use Rattle.std.proofs.Common.{◌≡◌, ◌∙◌, ◌+◌, ◌-◌, ℕ, ap, arith, drop}
use Rattle.journal_log.specs.Lines.{sizes_of}
use Rattle.journal_lines.proofs.Lying.{size_between}
use Rattle.journal_lines.proofs.index.Index.lines_of_record.Goals as goal

pub returns-clause-is : goal.returns-clause-is
returns-clause-is c = λ log bytes is there.
    let all : c.lines_behind.result ≡ sizes_of (drop (c.args.number - log.gone) log.records) =
    c.lines_behind.ensures.is log is ∙ ap (λ (n : ℕ). sizes_of (drop (c.args.number - n) log.records)) is.gone in
    let rest : c.lines_behind-2.result ≡ sizes_of (drop (c.args.number - log.gone + 1) log.records) =
    c.lines_behind-2.ensures.is log is ∙ ap (λ (n : ℕ). sizes_of (drop (c.args.number - n + 1) log.records)) is.gone in
    omega (arith, c.saturating_sub.ensures, all, rest, size_between log.records (c.args.number - log.gone) bytes there)
