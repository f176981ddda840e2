use Rattle.std.proofs.Common.{ℕ, refl, subst}
use Rattle.command_trace.specs.Traces.{ReadsRows}
use Rattle.command_trace.proofs.TraceLemmas.{reads_none}
use Rattle.command_trace.proofs.reading.TraceReader.new.Goals as goal

pub returns-clause-read : goal.returns-clause-read
returns-clause-read g c =
    reads_none g.R.Read.remaining (g.R.Read.remaining c.args.source) _ (subst (λ (n : ℕ). ReadsRows n c.rows_of.result) c.delimiter.ensures c.rows_of.ensures.reads)
    c.rows_of.ensures.state c.rows_of.ensures.source refl
