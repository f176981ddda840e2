use Rattle.std.proofs.Common.{arith}
use Rattle.auto_precharge.specs.Unfolding.{unfolded_none}
use Rattle.auto_precharge.proofs.PlainTraces.{none_lawful, plain_from}
use Rattle.auto_precharge.proofs.Settling.{none_waiting}
use Rattle.auto_precharge.proofs.laws.plain_traces.Goals as goal

pub returns : goal.returns
returns _ r found plain = plain_from r unfolded_none found (λ i. none_waiting 128 i) plain (none_lawful r)
