use Rattle.std.proofs.Common.{ℕ, List, subst}
use Rattle.command_faults.specs.Named.{HasProfile}
use Rattle.command_line.proofs.live.live.Goals as goal

pub returns-clause-named : goal.returns-clause-named
returns-clause-named g c =
    subst (λ (word : List ℕ). HasProfile (g.R.FileHost.gives c.args.rt.now) word) c.word_or.ensures c.in_ok-live_named.ensures.named
