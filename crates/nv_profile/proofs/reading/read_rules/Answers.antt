use Rattle.std.proofs.Common.{rules}
use Rattle.nv_profile.proofs.reading.read_rules.Goals as goal

pub returns-in-Ok-clause-refused : goal.returns-in-Ok-clause-refused
returns-in-Ok-clause-refused c = search rules
