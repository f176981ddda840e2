use Rattle.std.proofs.Common.{rules}
use Rattle.save_image.proofs.reading.fields.Goals as goal

pub returns-clause-ok : goal.returns-clause-ok
returns-clause-ok c = search rules
