use Rattle.std.proofs.Common.{rules}
use Rattle.save_image.proofs.body.page_lines.Goals as goal

pub returns : goal.returns
returns c = search rules
