use Rattle.std.proofs.Common.{◌∙◌, sym}
use Rattle.nv_profile.proofs.TableLemmas.{size_of-members_view}
use Rattle.nv_profile.proofs.table.size.Goals as goal

pub returns : goal.returns
returns c = c.len.ensures.len ∙ sym (size_of-members_view c.args.table.now.entries)
