use Rattle.std.proofs.lemmas.List.FromFn.{length-map-range_with_len}
use Rattle.module_saves.proofs.closing.PaidArraysSaveSource.page.Goals as goal

pub page-requires : goal.page-requires
page-requires g c = rw length-map-range_with_len at c.requires
