use Rattle.slot_store.proofs.Resting.{newest_among}
use Rattle.slot_store.proofs.laws.newest_at_rest.Goals as goal

pub returns : goal.returns
returns c = λ candidates newest slot lines closed state rest. newest_among candidates newest slot lines closed state rest
