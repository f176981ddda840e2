use Rattle.slot_store.proofs.Resting.{rest_leaves}
use Rattle.slot_store.proofs.laws.stop_at_rest.Goals as goal

pub returns : goal.returns
returns c = λ candidates newest slot lines closed state image rest left. rest_leaves state image rest left
