use Rattle.live_store.proofs.Turns.{lives_by_turns}
use Rattle.live_store.proofs.laws.turns_survive.Goals as goal

pub returns : goal.returns
returns g c = λ found image turns first now. lives_by_turns g.K.ChannelPort found image first turns now
