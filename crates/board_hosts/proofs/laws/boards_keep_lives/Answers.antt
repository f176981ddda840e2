-- What a board keeps of its life.
use Rattle.std.proofs.Math.Logic.{∥∥₁_map}
use Rattle.board_hosts.proofs.Living.{in_life}
use Rattle.board_hosts.proofs.laws.boards_keep_lives.Goals as goal

pub returns : goal.returns
returns g c = λ held. ∥∥₁_map held.kept.recorded.stands (λ s. (s.0, s.1.stands, in_life _ _ s.2))
