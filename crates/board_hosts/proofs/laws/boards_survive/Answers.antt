-- What a stop leaves of a board, at any moment of its life.
use Rattle.board_hosts.proofs.Living.{kept_survives}
use Rattle.board_hosts.proofs.laws.boards_survive.Goals as goal

pub returns-clause-held : goal.returns-clause-held
returns-clause-held g c = λ held. kept_survives g.K.ChannelPort g.D.SaveDevice g.E.Energy held.recorded held.kept.recorded

pub returns-clause-closed : goal.returns-clause-closed
returns-clause-closed g c = kept_survives g.K.ChannelPort g.D.SaveDevice g.E.Energy
