use Rattle.std.proofs.Math.Logic.{∥∥₁_map}
use Rattle.board_hosts.proofs.Living.{in_life}
use Rattle.board_desk.specs.Desk.{setup_at, world_at}
use Rattle.board_desk.specs.Views.{desk_of}
use Rattle.board_desk.proofs.laws.desks_keep_lives.Goals as goal

pub returns : goal.returns
returns g c = λ desk.
    let view = desk_of g.K.ChannelPort g.D.SaveDevice g.E.Energy g.B.BoardName g.B.PartsName desk in
    ∥∥₁_map desk.kept.stands (λ s. (s.0, s.1, in_life (setup_at g.B.PartsName view) (world_at view s.0) s.1.lived))
