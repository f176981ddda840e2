-- What a stop leaves of a desk, at any moment of its life.
use Rattle.std.proofs.Common.{◌∙◌, ap, sym}
use Rattle.std.proofs.Math.Logic.{∥∥₁_map}
use Rattle.save_image.specs.Image.{Image}
use Rattle.energy_budget.proofs.Charging.{rises_none}
use Rattle.energy_budget.specs.Charging.{RisesTo}
use Rattle.nv_machine.proofs.StoppedRuns.{opened_as, stops_survived}
use Rattle.board_desk.specs.Desk.{setup_at, world_at}
use Rattle.board_desk.specs.Views.{desk_of}
use Rattle.board_desk.proofs.laws.desks_survive.Goals as goal

pub returns : goal.returns
returns g c = λ desk.
    let P = g.B.PartsName in let view = desk_of g.K.ChannelPort g.D.SaveDevice g.E.Energy g.B.BoardName P desk in
    ∥∥₁_map desk.kept.stands
    (λ s. record {
      machine = s.0;
      stands = s.1;
      began = ap (λ (i : Image). i.memory) (sym (opened_as RisesTo (setup_at P view) (world_at view s.0) s.1.lived)) ∙ s.1.base;
      survives = stops_survived RisesTo rises_none (setup_at P view) (world_at view s.0) s.1.lived;
    })
