use Rattle.ddr4_timing.specs.Limits.{lines_of}
use Rattle.slot_store.specs.Outcomes.{Outcome, restored}
use Rattle.board_use.proofs.Used.{unused_on, used_on}
use Rattle.board_use.proofs.using.with_board.Goals as goal

pub returns-in-Ok-clause-used : goal.returns-in-Ok-clause-used
returns-in-Ok-clause-used g c =
    let profile = c.args.profile.now in let found : Outcome = restored (lines_of profile.checked.geometry) (g.D.SaveDevice.state c.args.device).bytes in
    used_on _ g.D.SaveDevice g.E.Energy found profile c.in-Ok.ready.recorded c.in-Ok.ensures.restored c.in-Ok.ensures.setup c.use_ready.result c.use_ready.ensures.used

pub returns-in-Ok-clause-unused : goal.returns-in-Ok-clause-unused
returns-in-Ok-clause-unused g c =
    let profile = c.args.profile.now in let found : Outcome = restored (lines_of profile.checked.geometry) (g.D.SaveDevice.state c.args.device).bytes in
    unused_on _ g.D.SaveDevice g.E.Energy found profile c.in-Ok.ready.recorded c.in-Ok.ensures.restored c.in-Ok.ensures.setup c.args.device c.args.energy
    c.in-Ok.ensures.same c.in-Ok.ensures.gauge c.use_ready.result c.use_ready.ensures.unused
