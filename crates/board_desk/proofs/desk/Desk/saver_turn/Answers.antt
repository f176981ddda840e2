use Rattle.std.proofs.Common.{refl, ◌∙◌}
use Rattle.board_hosts.specs.Savers.{turn_of}
use Rattle.board_desk.proofs.desk.Desk.saver_turn.Goals as goal

pub returns : goal.returns
returns g c m s =
    let matches = s.stands.matches in
    c.turn_at.ensures
    ∙ rw (c.mode.ensures ∙ matches.mode, c.save_state.ensures.state m matches, c.saved.ensures, c.accepted.ensures.is ∙ matches.accepted) (refl {a = turn_of m c.args.self.now.split.front.saved})
