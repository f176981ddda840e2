-- What is known of a session that was stopped.
use Rattle.std.specs.Prelude.{IfSome}
use Rattle.channel_port.specs.declared.port.ChannelPort.{Ghosts}
use Rattle.nv_profile.specs.declared.profile.Profile.{Profile}
use Rattle.nv_session.specs.Living.{innermost}
use Rattle.nv_session.specs.declared.wires.Wires as wires
use Rattle.crash_table.specs.declared.trials.stopping.Behind.{Behind}
use Rattle.crash_table.specs.Lefts.{IsLeftOf}
use Rattle.crash_table.specs.Standings.{Stands}

-- it stands behind its lines, and what a stop may leave of its device is this, where it is known
pub record IsBehind {K A : Type 0} {L : Ghosts K} {W : wires.Ghosts A K} (profile : Profile) (behind : Behind K A L W) : Type 0 where
  pub stands : Stands profile behind.standing
  pub left : IfSome behind.left (IsLeftOf (innermost behind.standing.session.device))
