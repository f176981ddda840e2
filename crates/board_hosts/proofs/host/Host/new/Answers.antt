use Rattle.std.proofs.Common.{ap}
use Rattle.board_hosts.proofs.Common.{client}
use Rattle.board_hosts.proofs.host.Host.new.Goals as goal

pub returns : goal.returns
returns g c = ap (client c.args.seat.accepted c.args.seat.persisted c.args.share.amount) c.new.ensures
