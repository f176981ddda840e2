use Rattle.board_hosts.proofs.CutRecords.{records_tell}
use Rattle.board_hosts.proofs.laws.records_tell_lives.Goals as goal

pub returns : goal.returns
returns g c = records_tell g.K.ChannelPort g.D.SaveDevice
