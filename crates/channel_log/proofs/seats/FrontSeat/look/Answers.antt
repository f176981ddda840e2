use Rattle.channel_log.proofs.Telling.{noted_out}
use Rattle.channel_log.proofs.seats.FrontSeat.look.Goals as goal

pub returns-clause-out : goal.returns-clause-out
returns-clause-out g c = noted_out _ _ _ _ _ c.note.ensures
