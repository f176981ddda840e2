use Rattle.board_desk.specs.Loans.{waits_of_port}
use Rattle.board_desk.proofs.loans.restore.Given as goal

abbrev pub ghosts-note_back : goal.ghosts-note_back
ghosts-note_back g a = record { waits = waits_of_port g.K.ChannelPort a.port.now }
