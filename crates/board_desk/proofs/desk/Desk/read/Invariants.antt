use Rattle.board_desk.proofs.desk.Desk.read.Given as goal

abbrev pub ghosts-look_at : goal.ghosts-look_at
ghosts-look_at g a = record { waits = (g.K.ChannelPort.view a.part.now.port).waits }
