use Rattle.board_desk.proofs.desk.Desk.write.Given as goal

abbrev pub ghosts-note_write : goal.ghosts-note_write
ghosts-note_write g a = record { waits = (g.K.ChannelPort.view a.part.now.port).waits }
