-- What is told of a command.
use Rattle.std.specs.Prelude.{ℕ, List, [], ◌∷◌, ◌++◌, codes}
use Rattle.ddr4_timing.specs.declared.command.Command.{Command}
use Rattle.ddr4_timing.specs.declared.command.Command.TheVariants.{Act, Rd, Wr, Pre, PreAll, Ref, Sre}
use Rattle.ddr4_timing.specs.declared.command.Stamped.{Stamped}
use Rattle.ddr4_timing.specs.declared.place.BankAddress.{BankAddress}
use Rattle.answer_json.specs.Told.{Piece, counts, names}

-- the numbers of a bank
abbrev pub bank_pieces : BankAddress → List Piece
bank_pieces at = counts (codes "rank") at.rank ∷ counts (codes "group") at.group ∷ counts (codes "bank") at.bank ∷ []

-- its name, and its numbers
abbrev pub command_pieces : Command → List Piece
command_pieces (Act at row) = names (codes "command") (codes "ACT") ∷ bank_pieces at ++ counts (codes "row") row ∷ []
command_pieces (Rd at column) = names (codes "command") (codes "RD") ∷ bank_pieces at ++ counts (codes "column") column ∷ []
command_pieces (Wr at column) = names (codes "command") (codes "WR") ∷ bank_pieces at ++ counts (codes "column") column ∷ []
command_pieces (Pre at) = names (codes "command") (codes "PRE") ∷ bank_pieces at
command_pieces (PreAll rank) = names (codes "command") (codes "PREA") ∷ counts (codes "rank") rank ∷ []
command_pieces (Ref rank) = names (codes "command") (codes "REF") ∷ counts (codes "rank") rank ∷ []
command_pieces (Sre rank) = names (codes "command") (codes "SRE") ∷ counts (codes "rank") rank ∷ []

-- a channel's command at its clock
abbrev pub issued_pieces : ℕ → Stamped → List Piece
issued_pieces channel command = counts (codes "channel") channel ∷ counts (codes "clock") command.clock ∷ command_pieces command.cmd

-- a command of a trace by its line, at its clock
abbrev pub numbered_pieces : ℕ → Stamped → List Piece
numbered_pieces line command = counts (codes "line") line ∷ counts (codes "clock") command.clock ∷ command_pieces command.cmd
