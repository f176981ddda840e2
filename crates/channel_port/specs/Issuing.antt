-- The commands that a channel issued.
use Rattle.std.specs.Prelude.{List, [], ◌∷◌, ◌++◌, Option, Some, None}
use Rattle.ddr4_timing.specs.declared.command.Stamped.{Stamped}

-- one command more, where one was issued
abbrev pub with_issued : Option Stamped → List Stamped → List Stamped
with_issued None commands = commands
with_issued (Some command) commands = commands ++ command ∷ []
