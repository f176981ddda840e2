-- What a trace writes of a command.
use Rattle.std.specs.Prelude.{◌≡◌, ℕ, Bool, true, false, List, [], ◌∷◌, ◌⊎◌, codes, map}
use Rattle.std.specs.Char.{to_ascii_lowercase}
use Rattle.ddr4_timing.specs.declared.command.Command.{Command}
use Rattle.ddr4_timing.specs.declared.command.Command.TheVariants as cmd
use Rattle.command_trace.specs.declared.kind.CommandKind.{CommandKind}
use Rattle.command_trace.specs.declared.kind.CommandKind.TheVariants as kind

abbrev pub kind_of : Command → CommandKind
kind_of (cmd.Act at row) = kind.Act
kind_of (cmd.Rd at column) = kind.Rd
kind_of (cmd.Wr at column) = kind.Wr
kind_of (cmd.Pre at) = kind.Pre
kind_of (cmd.PreAll rank) = kind.PreAll
kind_of (cmd.Ref rank) = kind.Ref
kind_of (cmd.Sre rank) = kind.Sre

-- the numbers behind its name: the rank, of a bank its group and its number too, and then the row or the column
abbrev pub numbers_of : Command → List ℕ
numbers_of (cmd.Act at row) = at.rank ∷ at.group ∷ at.bank ∷ row ∷ []
numbers_of (cmd.Rd at column) = at.rank ∷ at.group ∷ at.bank ∷ column ∷ []
numbers_of (cmd.Wr at column) = at.rank ∷ at.group ∷ at.bank ∷ column ∷ []
numbers_of (cmd.Pre at) = at.rank ∷ at.group ∷ at.bank ∷ []
numbers_of (cmd.PreAll rank) = rank ∷ []
numbers_of (cmd.Ref rank) = rank ∷ []
numbers_of (cmd.Sre rank) = rank ∷ []

-- the kind of the command that a kind is, auto-precharge aside
abbrev pub base_of : CommandKind → CommandKind
base_of kind.Rda = kind.Rd
base_of kind.Wra = kind.Wr
base_of kind = kind

-- with auto-precharge
abbrev pub closes_of : CommandKind → Bool
closes_of kind.Rda = true
closes_of kind.Wra = true
closes_of kind = false

abbrev pub IsCommandOf : CommandKind → List ℕ → Command → Type 0
IsCommandOf kind numbers x = (kind_of x ≡ base_of kind) × (numbers_of x ≡ numbers)

-- its name, as this program prints it
abbrev pub name_of_kind : CommandKind → List ℕ
name_of_kind kind.Act = codes "ACT"
name_of_kind kind.Rd = codes "RD"
name_of_kind kind.Wr = codes "WR"
name_of_kind kind.Rda = codes "RDA"
name_of_kind kind.Wra = codes "WRA"
name_of_kind kind.Pre = codes "PRE"
name_of_kind kind.PreAll = codes "PREA"
name_of_kind kind.Ref = codes "REF"
name_of_kind kind.Sre = codes "SRE"

-- the same word, in any case
abbrev pub IsWord : List ℕ → List ℕ → Type 0
IsWord word name = map to_ascii_lowercase word ≡ map to_ascii_lowercase name

-- a name of the kind in one of the spellings that simulators print, in any case
abbrev pub IsSpelling : CommandKind → List ℕ → Type 0
IsSpelling kind.Act name = IsWord (codes "ACT") name ⊎ IsWord (codes "ACTIVATE") name
IsSpelling kind.Rd name = IsWord (codes "RD") name ⊎ IsWord (codes "READ") name
IsSpelling kind.Wr name = IsWord (codes "WR") name ⊎ IsWord (codes "WRITE") name
IsSpelling kind.Rda name = IsWord (codes "RDA") name ⊎ IsWord (codes "READ_PRECHARGE") name ⊎ IsWord (codes "READ_P") name
IsSpelling kind.Wra name = IsWord (codes "WRA") name ⊎ IsWord (codes "WRITE_PRECHARGE") name ⊎ IsWord (codes "WRITE_P") name
IsSpelling kind.Pre name = IsWord (codes "PRE") name ⊎ IsWord (codes "PRECHARGE") name
IsSpelling kind.PreAll name = IsWord (codes "PREA") name ⊎ IsWord (codes "PREAB") name
IsSpelling kind.Ref name = IsWord (codes "REF") name ⊎ IsWord (codes "REFRESH") name ⊎ IsWord (codes "REFAB") name
IsSpelling kind.Sre name = IsWord (codes "SRE") name ⊎ IsWord (codes "SREF_ENTER") name ⊎ IsWord (codes "SELF_REFRESH_ENTER") name
