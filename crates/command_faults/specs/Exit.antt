-- Why the program fails, and how it ends.
use Rattle.std.specs.Prelude.{◌≡◌, ◌⊎◌, ℕ, List, String, codes}
use Rattle.std.specs.Borrow.{Bor}
use Rattle.std.specs.declared.alloc.Global.{Global}
use Rattle.command_faults.specs.declared.fault.ProgramFault.{ProgramFault}
use Rattle.command_faults.specs.declared.fault.ProgramFault.TheVariants.{Words, Out, Kept, Commands, Svg, Vcd, Columns, NoTerm, Profile, NoProfile, File, Memory}

-- 2 for a mistake in the program's words, and else 1
abbrev pub status_of : ProgramFault → ℕ
status_of Words = 2
status_of (Out why) = 2
status_of (Kept why) = 2
status_of (Commands why) = 2
status_of (Svg why) = 2
status_of (Vcd why) = 2
status_of Columns = 2
status_of (NoTerm word) = 2
status_of _ = 1

-- the words can't be had
abbrev pub IsOfWords : ProgramFault → Type 0
IsOfWords fault = (fault ≡ Words) ⊎ (fault ≡ Memory)

-- a profile that no file was read for can't be had
abbrev pub IsOfNoFile : ProgramFault → Type 0
IsOfNoFile fault = (fault ≡ Profile) ⊎ (fault ≡ Memory)

-- the file of this name can't be read or written
abbrev pub IsOfFile : Bor (List ℕ) → ProgramFault → Type 0
IsOfFile name fault = (fault ≡ File name) ⊎ (fault ≡ Memory)

-- standard output takes no more
abbrev pub IsOfOutput : ProgramFault → Type 0
IsOfOutput fault = (name : Bor (List ℕ)) × (fault ≡ File name) × (name.now ≡ codes "-")

-- a text is no profile
abbrev pub IsNoProfile : ProgramFault → Type 0
IsNoProfile fault = (why : String Global) × (fault ≡ NoProfile why)
