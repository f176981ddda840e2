-- What the words of a verb name, and why what they name can't be had.
use Rattle.std.specs.Prelude.{◌≡◌, ◌⊎◌, ℕ, List, codes, unwrap_or}
use Rattle.std.specs.Borrow.{Bor}
use Rattle.clap.specs.Words.{first_value, found_of}
use Rattle.clap.specs.declared.parser.matches.ArgMatches.{ArgMatches}
use Rattle.command_faults.specs.declared.fault.ProgramFault.{ProgramFault}
use Rattle.command_faults.specs.declared.fault.ProgramFault.TheVariants.{File, Memory, Profile}

-- the word of this name, or where the words have none, this other
abbrev pub word_of : ArgMatches → List ℕ → List ℕ → List ℕ
word_of matches name other = unwrap_or (first_value (found_of matches) name) other

-- the word of a verb for its profile, that for its script, and that for what is drawn
abbrev pub profile_word : ArgMatches → List ℕ
profile_word matches = word_of matches (codes "PROFILE") (codes "tiny")

abbrev pub script_word : ArgMatches → List ℕ
script_word matches = word_of matches (codes "SCRIPT") (codes "-")

abbrev pub schedule_word : ArgMatches → List ℕ
schedule_word matches = word_of matches (codes "SCHEDULE") (codes "-")

-- the file of this name can't be read or written
abbrev pub IsOfFileNamed : List ℕ → ProgramFault → Type 0
IsOfFileNamed name fault = (file : Bor (List ℕ)) × (fault ≡ File file) × (file.now ≡ name)

-- the profile of this word can't be had, or memory is refused
abbrev pub IsOfProfile : List ℕ → ProgramFault → Type 0
IsOfProfile word fault = (fault ≡ Profile) ⊎ (fault ≡ Memory) ⊎ IsOfFileNamed word fault

-- the profile or the script that the words name can't be had
abbrev pub IsUnread : ArgMatches → ProgramFault → Type 0
IsUnread matches fault = IsOfProfile (profile_word matches) fault ⊎ IsOfFileNamed (script_word matches) fault
