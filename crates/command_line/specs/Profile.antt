-- What is told of the numbers of a profile.
use Rattle.std.specs.Prelude.{ℕ, List, Bool, Option, codes}
use Rattle.std.specs.Io.KnownBytes.{Appends}
use Rattle.command_faults.specs.Named.{NamesNumbers}
use Rattle.nv_profile.specs.declared.reading.Numbers.{Numbers}
use Rattle.nv_profile.specs.declared.reading.Numbers.TheVariants.{Commands, Module}
use Rattle.profile_report.specs.Meaning.{IsCommandMeaningOf, IsMeaningOf}
use Rattle.profile_report.specs.declared.command_meaning.CommandMeaning.{CommandMeaning}
use Rattle.profile_report.specs.declared.meaning.Meaning.{Meaning}
use Rattle.report_fields.specs.Fields.{fields_in}
use Rattle.report_json.specs.Meanings.{command_meaning_fields, meaning_fields}

-- what the numbers of a module come to was written, or those by which commands alone are checked
abbrev pub TellsNumbers : Bool → Numbers → Option (List ℕ) → Option (List ℕ) → Type 0
TellsNumbers is_json (Module profile) old new =
    (meaning : Meaning) × IsMeaningOf profile meaning × Appends old new (fields_in is_json (codes "profile") (meaning_fields meaning))
TellsNumbers is_json (Commands rules) old new =
    (meaning : CommandMeaning) × IsCommandMeaningOf rules meaning × Appends old new (fields_in is_json (codes "rules") (command_meaning_fields meaning))

-- so it was of the numbers of the word for a profile
abbrev pub ExplainsProfile : (List ℕ → List ℕ → Type 0) → List ℕ → Option (List ℕ) → Option (List ℕ) → Type 0
ExplainsProfile gives word old new = (numbers : Numbers) × NamesNumbers gives word numbers × (is_json : Bool) × TellsNumbers is_json numbers old new
