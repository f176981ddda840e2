-- What is told of the numbers of a profile, as it is written out.
use Rattle.std.proofs.Common.{List, ℕ, Bool, Option, codes}
use Rattle.std.proofs.KnownBytes.{Appends-kept}
use Rattle.std.specs.Io.KnownBytes.{Keeps}
use Rattle.nv_profile.specs.declared.reading.Numbers.{Numbers}
use Rattle.nv_profile.specs.declared.reading.Numbers.TheVariants.{Commands, Module}
use Rattle.report_fields.specs.Fields.{fields_in}
use Rattle.report_json.specs.Meanings.{command_meaning_fields, meaning_fields}
use Rattle.command_line.specs.Profile.{TellsNumbers}

-- it stays told where a writer writes out what it has taken
pub numbers_kept : (numbers : Numbers) (is_json : Bool) (old mid new : Option (List ℕ))
    → TellsNumbers is_json numbers old mid → Keeps mid new → TellsNumbers is_json numbers old new
numbers_kept (Module profile) is_json old mid new it kept =
    (it.0, it.1, Appends-kept old mid new (fields_in is_json (codes "profile") (meaning_fields it.0)) it.2 kept)
numbers_kept (Commands rules) is_json old mid new it kept =
    (it.0, it.1, Appends-kept old mid new (fields_in is_json (codes "rules") (command_meaning_fields it.0)) it.2 kept)
