-- What is told of a script that may crash, as it is written out.
use Rattle.std.proofs.Common.{List, ℕ, Bool, Option, None, Some, ◌++◌}
use Rattle.std.proofs.KnownBytes.{Appends-kept, Appends-trans}
use Rattle.std.specs.Io.KnownBytes.{Appends, Keeps}
use Rattle.nv_profile.specs.declared.profile.Profile.{Profile}
use Rattle.report_json.specs.Crashes.{counts_in, table_in}
use Rattle.command_line.specs.Crash.{TellsCrash}

-- what was written of stops, and of one more
abbrev pub SomeStops : Option (List ℕ) → Option (List ℕ) → Type 0
SomeStops old new = (stops : List ℕ) × Appends old new stops

pub one_more_stop : (first old new : Option (List ℕ)) (stop : List ℕ) → SomeStops first old → Appends old new stop → SomeStops first new
one_more_stop first old new stop before told = (before.0 ++ stop, Appends-trans first old new before.0 stop before.1 told)

-- it stays told where a writer writes out what it has taken
pub crash_kept : (profile : Profile) (text : List ℕ) (number : Option ℕ) (is_json : Bool) (old mid new : Option (List ℕ))
    → TellsCrash profile text number is_json old mid → Keeps mid new → TellsCrash profile text number is_json old new
crash_kept profile text None is_json old mid new it kept = record {
  script = it.script;
  read = it.read;
  table = it.table;
  tells = it.tells;
  told = Appends-kept old mid new (table_in is_json it.table) it.told kept;
}
crash_kept profile text (Some number) is_json old mid new it kept = record {
  script = it.script;
  read = it.read;
  place = it.place;
  line = it.line;
  numbered = it.numbered;
  tried = it.tried;
  are = it.are;
  counts = it.counts;
  counted = it.counted;
  stops = it.stops;
  told = Appends-kept old mid new (it.stops ++ counts_in is_json it.counts) it.told kept;
}
