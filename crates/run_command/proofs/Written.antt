-- What is written of the lives of a run.
use Rattle.std.proofs.Common.{◌≡◌, ℕ, ◌+◌, ◌<◌, Bool, true, false, List, ◌++◌, Option, get_or, length, refl, subst}
use Rattle.std.specs.Io.KnownBytes.{Appends}
use Rattle.std.proofs.KnownBytes.{Appends-trans}
use Rattle.std.proofs.lemmas.Option.{slice_get-get_or, slice_get_read}
use Rattle.command_trace.specs.declared.entry.Located.{Located}
use Rattle.ddr4_timing.specs.declared.command.Stamped.{Stamped}
use Rattle.ddr4_timing.specs.declared.timing.CommandRules.{CommandRules}
use Rattle.statistics_report.specs.Telling.{TellsObjects}
use Rattle.trace_statistics.specs.Lists.{AreEarly, located_from}
use Rattle.trace_statistics.specs.Telling.{TellsStatistics}
use Rattle.trace_statistics.proofs.Writing.{wrote_three}
use Rattle.run_command.specs.Lives.{TellsLifeAt, TellsLifeNumbers, TellsNumbers}
use Rattle.run_command.specs.declared.requests.LifeWaits.{LifeWaits}

module _ (r : CommandRules) (lists : List (List Stamped)) (found : List Located) (text : List ℕ) (given : AreEarly lists → found ≡ located_from 0 lists) where
  pub objects_told : (is_json : Bool) → is_json ≡ true → TellsObjects r found text → TellsNumbers r is_json lists text
  objects_told is_json is told early = rw is (subst (λ (list : List Located). TellsObjects r list text) (given early) told)

  pub lines_told : (is_json : Bool) → is_json ≡ false → TellsStatistics r found text → TellsNumbers r is_json lists text
  lines_told is_json isnt told early = rw isnt (subst (λ (list : List Located). TellsStatistics r list text) (given early) told)

-- four texts, one behind another
pub wrote_four : (old a b c new : Option (List ℕ)) (w x y z : List ℕ) → Appends old a w → Appends a b x → Appends b c y → Appends c new z → Appends old new (w ++ (x ++ (y ++ z)))
wrote_four old a b c new w x y z first second third last =
    Appends-trans old a new w (x ++ (y ++ z)) first (wrote_three a b c new x y z second third last)

-- the life of an index, by its lists and by what is told of its requests
pub life_told : (r : CommandRules) (is_json : Bool) (lives : List (List (List Stamped))) (waits : List LifeWaits) (i : ℕ) (lists : List (List Stamped)) (d : LifeWaits) (text : List ℕ)
    → i < length lives → i < length waits → lists ≡ get_or lives i lists → TellsLifeNumbers r is_json (i + 1) lists (get_or waits i d) text → TellsLifeAt r is_json lives waits i text
life_told r is_json lives waits i lists d text in_lives in_waits is tells =
    (lists, get_or waits i d, slice_get_read lives (length lives) i lists refl in_lives is, slice_get-get_or waits i d in_waits, tells)
