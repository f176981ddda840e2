-- What a profile means, field by field.
use Rattle.std.specs.Prelude.{ℕ, List, [], ◌∷◌, codes, flat_map, map}
use Rattle.std.specs.Option.{option_to_list}
use Rattle.energy_budget.specs.Sums.{floor_level, needed_level, reserve, steps}
use Rattle.energy_budget.specs.declared.costs.Costs.{Costs}
use Rattle.interleave_map.specs.Ready.{text_of}
use Rattle.profile_report.specs.Meaning.{pending_told}
use Rattle.profile_report.specs.declared.command_meaning.CommandMeaning.{CommandMeaning}
use Rattle.profile_report.specs.declared.meaning.Meaning.{Meaning}
use Rattle.report_fields.specs.Fields.{Field, says, counts, names, each}

-- what begins a further line of a text
abbrev pub newline : Field
newline = says (10 ∷ [])

abbrev pub save_fields : Costs → ℕ → List Field
save_fields costs pending = newline ∷ says (codes "pending ") ∷ counts (codes "pending") pending
    ∷ says (codes ": steps ") ∷ counts (codes "steps") (steps costs pending)
    ∷ says (codes ", reserve ") ∷ counts (codes "reserve") (reserve costs pending)
    ∷ says (codes ", floor ") ∷ counts (codes "floor") (floor_level costs pending)
    ∷ says (codes ", least reading ") ∷ counts (codes "least_reading") (needed_level costs pending) ∷ []

-- one for each number of pending writes that is told
abbrev pub saves_fields : Meaning → List (List Field)
saves_fields m = map (save_fields m.costs) (flat_map option_to_list (pending_told m))

abbrev pub meaning_fields : Meaning → List Field
meaning_fields m = says (codes "lines ") ∷ counts (codes "lines") m.lines
    ∷ says (codes " on ") ∷ counts (codes "channels") m.profile.checked.geometry.channels
    ∷ says (codes " channels, map ") ∷ names (codes "map") (text_of m.profile.map)
    ∷ newline ∷ says (codes "device ") ∷ counts (codes "device_bytes") m.device_bytes ∷ says (codes " bytes")
    ∷ newline ∷ says (codes "entry ") ∷ counts (codes "entry") m.entry ∷ says (codes " clocks")
    ∷ newline ∷ says (codes "close step ") ∷ counts (codes "close") m.close ∷ says (codes " clocks")
    ∷ each (codes "saves") (codes "save") (saves_fields m) ∷ []

abbrev pub command_meaning_fields : CommandMeaning → List Field
command_meaning_fields m = says (codes "commands on ") ∷ counts (codes "channels") m.rules.geometry.channels
    ∷ says (codes " channels, of each ranks ") ∷ counts (codes "ranks") m.rules.geometry.ranks
    ∷ says (codes ", banks ") ∷ counts (codes "banks") m.banks
    ∷ newline ∷ says (codes "of each bank rows ") ∷ counts (codes "rows") m.rules.geometry.rows
    ∷ says (codes ", columns ") ∷ counts (codes "columns") m.rules.geometry.columns
    ∷ newline ∷ says (codes "no module: no tables costs and module") ∷ []
