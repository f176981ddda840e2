-- What a run tells of its lives and of their requests, field by field.
use Rattle.std.specs.Prelude.{ℕ, List, [], ◌∷◌, ◌++◌, Option, None, Some, codes}
use Rattle.report_fields.specs.Fields.{Field, counts, names, says}
use Rattle.statistics_report.specs.declared.waits.KindWaits.{KindWaits}
use Rattle.request_waits.specs.declared.summary.Waits.{Waits}

-- the number of a life, from 1
abbrev pub life_fields : ℕ → List Field
life_fields number = says (codes "life ") ∷ counts (codes "life") number ∷ []

-- how many waits are known
abbrev pub known_count : Option Waits → ℕ
known_count None = 0
known_count (Some waits) = waits.count

-- and what they come to, where some are
abbrev pub known_fields : Option Waits → List Field
known_fields None = []
known_fields (Some waits) =
    says (codes " least ") ∷ counts (codes "least") waits.least ∷ says (codes " median ") ∷ counts (codes "median") waits.median
    ∷ says (codes " p99 ") ∷ counts (codes "p99") waits.p99 ∷ says (codes " most ") ∷ counts (codes "most") waits.most ∷ []

-- the kind of the requests, how many waits are known, how many requests still wait, and what the waits come to
abbrev pub waits_fields : List ℕ → KindWaits → List Field
waits_fields kind w =
    names (codes "kind") kind ∷ says (codes " ") ∷ counts (codes "count") (known_count w.waits) ∷ says (codes " waiting ")
    ∷ counts (codes "waiting") w.waiting ∷ known_fields w.waits
