-- Which heads a mark tells.
use Rattle.std.specs.Prelude.{ℕ, ◌-◌, List, [], ◌∷◌, length, nat_lt, if◌then◌else◌}
use Rattle.journal_lines.specs.declared.index.Index.{Index}
use Rattle.journal_lines.specs.Indexed.{end_of_index}

-- of the numbers of heads, in turn, those from the first one on that the mark doesn't tell
abbrev pub untold : ℕ → List ℕ → List ℕ
untold mark [] = []
untold mark (head ∷ heads) = if nat_lt head mark then untold mark heads else head ∷ heads

-- The number up to which a mark tells the records of an index stored. The last records have these heads, one each.
abbrev pub stored_upto : ℕ → Index → List ℕ → ℕ
stored_upto mark index heads = end_of_index index - length (untold mark heads)
