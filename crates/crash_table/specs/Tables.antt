-- What a table tells of a script.
use Rattle.std.specs.Prelude.{◌≡◌, ℕ, ◌<◌, List, length, take, get_or}
use Rattle.nv_script.specs.declared.line.ScriptLine.{ScriptLine}
use Rattle.crash_table.specs.declared.script.Script.{Script}
use Rattle.crash_table.specs.declared.table.Table.{Table}
use Rattle.crash_table.specs.declared.tried.Tried.{Tried}
use Rattle.crash_table.specs.Blocks.{AreBlocksOf, tried_in}
use Rattle.crash_table.specs.Counting.{IsCountOf}
use Rattle.crash_table.specs.Outcomes.{AreTried}

-- a table is of what was tried of each of the first lines, behind those before it, under its number
pub record TellsFirst (size : ℕ) (script : Script) (n : ℕ) (table : Table) : Type 0 where
  pub lines : List (ℕ × List Tried)
  pub each : length lines ≡ n
  pub numbered : (k : ℕ) (d : ℕ × List Tried) → k < n → (get_or lines k d).0 ≡ get_or script.numbers.items k 0
  pub tried : (k : ℕ) (line : ScriptLine) (d : ℕ × List Tried) → k < n → AreTried size (take k script.lines.items) (get_or script.lines.items k line) (get_or lines k d).1
  pub counted : IsCountOf (tried_in lines) table.counts
  pub shown : AreBlocksOf lines table.blocks.items

-- and of all lines
abbrev pub TellsEach : ℕ → Script → Table → Type 0
TellsEach size script table = TellsFirst size script (length script.lines.items) table
