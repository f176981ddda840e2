-- Lines of a script whose stops have the same outcomes, one behind another.
use Rattle.std.specs.Prelude.{◌≡◌, ◌⊎◌, ℕ, ◌+◌, ◌-◌, ◌<◌, List, [], ◌∷◌, ◌++◌, length, get_or, All}
use Rattle.std.specs.List.{AllZip, HoldsAt, flat_map}
use Rattle.crash_table.specs.declared.outcome.Outcome.{Outcome}
use Rattle.crash_table.specs.declared.table.Block.{Block}
use Rattle.crash_table.specs.declared.table.OutcomeCount.{OutcomeCount}
use Rattle.crash_table.specs.declared.tried.Tried.{Tried}
use Rattle.crash_table.specs.Rows.{AreAdded, AreAlike, AreRowsOf, outcomes_of}

-- all that was tried of lines, each of which stands under its number
abbrev pub tried_in : List (ℕ × List Tried) → List Tried
tried_in lines = flat_map (λ line. line.1) lines

-- rows of what was tried of a line have these outcomes, in this order
abbrev pub Shows : List Outcome → ℕ × List Tried → Type 0
Shows outcomes line = (rows : List OutcomeCount) × AreRowsOf line.1 rows × (outcomes_of rows ≡ outcomes)

-- a block is of these lines: each shows its outcomes, and its rows are of all that was tried of them
pub record IsBlockOf (lines : List (ℕ × List Tried)) (block : Block) : Type 0 where
  pub some : 0 < length lines
  pub first : (d : ℕ × List Tried) → block.first ≡ (get_or lines 0 d).0
  pub last : (d : ℕ × List Tried) → block.last ≡ (get_or lines (length lines - 1) d).0
  pub shows : All (Shows (outcomes_of block.rows.items)) lines
  pub rows : AreRowsOf (tried_in lines) block.rows.items

-- these lines are told by these blocks, in their order
pub record AreBlocksOf (lines : List (ℕ × List Tried)) (blocks : List Block) : Type 0 where
  pub groups : List (List (ℕ × List Tried))
  pub all : flat_map (λ group. group) groups ≡ lines
  pub each : AllZip IsBlockOf groups blocks

-- this is the place of the last block, and these rows are like its rows
abbrev pub IsAlikeLast : List OutcomeCount → List Block → ℕ → Type 0
IsAlikeLast rows blocks place = (length blocks ≡ place + 1) × HoldsAt (λ block. AreAlike block.rows.items rows) blocks place

-- a block has taken a line in, whose rows have its outcomes
pub record JoinsBlock (line : ℕ) (rows : List OutcomeCount) (old new : Block) : Type 0 where
  pub first : new.first ≡ old.first
  pub last : new.last ≡ line
  pub same : outcomes_of rows ≡ outcomes_of old.rows.items
  pub added : AreAdded rows old.rows.items new.rows.items

-- a line stands behind the others, in a block of its own
pub record ComesLast (line : ℕ) (rows : List OutcomeCount) (old new : List Block) : Type 0 where
  pub block : Block
  pub is : new ≡ old ++ block ∷ []
  pub first : block.first ≡ line
  pub last : block.last ≡ line
  pub holds : block.rows.items ≡ rows

-- or in the last of them
pub record JoinsLast (line : ℕ) (rows : List OutcomeCount) (old new : List Block) : Type 0 where
  pub front : List Block
  pub before : Block
  pub after : Block
  pub was : old ≡ front ++ before ∷ []
  pub is : new ≡ front ++ after ∷ []
  pub joins : JoinsBlock line rows before after

abbrev pub TakesLine : ℕ → List OutcomeCount → List Block → List Block → Type 0
TakesLine line rows old new = ComesLast line rows old new ⊎ JoinsLast line rows old new
