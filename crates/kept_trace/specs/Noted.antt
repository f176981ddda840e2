-- What contracts see of a trace that may be kept.
use Rattle.std.specs.Prelude.{Bool, List}

-- the values that were noted, the oldest first, and whether they can be read
pub record Noted (X : Type 0) : Type 0 where
  pub items : List X
  pub is_kept : Bool
