-- What contracts see of a list whose room is reserved once.
use Rattle.std.specs.Prelude.{ℕ, ◌+◌, ◌≤◌, List}

-- how many elements it may hold, and those that it holds, in order
pub record Bounded (X : Type 0) : Type 0 where
  pub most : ℕ
  pub items : List X

-- What is true of what a list keeps: its elements are those from a start on, no more than it may hold, for which its row has room.
pub record KeepsFew (most start size capacity : ℕ) : Type 0 where
  pub within : start ≤ size
  pub few : size ≤ start + most
  pub room : most ≤ capacity
