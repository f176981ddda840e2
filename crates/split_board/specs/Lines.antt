-- The channels of a board's lines.
use Rattle.std.specs.Prelude.{◌≡◌, ℕ, ◌<◌, ◌≤◌, All, List, map}
use Rattle.std.specs.List.{range_with_len}
use Rattle.channel_locks.specs.declared.parts_name.PartsName.{Ghosts as PartsGhosts}
use Rattle.board_hosts.specs.declared.board_name.BoardName.{Ghosts as BoardGhosts}

module _ {B : Type 0} (O : BoardGhosts B) (P : PartsGhosts B) where
  -- The table has the channel of each line, by where the board's lines lie; each is one of the board's channels, of which there are
  -- some, and eight at most.
  pub record AreLinesOfBoard (table : List ℕ) : Type 0 where
    pub laid : table ≡ map (λ line. (P.make.place_of line).channel) (range_with_len 0 P.make.lines)
    pub known : All (λ channel. channel < P.ports) table
    pub some : 0 < P.ports
    pub eight : P.ports ≤ 8
    pub channels : O.channels ≡ P.ports
