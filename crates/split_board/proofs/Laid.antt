-- The channel that is asked for a line.
use Rattle.std.proofs.Common.{◌≡◌, ◌∙◌, ℕ, List, length, slice_index_or, ap, arith, sym}
use Rattle.std.proofs.lemmas.List.FromFn.{get_or-map-range_with_len, length-map-range_with_len}
use Rattle.std.proofs.lemmas.List.{get_or_past}
use Rattle.channel_locks.specs.declared.parts_name.PartsName.{Ghosts as PartsGhosts}
use Rattle.board_hosts.specs.declared.board_name.BoardName.{Ghosts as BoardGhosts}
use Rattle.board_desk.specs.Answering.{IsAskedFor}
use Rattle.split_board.specs.Lines.{AreLinesOfBoard}

module _ {B : Type 0} (O : BoardGhosts B) (P : PartsGhosts B) (table : List ℕ) (laid : AreLinesOfBoard O P table) where
  size : length table ≡ P.make.lines
  size = ap length laid.laid ∙ length-map-range_with_len (λ line. (P.make.place_of line).channel) 0 P.make.lines

  pub asked_for : (line channel : ℕ) → channel ≡ slice_index_or table line 0 → IsAskedFor P.make line channel
  asked_for line channel is = record {
    here = λ within. sym (is ∙ (ap (λ (xs : List ℕ). slice_index_or xs line 0) laid.laid
        ∙ get_or-map-range_with_len (λ line. (P.make.place_of line).channel) 0 P.make.lines line line 0 within (omega arith)));
    beyond = λ past. is ∙ get_or_past table line 0 (omega (arith, size, past));
  }
