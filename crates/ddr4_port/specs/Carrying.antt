-- The writes that a channel was given since it began.
use Rattle.std.specs.Prelude.{◌≡◌, ℕ, List, [], length, slice_get, slice_index_or, Some}
use Rattle.line_memory.specs.Memory.{after, line_of}
use Rattle.line_memory.specs.Parts.{below, writes_of}
use Rattle.line_memory.specs.declared.parts.Numbered.{Numbered}
use Rattle.ddr4_timing.specs.Limits.{lines_of}
use Rattle.ddr4_timing.specs.declared.place.Place.{Place}
use Rattle.wpq_core.specs.declared.queue.PendingWrite.{PendingWrite}
use Rattle.chan_core.specs.Mapped.{LiesOn}
use Rattle.chan_core.specs.State.{ChannelState, cell_in, line_at, memory_below, stored_at}
use Rattle.channel_port.specs.Carried.{NoneBelow, WaitFrom}
use Rattle.channel_port.specs.Waits.{Has}
use Rattle.ddr4_port.specs.Port.{waits_of}

-- the line at a place of the channel, after the writes below a number that it was given
abbrev pub line_below : ℕ → ChannelState → Place → List ℕ
line_below n s place = slice_index_or (memory_below n s) (cell_in s place) []

-- Its lines were those of the memory `base` at first, and it was given these writes of them since: they are the memory after all of
-- them; once each of them from n on waits, they are the memory after those below n, where the pending ones below n are counted in;
-- and once none of these waits, that memory is in the array.
pub record Carries (place_of : ℕ → Place) (s : ChannelState) (base : List (List ℕ)) (mine : List Numbered) : Type 0 where
  pub size : length base ≡ lines_of s.checked.geometry
  pub given : (i : ℕ) (w : PendingWrite) → slice_get s.writes i ≡ Some w → (v : Numbered) × Has v mine × (v.number ≡ w.number)
  pub whole : (line : ℕ) → LiesOn place_of s line → line_at s (place_of line) ≡ line_of (after base (writes_of mine)) line
  pub lines : (n line : ℕ) → WaitFrom n mine (waits_of s).writes → LiesOn place_of s line
      → line_below n s (place_of line) ≡ line_of (after base (writes_of (below n mine))) line
  pub settles : (n line : ℕ) → NoneBelow n (waits_of s).writes → WaitFrom n mine (waits_of s).writes → LiesOn place_of s line
      → stored_at s (place_of line) ≡ line_of (after base (writes_of (below n mine))) line
