-- What a channel carries is carried still where it has no further write, and the memory below each number stays.
use Rattle.std.proofs.Common.{◌≡◌, ℕ, List, [], slice_get, slice_index_or, Some, length, Option, ap, sym, ◌∙◌}
use Rattle.ddr4_port.proofs.Common.{Carries, ChannelState, Has, LiesOn, Numbered, PendingWrite, Place, WaitFrom, after}
use Rattle.ddr4_port.proofs.Common.{cell_in, channel_memory, line_at, line_below, line_of, lines_of, memory_below}
use Rattle.ddr4_port.proofs.Common.{waits_of}
use Rattle.line_memory.specs.Parts.{below, writes_of}
use Rattle.ddr4_timing.specs.declared.command.Stamped.{Stamped}
use Rattle.request_notes.specs.declared.pending.Pending.{Pending}
use Rattle.chan_core.specs.declared.phase.Phase.{Phase}
use Rattle.chan_core.specs.Reads.{OpenTicket}
use Rattle.chan_core.proofs.Below.{below-none}
use Rattle.ddr4_port.proofs.Numbers.{AmongWrites, none-counted, waited}

-- what is said of the lines in the array follows
pub carried : (places : ℕ → Place) (s : ChannelState) (base : List (List ℕ)) (mine : List Numbered) → length base ≡ lines_of s.checked.geometry
    → ((i : ℕ) (w : PendingWrite) → slice_get s.writes i ≡ Some w → (v : Numbered) × Has v mine × (v.number ≡ w.number))
    → ((line : ℕ) → LiesOn places s line → line_at s (places line) ≡ line_of (after base (writes_of mine)) line)
    → ((n line : ℕ) → WaitFrom n mine (waits_of s).writes → LiesOn places s line → line_below n s (places line) ≡ line_of (after base (writes_of (below n mine))) line)
    → Carries places s base mine
carried places s base mine size given whole lines = record {
  size = size;
  given = given;
  whole = whole;
  lines = lines;
  settles = λ n line none waits own.
      ap (λ ls. slice_index_or ls (cell_in s (places line)) []) (sym (below-none s n (none-counted s.channel n s.writes none))) ∙ lines n line waits own;
}

-- The channel has other lines in its array, and some of its writes have gone there.
module _ (places : ℕ → Place) (s : ChannelState) (array : List (List ℕ)) (writes : List PendingWrite) (tickets : List OpenTicket) (requests : List Pending) (commands : List Stamped) (phase : Phase) where
  abbrev later : ChannelState
  later = record s { array = array; writes = writes; tickets = tickets; requests = requests; commands = commands; phase = phase }

  pub carry-on : (base : List (List ℕ)) (mine : List Numbered) → AmongWrites s.writes writes → channel_memory later ≡ channel_memory s
      → ((n : ℕ) → WaitFrom n mine (waits_of later).writes → memory_below n later ≡ memory_below n s)
      → Carries places s base mine → Carries places later base mine
  carry-on base mine among memory stays c = carried places later base mine c.size
      (λ i w there. let was = among i w there in c.given was.0 w was.1)
      (λ line own. ap (λ ls. slice_index_or ls (cell_in s (places line)) []) memory ∙ c.whole line (record { below = own.below; here = own.here }))
      (λ n line waits own.
      ap (λ ls. slice_index_or ls (cell_in s (places line)) []) (stays n waits)
      ∙ c.lines n line (waited s.channel n mine s.writes writes among waits) (record { below = own.below; here = own.here }))

-- Of its lines and its pending writes none has changed.
pub unseen : (places : ℕ → Place) (s : ChannelState) (tickets : List OpenTicket) (serial : ℕ) (requests : List Pending) (hold : Option ℕ) (phase : Phase) (base : List (List ℕ)) (mine : List Numbered)
    → Carries places s base mine → Carries places (record s { tickets = tickets; serial = serial; requests = requests; hold = hold; phase = phase }) base mine
unseen places s tickets serial requests hold phase base mine c = record {
  size = c.size;
  given = c.given;
  whole = λ line own. c.whole line (record { below = own.below; here = own.here });
  lines = λ n line waits own. c.lines n line waits (record { below = own.below; here = own.here });
  settles = λ n line none waits own. c.settles n line none waits (record { below = own.below; here = own.here });
}
