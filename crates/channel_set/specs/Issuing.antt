-- The commands that the channels issued.
use Rattle.std.specs.Prelude.{◌≡◌, ◌≢◌, ℕ, List, [], ◌∷◌, ◌++◌, map, slice_get, slice_index_or, slice_set, Option, Some, None}
use Rattle.ddr4_timing.specs.declared.command.Stamped.{Stamped}
use Rattle.channel_port.specs.declared.port.ChannelPort.{Ghosts}
use Rattle.channel_set.specs.declared.set.ChannelSet.{ChannelSet}

-- one command more in the list of this channel, where one was issued
abbrev pub with_issued_on : ℕ → Option Stamped → List (List Stamped) → List (List Stamped)
with_issued_on channel None lists = lists
with_issued_on channel (Some command) lists = slice_set lists channel (slice_index_or lists channel [] ++ command ∷ [])

module _ {K : Type 0} (L : Ghosts K) where
  -- the list of each channel, from the first to the last one
  abbrev pub issued_in : ChannelSet K L → List (List Stamped)
  issued_in channels = map L.issued channels.ports.items

  -- none of them issued a command, and their profile is the same
  pub record IssuesNone (old new : ChannelSet K L) : Type 0 where
    pub lists : issued_in new ≡ issued_in old
    pub checked : new.terms.checked ≡ old.terms.checked

  -- This channel issued this command, or none, and all other channels are as they were.
  pub record IssuesOn (channel : ℕ) (command : Option Stamped) (old new : ChannelSet K L) : Type 0 where
    pub lists : issued_in new ≡ with_issued_on channel command (issued_in old)
    pub checked : new.terms.checked ≡ old.terms.checked
    pub others : (other : ℕ) → other ≢ channel → slice_get new.ports.items other ≡ slice_get old.ports.items other

  -- none of them has issued a command yet
  abbrev pub HaveIssuedNone : ChannelSet K L → Type 0
  HaveIssuedNone channels = (number : ℕ) (port : K) → slice_get channels.ports.items number ≡ Some port → L.issued port ≡ []
