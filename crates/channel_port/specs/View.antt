-- What contracts see of a channel.
use Rattle.std.specs.Prelude.{◌==◌, ℕ, Bool, List, ◌++◌, [], ◌∷◌, length, Option}
use Rattle.ddr4_timing.specs.declared.place.Place.{Place}
use Rattle.ddr4_timing.specs.declared.timing.Checked.{Checked}
use Rattle.channel_port.specs.declared.stage.Stage.{Stage}
use Rattle.channel_port.specs.declared.stage.Stage.TheVariants.{OnBackup}
use Rattle.channel_port.specs.Waits.{Waits, waiting}

-- Its number among the channels, and the profile of all of them; how many lines the memory has, and where each lies, on this channel or another; how many writes
-- may wait in it, and how many of its reads may be open. What waits; the number from which on writes stay out of its array, if
-- there is one; its stage; and the bytes of each of its lines in the array.
pub record PortView : Type 0 where
  pub number : ℕ
  pub checked : Checked
  pub lines : ℕ
  pub place_of : ℕ → Place
  pub depth : ℕ
  pub most_reads : ℕ
  pub waits : Waits
  pub hold : Option ℕ
  pub stage : Stage
  pub stored : ℕ → List ℕ

-- whether it has no room for a further write, and for a further read
abbrev pub is_full : PortView → Bool
is_full v = length v.waits.writes == v.depth

abbrev pub is_full_of_reads : PortView → Bool
is_full_of_reads v = length v.waits.reads == v.most_reads

-- a write of this number waits behind the others
abbrev pub with_write : ℕ → PortView → PortView
with_write number v = record v { waits = record v.waits { writes = v.waits.writes ++ waiting number v.number ∷ [] } }

-- as backup begins no read is open any more
abbrev pub on_backup : PortView → PortView
on_backup v = record v { waits = record v.waits { reads = [] }; stage = OnBackup }
