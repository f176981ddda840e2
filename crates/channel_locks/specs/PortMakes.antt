-- What the ports of a board have in common, and the parts of no board.
use Rattle.std.specs.Prelude.{ℕ, [], Option, Some, None}
use Rattle.atomic_table.specs.Seated.{TableId}
use Rattle.ddr4_timing.specs.declared.place.Place.{Place}
use Rattle.ddr4_timing.specs.declared.timing.Checked.{Checked}
use Rattle.channel_port.specs.View.{PortView}
use Rattle.channel_set.specs.Ports.{nowhere}

-- The profile, how many lines the memory has and where each lies, how many writes may wait in a port, and how many of its reads
-- may be open.
pub record PortMake : Type 0 where
  pub checked : Option Checked
  pub lines : ℕ
  pub place_of : ℕ → Place
  pub depth : ℕ
  pub most_reads : ℕ

abbrev pub make_of : PortView → PortMake
make_of v = record { checked = Some v.checked; lines = v.lines; place_of = v.place_of; depth = v.depth; most_reads = v.most_reads }

abbrev pub no_make : PortMake
no_make = record { checked = None; lines = 0; place_of = λ line. nowhere; depth = 0; most_reads = 0 }

abbrev pub no_logs : TableId
no_logs = record { words = 0; slots = 0; views_name = 0; atom = 0; block = 0; offset = 0; slot_names = [] }
