-- Where the bank and the row of a key lie.
use Rattle.std.specs.Prelude.{ℕ, ◌+◌, ◌*◌, ◌/◌, ◌%◌}
use Rattle.ddr4_timing.specs.declared.place.Place.{Place}
use Rattle.request_notes.specs.declared.key.Key.{Key}

-- where a place's bank stands in a table of 64, also where no geometry has the place
abbrev pub bank_number : Place → ℕ
bank_number p = p.rank % 4 * 16 + p.group % 4 * 4 + p.bank % 4

-- the first place of the row that a key names
abbrev pub place_of : Key → Place
place_of k = record { channel = 0; rank = k.bank / 16; group = k.bank / 4 % 4; bank = k.bank % 4; row = k.row; column = 0 }
