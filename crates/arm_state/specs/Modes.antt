-- What a mode says.
use Rattle.std.specs.Prelude.{◌&&◌, ℕ, Bool, true, false, nat_lt}
use Rattle.arm_state.specs.declared.mode.Mode.{Mode}
use Rattle.arm_state.specs.declared.mode.Mode.TheVariants.{Disarmed, Armed, Disarming, Stranded, Closing, Saved}

abbrev pub is_armed : Mode → Bool
is_armed Armed = true
is_armed _ = false

abbrev pub is_stranded : Mode → Bool
is_stranded Stranded = true
is_stranded _ = false

-- a save of all accepted writes runs, or is to be begun again
abbrev pub is_disarming : Mode → Bool
is_disarming Disarming = true
is_disarming Stranded = true
is_disarming _ = false

-- mains were lost
abbrev pub has_ended : Mode → Bool
has_ended Closing = true
has_ended Saved = true
has_ended _ = false

-- all accepted writes are persistent, and the gauge is to have the energy of their save
abbrev pub is_backed : Mode → Bool
is_backed Armed = true
is_backed Disarming = true
is_backed Stranded = true
is_backed _ = false

-- the mode doesn't keep a write from being accepted
abbrev pub accepts_writes : Mode → Bool
accepts_writes Disarmed = true
accepts_writes Armed = true
accepts_writes _ = false

-- sensing reads the gauge
abbrev pub reads_gauge : Mode → Bool
reads_gauge Disarmed = true
reads_gauge Armed = true
reads_gauge _ = false

-- how many device calls a save on mains may make again, of those that a closing save may: only the save of a disarming is one
abbrev pub repeats_in : Mode → ℕ → ℕ
repeats_in Disarming retries = retries
repeats_in _ retries = 0

-- a reading is under what is needed, where the mode needs it
abbrev pub is_short : Mode → ℕ → ℕ → Bool
is_short mode reading need = is_armed mode && nat_lt reading need
