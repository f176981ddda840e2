-- The spare place of a file, and what an opening finds by it. Behind a device's bytes stand a sector's content, in the next sector its
-- number, and in a third one the gate, which is 0 but while the sector is to be put back.
use Rattle.std.specs.Prelude.{◌++◌, ℕ, ◌+◌, ◌*◌, ◌==◌, ◌&&◌, Bool, not, nat_lt, List, slice_index, slice_range, take, if◌then◌else◌}
use Rattle.std.specs.Int.{w64, from_le_bytes, to_le_bytes}
use Rattle.save_device.specs.Rows.{overwritten}

-- the bytes of the spare place
abbrev pub spare_size : ℕ
spare_size = 1536

-- where the gate stands behind so many bytes
abbrev pub gate_at : ℕ → ℕ
gate_at size = size + 1024

-- the content that the spare place has
abbrev pub spare_content : ℕ → List ℕ → List ℕ
spare_content size bytes = slice_range bytes size (size + 512)

-- the number of its sector
abbrev pub spare_number : ℕ → List ℕ → ℕ
spare_number size bytes = from_le_bytes w64 (slice_range bytes (size + 512) (size + 520))

-- the gate isn't shut, and the sector is one of the device's
abbrev pub is_open : ℕ → List ℕ → Bool
is_open size bytes = not (slice_index bytes (gate_at size) == 0) && nat_lt (512 * spare_number size bytes) size

-- what an opening finds in a file of a device of so many bytes: these, with the sector of the spare place where the gate is open
abbrev pub found_in : ℕ → List ℕ → List ℕ
found_in size bytes =
    if is_open size bytes then overwritten (take size bytes) (512 * spare_number size bytes) (spare_content size bytes) else take size bytes

-- a sector of these bytes, as the spare place has it
abbrev pub spare_of : ℕ → List ℕ → List ℕ
spare_of number bytes = slice_range bytes (512 * number) (512 * number + 512) ++ to_le_bytes w64 number
