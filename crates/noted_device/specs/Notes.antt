-- Changes that are noted, and what they make of a store.
use Rattle.std.specs.Prelude.{◌≡◌, ◌<◌, ℕ, List, [], ◌∷◌, ◌++◌, drop, length, map}
use Rattle.save_device.specs.Changes.{Change, Put, Settle, changed}
use Rattle.save_device.specs.Memory.{state_of}
use Rattle.save_device.specs.declared.memory.MemoryDevice.{MemoryDevice}
use Rattle.noted_device.specs.declared.notes.Handed.{Handed}
use Rattle.noted_device.specs.declared.notes.Handed.TheVariants as handed
use Rattle.noted_device.specs.declared.notes.Note.{Note}
use Rattle.noted_device.specs.declared.notes.Note.TheVariants.{Write, Sync}

-- the change that a note stands for
abbrev pub change_of : Note → Change
change_of (Write at bytes) = Put at bytes.items
change_of Sync = Settle

-- a row of bytes on which these changes were made in turn
abbrev pub made_of : List Change → List ℕ → List ℕ
made_of [] row = row
made_of (change ∷ rest) row = made_of rest (changed change row)

-- These notes make, of the bytes that a device began with, those that it has.
abbrev pub Tells : List MemoryDevice → List Note → List ℕ → Type 0
Tells began notes bytes = (first : MemoryDevice) → began ≡ first ∷ [] → made_of (map change_of notes) (state_of first).bytes ≡ bytes

-- A change is handed out, of those that were noted, with its bytes at the beginning of a buffer; these are noted still. One whose bytes
-- are more than the buffer's stays.
abbrev pub Hands : Handed → List Change → List Change → List ℕ → List ℕ → Type 0
Hands handed.Nothing old new had has = (old ≡ []) × (new ≡ []) × (has ≡ had)
Hands handed.Sync old new had has = (old ≡ Settle ∷ new) × (has ≡ had)
Hands (handed.Write at n) old new had has = (bytes : List ℕ) × (length bytes ≡ n) × (old ≡ Put at bytes ∷ new) × (has ≡ bytes ++ drop n had)
Hands (handed.Longer n) old new had has =
    (at : ℕ) × (bytes : List ℕ) × (rest : List Change) × (length bytes ≡ n) × (length had < n) × (old ≡ Put at bytes ∷ rest) × (new ≡ old) × (has ≡ had)
