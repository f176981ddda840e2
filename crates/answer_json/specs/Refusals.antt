-- What is told of a refusal.
use Rattle.std.specs.Prelude.{ℕ, List, [], ◌∷◌, ◌++◌, codes}
use Rattle.arm_state.specs.declared.refusal.ArmRefusal.{ArmRefusal}
use Rattle.arm_state.specs.declared.refusal.ArmRefusal.TheVariants as arm
use Rattle.arm_state.specs.declared.refusal.ReadRefusal.{ReadRefusal}
use Rattle.arm_state.specs.declared.refusal.ReadRefusal.TheVariants as read
use Rattle.arm_state.specs.declared.refusal.WriteRefusal.{WriteRefusal}
use Rattle.arm_state.specs.declared.refusal.WriteRefusal.TheVariants as write
use Rattle.slot_store.specs.declared.restoring.RestoreError.{RestoreError}
use Rattle.slot_store.specs.declared.restoring.RestoreError.TheVariants as restore
use Rattle.slot_store.specs.declared.slots.Slot.{Slot}
use Rattle.slot_store.specs.declared.slots.Slot.TheVariants.{First, Second}
use Rattle.answer_json.specs.Told.{Piece, says, counts, names}

-- the call, and the number and the name of the refusal
abbrev pub refused : List ℕ → ℕ → List ℕ → List Piece
refused call code reason = says (codes "refused") ∷ names (codes "call") call ∷ counts (codes "code") code ∷ names (codes "reason") reason ∷ []

-- the energy that is needed, and that there is
abbrev pub too_low : ℕ → ℕ → List Piece
too_low need has = counts (codes "need") need ∷ counts (codes "has") has ∷ []

abbrev pub write_refused : WriteRefusal → List Piece
write_refused write.Full = refused (codes "write") 1 (codes "Full")
write_refused (write.EnergyLow need has) = refused (codes "write") 2 (codes "EnergyLow") ++ too_low need has
write_refused write.Disarming = refused (codes "write") 3 (codes "Disarming")
write_refused write.Closed = refused (codes "write") 4 (codes "Closed")
write_refused write.TrailFull = refused (codes "write") 5 (codes "TrailFull")
write_refused write.NoSuchLine = refused (codes "write") 6 (codes "NoSuchLine")

abbrev pub read_refused : ReadRefusal → List Piece
read_refused read.Full = refused (codes "read") 1 (codes "Full")
read_refused read.Closed = refused (codes "read") 4 (codes "Closed")
read_refused read.NoSuchLine = refused (codes "read") 6 (codes "NoSuchLine")

-- of arming, disarming or a save
abbrev pub arm_refused : List ℕ → ArmRefusal → List Piece
arm_refused call (arm.NeedEnergy need has) = refused call 1 (codes "NeedEnergy") ++ too_low need has
arm_refused call arm.SaveRunning = refused call 2 (codes "SaveRunning")
arm_refused call arm.Unsettled = refused call 3 (codes "Unsettled")
arm_refused call arm.Disarming = refused call 4 (codes "Disarming")
arm_refused call arm.Closed = refused call 5 (codes "Closed")
arm_refused call arm.Spent = refused call 6 (codes "Spent")
arm_refused call arm.Device = refused call 7 (codes "Device")

abbrev pub slot_number : Slot → ℕ
slot_number First = 0
slot_number Second = 1

abbrev pub restore_refused : RestoreError → List Piece
restore_refused restore.NoImage = refused (codes "restore") 1 (codes "NoImage")
restore_refused (restore.Damaged slot) = refused (codes "restore") 2 (codes "Damaged") ++ counts (codes "slot") (slot_number slot) ∷ []
restore_refused restore.WrongSize = refused (codes "restore") 3 (codes "WrongSize")
restore_refused restore.Device = refused (codes "restore") 4 (codes "Device")
restore_refused restore.Memory = refused (codes "restore") 5 (codes "Memory")
