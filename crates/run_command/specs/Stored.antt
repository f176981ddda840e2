-- What a run on a store leaves in it.
use Rattle.std.specs.Prelude.{◌≡◌, ◌⊎◌, ℕ, List, Option}
use Rattle.ddr4_timing.specs.Limits.{lines_of}
use Rattle.save_device.specs.Memory.{state_of}
use Rattle.save_device.specs.declared.memory.MemoryDevice.{MemoryDevice}
use Rattle.slot_store.specs.Slots.{device_size}
use Rattle.channel_port.specs.declared.port.ChannelPort.{Ghosts}
use Rattle.nv_profile.specs.declared.profile.Profile.{Profile}
use Rattle.nv_session.specs.declared.wires.Wires as wires
use Rattle.nv_script.specs.declared.line.ScriptLine.{ScriptLine}
use Rattle.nv_script.specs.declared.answer.Answer.{Answer}
use Rattle.nv_script.specs.Texts.{IsScript}
use Rattle.script_runner.specs.Ended.{Kept}
use Rattle.script_runner.specs.Runs.{IsKeptRunOn}
use Rattle.store_file.specs.Stores.{IfHas, device_in}
use Rattle.run_command.specs.declared.stored.StoredFault.{StoredFault}
use Rattle.run_command.specs.declared.stored.StoredFault.TheVariants as fault

-- the bytes of a profile's device
abbrev pub size_for : Profile → ℕ
size_for profile = device_size (lines_of profile.checked.geometry)

-- the text is a script, and its lines were run on a device that began with these bytes; what is kept of it, if anything is, is this
pub record RunsScriptOn {K A : Type 0} (L : Ghosts K) (W : wires.Ghosts A K) (Wired : A → Type 0) (profile : Profile) (bytes text : List ℕ) (before after : List Answer) (kept : Option Kept) (device : MemoryDevice) : Type 0 where
  pub lines : List ScriptLine
  pub script : IsScript profile.checked.geometry text lines
  pub runs : IsKeptRunOn L W Wired profile bytes lines before after kept device

-- it was run on the device that a store had, and the store has the device as the run left it
pub record RunsOnStore {K A : Type 0} (L : Ghosts K) (W : wires.Ghosts A K) (Wired : A → Type 0) (profile : Profile) (text : List ℕ) (before after : List Answer) (kept : Option Kept) (old new : List ℕ) : Type 0 where
  pub device : MemoryDevice
  pub runs : RunsScriptOn L W Wired profile (device_in (size_for profile) old) text before after kept device
  pub left : device_in (size_for profile) new ≡ (state_of device).bytes

-- where it is known what a store had and what it has, this of both
abbrev pub IfHad : (List ℕ → List ℕ → Type 0) → Option (List ℕ) → Option (List ℕ) → Type 0
IfHad P old new = IfHas (λ was. IfHas (λ now. P was now) new) old

-- A run that came to no end spares its store. Only where the store is at fault, it may have been replaced too.
abbrev pub IsSpared : StoredFault → Type 0 → Type 0 → Type 0
IsSpared (fault.Script why) stays replaced = stays
IsSpared (fault.Store why) stays replaced = stays ⊎ replaced
