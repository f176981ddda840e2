-- The life of a session, and how it goes on.
use Rattle.std.specs.Prelude.{◌≡◌, ℕ, ◌+◌, ◌-◌, ◌^◌, List, Option, Some, None, MatchOption, nat_lt, if◌then◌else◌}
use Rattle.std.specs.Option.{option_map}
use Rattle.ddr4_timing.specs.declared.command.Stamped.{Stamped}
use Rattle.ddr4_timing.specs.declared.timing.Checked.{Checked}
use Rattle.ddr4_timing.specs.Limits.{lines_of}
use Rattle.save_device.specs.declared.fuse.Fuse.{Fuse}
use Rattle.save_device.specs.declared.memory.MemoryDevice.{MemoryDevice}
use Rattle.save_device.specs.declared.one_fault.OneFault.{OneFault}
use Rattle.save_device.specs.Device.{DeviceState, with_calls}
use Rattle.save_device.specs.Memory.{state_of}
use Rattle.slot_store.specs.Slots.{HasSize}
use Rattle.energy_budget.specs.Gauge.{Gauge}
use Rattle.arm_state.specs.declared.refusal.ReadRefusal.{ReadRefusal}
use Rattle.arm_state.specs.declared.refusal.ReadRefusal.TheVariants as read
use Rattle.arm_state.specs.declared.refusal.WriteRefusal.{WriteRefusal}
use Rattle.arm_state.specs.declared.refusal.WriteRefusal.TheVariants as write
use Rattle.channel_port.specs.declared.answers.Done.{Done}
use Rattle.channel_port.specs.declared.port.ChannelPort.{Ghosts}
use Rattle.channel_port.specs.Shape.{Shape, IsShape}
use Rattle.channel_set.specs.Issuing.{HaveIssuedNone}
use Rattle.nv_profile.specs.declared.profile.Profile.{Profile}
use Rattle.nv_machine.specs.declared.events.Event.{Event}
use Rattle.nv_machine.specs.declared.events.Event.TheVariants as event
use Rattle.nv_machine.specs.declared.events.Reply.{Reply}
use Rattle.nv_machine.specs.declared.events.Reply.TheVariants as reply
use Rattle.nv_machine.specs.State.{Setup, Machine}
use Rattle.module_core.specs.declared.module.Module.{Module}
use Rattle.module_core.specs.ModuleLives.{LifeSoFar}
use Rattle.module_core.specs.Stands.{Assembly, assembly, setup_of}
use Rattle.nv_session.specs.Coming.{Tale, IsOneEvent, Comes}

-- why a line isn't written or read where no life runs, in a memory of so many lines
abbrev pub write_refusal_at_rest : ℕ → ℕ → WriteRefusal
write_refusal_at_rest lines line = if nat_lt line lines then write.Closed else write.NoSuchLine

abbrev pub read_refusal_at_rest : ℕ → ℕ → ReadRefusal
read_refusal_at_rest lines line = if nat_lt line lines then read.Closed else read.NoSuchLine

-- the work on a channel, of which this command was issued, if one was
pub record IsWork (channel : ℕ) (command : Option Stamped) (events : List Event) (replies : List Reply) (old new : Machine) : Type 0 where
  pub done : Option Done
  pub is : command ≡ option_map (λ done. done.command) done
  pub one : IsOneEvent (event.Work channel) (reply.Work done) events replies old new

-- the gauge once this level was set: one below the last is a fault
abbrev pub set_to : ℕ → Gauge → Gauge
set_to level gauge = record gauge { level = level; faults = gauge.faults + (if nat_lt level gauge.level then 1 else 0) }

-- channels of this shape have the profile's lines and channels
pub record IsShapeFor (profile : Profile) (shape : Shape) : Type 0 where
  pub shaped : IsShape shape
  pub lines : shape.lines ≡ lines_of profile.checked.geometry
  pub channels : shape.channels ≡ profile.checked.geometry.channels

-- the device in memory that the others stand around
abbrev pub innermost : OneFault (Fuse MemoryDevice) → MemoryDevice
innermost device = device.device.device

-- the device as the life sees it: a call that fails within, at a fuse or alone, is one of its calls
abbrev pub device_state : OneFault (Fuse MemoryDevice) → DeviceState
device_state device = with_calls (state_of (innermost device)) device.calls

-- no call of it is to fail
pub record PassesAll (device : OneFault (Fuse MemoryDevice)) : Type 0 where
  pub fault : device.before ≡ None
  pub fuse : device.device.left ≡ 2 ^ 64 - 1

-- a session at a moment: the life that runs, if one does, with the device and the gauge
pub record SessionAt {K : Type 0} (L : Ghosts K) : Type 0 where
  pub life : Option (Module K L)
  pub device : DeviceState
  pub gauge : Gauge

abbrev pub session_at : {K : Type 0} {L : Ghosts K} → Option (Module K L) → DeviceState → Gauge → SessionAt L
session_at life device gauge = record { life = life; device = device; gauge = gauge }

module _ {K : Type 0} (L : Ghosts K) where
  -- the module has a life so far, with its device and its gauge
  abbrev pub HasLife : Assembly L → Type 0
  HasLife now = ∥ LifeSoFar L now ∥₁

  -- of the writes that the newest image holds none is stored
  abbrev pub IsCutToSaved : Module K L → Type 0
  IsCutToSaved it = it.front.terms.cut ≡ it.front.saved

  -- no cut was made, and the newest image holds as many writes as before
  pub record SameStored (old new : Module K L) : Type 0 where
    pub cut : new.front.terms.cut ≡ old.front.terms.cut
    pub saved : new.front.saved ≡ old.front.saved

  -- The device is one for images of the profile's lines. The life that runs, if one does, has the profile's lines and channels,
  -- and has lived with the device and the gauge since it was opened; its stored writes are cut.
  pub record IsLiving (profile : Profile) (at : SessionAt L) : Type 0 where
    pub size : HasSize (lines_of profile.checked.geometry) at.device
    pub fits : (it : Module K L) → at.life ≡ Some it → IsShapeFor profile (setup_of L it).shape
    pub lives : (it : Module K L) → at.life ≡ Some it → HasLife (assembly it at.device at.gauge)
    pub cut : (it : Module K L) → at.life ≡ Some it → IsCutToSaved it

  -- a life of this setup runs
  pub record RunsWith (setup : Setup) (Of : Module K L → Type 0) (life : Option (Module K L)) : Type 0 where
    pub it : Module K L
    pub runs : life ≡ Some it
    pub over : setup_of L it ≡ setup
    pub holds : Of it

  -- the channels of the life that runs are of this profile, and none of them has issued a command
  pub record RunsUnissued (checked : Checked) (life : Option (Module K L)) : Type 0 where
    pub it : Module K L
    pub runs : life ≡ Some it
    pub checked_is : it.channels.terms.checked ≡ checked
    pub none : HaveIssuedNone L it.channels

  -- a life went on by events of which this is told, and its setup stayed
  abbrev pub LivesOn : (Setup → Tale) → Module K L → SessionAt L → SessionAt L → Type 0
  LivesOn Told it old new =
      RunsWith (setup_of L it) (λ later. Comes L (Told (setup_of L it)) (assembly it old.device old.gauge) (assembly later new.device new.gauge)) new.life

  -- the life that runs, if one does, goes on so; else nothing happens
  abbrev pub GoesOnBy : (Setup → Tale) → SessionAt L → SessionAt L → Type 0
  GoesOnBy Told old new = MatchOption old.life (new ≡ old) (λ it. LivesOn Told it old new)

  -- the same of calls that ask neither the device nor the gauge
  abbrev pub GoesOnAlone : (Setup → Tale) → Option (Module K L) → Option (Module K L) → Type 0
  GoesOnAlone Told old new = (device : DeviceState) (gauge : Gauge) → GoesOnBy Told (session_at old device gauge) (session_at new device gauge)
