-- The state of the machine: a life, what waits in the channels, and what a restore would find.
use Rattle.std.specs.Prelude.{ℕ, ◌+◌, ◌-◌, Bool, List, drop, length, Option, Some, None}
use Rattle.line_memory.specs.declared.Write.{Write}
use Rattle.line_memory.specs.Memory.{after, memory_at}
use Rattle.save_image.specs.Image.{Image}
use Rattle.save_image.specs.Header.{arm_byte}
use Rattle.slot_store.specs.declared.plan.Step.{Step}
use Rattle.slot_store.specs.declared.plan.Step.TheVariants.{Close, Header, SyncBody, Open, SyncOpen, Done}
use Rattle.slot_store.specs.Rest.{Candidates}
use Rattle.save_device.specs.Device.{DeviceState}
use Rattle.arm_state.specs.declared.mode.Mode.{Mode}
use Rattle.energy_budget.specs.Gauge.{Gauge}
use Rattle.channel_port.specs.Waits.{Waits}
use Rattle.channel_port.specs.Shape.{Shape}
use Rattle.arm_state.specs.declared.loss.Loss.{Loss}

-- What doesn't change in a life: the shape of the channels, and how many writes there is room for.
pub record Setup : Type 0 where
  pub shape : Shape
  pub trail : ℕ

-- A life: the image that it began with, the writes accepted since, and how many writes of all are persistent.
pub record Life : Type 0 where
  pub opened : Image
  pub writes : List Write
  pub persisted : ℕ

-- the number of the life's first write, and the memory that it began with
abbrev pub start_of_life : Life → ℕ
start_of_life life = life.opened.count

abbrev pub base_of_life : Life → List (List ℕ)
base_of_life life = life.opened.memory

-- a save that runs: the image that it makes, the coming step, and how often a step of it has failed and was to be made again
pub record RunningSave : Type 0 where
  pub made : Image
  pub next : Step
  pub repeats : ℕ

-- What a restore would find: the images that a stop may make the newest, of which `maybe.newest` is the one known settled;
-- whether the other slot's gate is known closed and settled; whether a call of the device failed since the last save; and a
-- save that runs.
pub record Store : Type 0 where
  pub maybe : Candidates
  pub closed : Bool
  pub unsettled : Bool
  pub saving : Option RunningSave

-- The mode, the last reading of the gauge, the answer to the loss of mains once they were lost, the life, the number of the first
-- write that is stored, what waits in the channels, and what a restore would find. The whole life is what theorems speak of. Of it
-- only the writes from the cut on take room, and the memory before them.
pub record Machine : Type 0 where
  pub mode : Mode
  pub reading : ℕ
  pub lost : Option Loss
  pub life : Life
  pub cut : ℕ
  pub waits : Waits
  pub store : Store

-- the machine, and what is known of the device and of the gauge
pub record World : Type 0 where
  pub machine : Machine
  pub device : DeviceState
  pub gauge : Gauge

-- the number of writes accepted, counted from the first life on
abbrev pub all_of : Machine → ℕ
all_of m = start_of_life m.life + length m.life.writes

-- the memory after all accepted writes, and after the first n of them
abbrev pub memory_of : Machine → List (List ℕ)
memory_of m = after (base_of_life m.life) m.life.writes

abbrev pub memory_after : Machine → ℕ → List (List ℕ)
memory_after m n = memory_at (base_of_life m.life) (start_of_life m.life) m.life.writes n

-- what is stored of the life: the memory before its cut, and the writes from there on
abbrev pub stored_base : Machine → List (List ℕ)
stored_base m = memory_after m m.cut

abbrev pub stored_writes : Machine → List Write
stored_writes m = drop (m.cut - start_of_life m.life) m.life.writes

-- how many writes aren't in an array yet
abbrev pub pending_of : Machine → ℕ
pending_of m = length m.waits.writes

-- the newest image, and the image that a save of all accepted writes makes
abbrev pub newest_of : Machine → Image
newest_of m = m.store.maybe.newest

abbrev pub made_of : Bool → Machine → Image
made_of armed m = record { generation = (newest_of m).generation + 1; count = all_of m; arm = arm_byte armed; memory = memory_of m }

-- a save of this image, before its first step
abbrev pub begun_save : Image → RunningSave
begun_save made = record { made = made; next = Close; repeats = 0 }

-- the writes from this number on stay out of the arrays, until a save has written its last page
abbrev pub hold_at : ℕ → Step → Option ℕ
hold_at count Header = None
hold_at count SyncBody = None
hold_at count Open = None
hold_at count SyncOpen = None
hold_at count Done = None
hold_at count step = Some count

abbrev pub hold_of : Option RunningSave → Option ℕ
hold_of None = None
hold_of (Some save) = hold_at save.made.count save.next
