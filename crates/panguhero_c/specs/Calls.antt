-- What a call of a handle comes to, as C is told: the reply of the life's own call, and how the life went on with that.
use Rattle.std.specs.Prelude.{◌≡◌, ◌≢◌, ◌<◌, ◌≤◌, ◌⊎◌, ℕ, List, ◌++◌, drop, length, take, MatchOption, Option, Some, None, Result, Ok, Err}
use Rattle.arm_state.specs.declared.loss.Loss.{Loss}
use Rattle.arm_state.specs.declared.refusal.ArmRefusal.{ArmRefusal}
use Rattle.arm_state.specs.declared.refusal.ArmReply.{ArmReply}
use Rattle.arm_state.specs.declared.refusal.DisarmReply.{DisarmReply}
use Rattle.arm_state.specs.declared.refusal.ReadRefusal.{ReadRefusal}
use Rattle.arm_state.specs.declared.refusal.WriteRefusal.{WriteRefusal}
use Rattle.channel_port.specs.declared.answers.Collected.{Collected}
use Rattle.channel_port.specs.declared.answers.Collected.TheVariants.{Data, Pending, Unknown}
use Rattle.channel_port.specs.declared.answers.Ticket.{Ticket}
use Rattle.channel_port.specs.declared.port.ChannelPort.{Ghosts}
use Rattle.ddr4_timing.specs.Limits.{lines_of}
use Rattle.module_core.specs.Stands.{setup_of}
use Rattle.nv_machine.specs.declared.events.Accepted.{Accepted}
use Rattle.nv_machine.specs.declared.events.Event.TheVariants as event
use Rattle.nv_machine.specs.declared.events.Reply.TheVariants as reply
use Rattle.nv_machine.specs.declared.events.StepReply.{StepReply}
use Rattle.nv_profile.specs.Profile.{IsProfileText}
use Rattle.nv_session.specs.Coming.{IsOneEvent}
use Rattle.nv_session.specs.Living.{set_to}
use Rattle.nv_session.specs.SaveTurns.{MakesSave}
use Rattle.nv_session.specs.Turns.{MakesOneStep}
use Rattle.energy_budget.specs.Meter.{level_of, meter_gauge}
use Rattle.save_device.specs.declared.device.SaveDevice as device
use Rattle.save_device.specs.declared.fuse.Fuse.{Fuse}
use Rattle.save_device.specs.declared.memory.MemoryDevice.{MemoryDevice}
use Rattle.save_device.specs.declared.memory.Pick.{Pick}
use Rattle.save_device.specs.declared.memory.Pick.TheVariants.{Old, New, Torn}
use Rattle.save_device.specs.Device.{MayLeave, present}
use Rattle.save_device.specs.Memory.{state_of, IsPicked}
use Rattle.slot_store.specs.Slots.{device_size}
use Rattle.noted_device.specs.declared.device.NotedDevice.{NotedDevice}
use Rattle.noted_device.specs.declared.notes.Handed.{Handed}
use Rattle.noted_device.specs.Notes.{Hands}
use Rattle.open_life.specs.declared.either.EitherDevice.{EitherDevice}
use Rattle.open_life.specs.declared.life.OpenLife.{OpenLife}
use Rattle.open_life.specs.declared.opening.Found as found
use Rattle.open_life.specs.declared.opening.Found.TheVariants as founds
use Rattle.open_life.specs.declared.turns.LineRead.{LineRead}
use Rattle.open_life.specs.declared.turns.LineRead.TheVariants.{Content, Waiting}
use Rattle.open_life.specs.Begins.{Begins, BeginsNew}
use Rattle.open_life.specs.Either.{first_in}
use Rattle.open_life.specs.Lives.{GoesOn, WorksUpTo}
use Rattle.open_life.specs.Noted.{changes_in}
use Rattle.open_life.specs.Now.{now_of}
use Rattle.open_life.specs.Reads.{ReadsLine}
use Rattle.reply_codes.specs.declared.codes.Told.{Told}
use Rattle.reply_codes.specs.Codes.{arm_told, collected_told, disarm_told, found_told, handed_told, level_told, loss_told, mode_told, read_told, save_told, told, told_code, write_told}
use Rattle.panguhero_c.specs.Wiring.{IsSetUpFor}

-- the bytes of a buffer behind a read: those that were read, or what it had
abbrev pub buffer_after : Result LineRead ReadRefusal → List ℕ → List ℕ
buffer_after (Ok (Content bytes)) had = bytes
buffer_after (Ok (Waiting ticket)) had = had
buffer_after (Err refusal) had = had

abbrev pub collected_after : Collected → List ℕ → List ℕ
collected_after (Data line bytes at) had = bytes
collected_after Pending had = had
collected_after Unknown had = had

-- a buffer has the words' first bytes, as far as there is room, and behind them what it had
abbrev pub HasText : List ℕ → List ℕ → List ℕ → Type 0
HasText words had has = has ≡ take (length had) words ++ drop (length words) had

-- A call of a handle. A closed one stays so, which is told; else its module goes on so.
abbrev pub CallsOn : {X : Type 0} → Told → (X → X → Type 0) → Option X → Option X → Type 0
CallsOn told Goes None new = (told ≡ told_code 8) × (new ≡ None)
CallsOn told Goes (Some old) new = MatchOption new ⊥ (Goes old)

-- the pick of these numbers
abbrev pub IsPick : ℕ → ℕ → Pick → Type 0
IsPick number byte Old = number ≡ 0
IsPick number byte New = number ≡ 1
IsPick number byte (Torn torn) = (number ≡ 2) × (torn ≡ byte)

-- no pick has them: no fourth pick, and no byte of more than eight bits
abbrev pub IsNoPick : ℕ → ℕ → Type 0
IsNoPick number byte = (2 < number) ⊎ ((number ≡ 2) × (256 ≤ byte))

-- a handle is open, with such a module
abbrev pub IfOpened : {X : Type 0} → Option X → (X → Type 0) → Type 0
IfOpened held Of = MatchOption held ⊥ Of

module _ {K D : Type 0} {L : Ghosts K} {S : device.Ghosts D} where
  -- how many lines the memory has
  abbrev pub line_count_in : OpenLife K D L S → ℕ
  line_count_in life = lines_of life.profile.checked.geometry

  -- A life over the profile of a text, with a gauge that shows 0.
  pub record IsOfText (text : List ℕ) (opened : OpenLife K D L S) : Type 0 where
    pub profile : IsProfileText text opened.profile
    pub setup : IsSetUpFor opened.profile (setup_of L opened.running)
    pub level : level_of opened.gauge ≡ 0

  -- a new life of zero lines
  pub record OpensNew (text : List ℕ) (opened : OpenLife K D L S) : Type 0 where
    pub of : IsOfText text opened
    pub begins : BeginsNew L (line_count_in opened) (now_of opened)

  -- A life on a device that had these bytes: with what they restored to; or where they held no image, and 1 was told, a new one.
  pub record OpensStore (text bytes : List ℕ) (format : ℕ) (answered : Told) (opened : OpenLife K D L S) : Type 0 where
    pub of : IsOfText text opened
    pub held : found.Found
    pub told_is : answered ≡ found_told held
    pub asked : held ≡ founds.Formatted → format ≡ 1
    pub begins : Begins L (line_count_in opened) held bytes (now_of opened)

  -- neither the device nor the gauge is asked
  pub record AsksNone (old new : OpenLife K D L S) : Type 0 where
    pub device : new.device ≡ old.device
    pub gauge : new.gauge ≡ old.gauge
    pub profile : new.profile ≡ old.profile

  -- a write of a line
  pub record WritesLine (line : ℕ) (bytes : List ℕ) (told : Told) (old new : OpenLife K D L S) : Type 0 where
    pub result : Result Accepted WriteRefusal
    pub told_is : told ≡ write_told result
    pub goes : GoesOn L (λ setup. IsOneEvent (event.Write (record { line = line; «data» = bytes })) (reply.Write result)) (now_of old) (now_of new)
    pub same : AsksNone old new

  -- a write of these bytes, which has to be a line's
  pub record Writes (line : ℕ) (bytes : List ℕ) (told : Told) (old new : OpenLife K D L S) : Type 0 where
    pub whole : length bytes ≡ 64 → WritesLine line bytes told old new
    pub short : length bytes ≢ 64 → (told ≡ told_code 3) × (new ≡ old)

  -- one command of each channel, where it has one
  pub record WorksAll (answered : Told) (old new : OpenLife K D L S) : Type 0 where
    pub issued : ℕ
    pub works : WorksUpTo L old.profile.checked.geometry.channels issued (now_of old) (now_of new)
    pub told_is : answered ≡ told 0 issued 0
    pub same : AsksNone old new

  -- a read of a line into a buffer, in so many turns at most
  pub record ReadsInto (line wait : ℕ) (had has : List ℕ) (told : Told) (old new : OpenLife K D L S) : Type 0 where
    pub result : Result LineRead ReadRefusal
    pub told_is : told ≡ read_told result
    pub bytes : has ≡ buffer_after result had
    pub goes : GoesOn L (λ setup. ReadsLine wait setup line result) (now_of old) (now_of new)
    pub same : AsksNone old new

  -- the same, where the buffer has to hold a line
  pub record Reads (line wait : ℕ) (had has : List ℕ) (told : Told) (old new : OpenLife K D L S) : Type 0 where
    pub whole : length had ≡ 64 → ReadsInto line wait had has told old new
    pub short : length had ≢ 64 → (told ≡ told_code 3) × (has ≡ had) × (new ≡ old)

  -- what there is for a ticket, into a buffer
  pub record CollectsInto (ticket : Ticket) (had has : List ℕ) (told : Told) (old new : OpenLife K D L S) : Type 0 where
    pub result : Collected
    pub told_is : told ≡ collected_told ticket result
    pub bytes : has ≡ collected_after result had
    pub goes : GoesOn L (λ setup. IsOneEvent (event.Collect ticket) (reply.Collect result)) (now_of old) (now_of new)
    pub same : AsksNone old new

  -- the same, where the buffer has to hold a line
  pub record Collects (ticket : Ticket) (had has : List ℕ) (told : Told) (old new : OpenLife K D L S) : Type 0 where
    pub whole : length had ≡ 64 → CollectsInto ticket had has told old new
    pub short : length had ≢ 64 → (told ≡ told_code 3) × (has ≡ had) × (new ≡ old)

  -- a whole save
  pub record Saves (told : Told) (old new : OpenLife K D L S) : Type 0 where
    pub result : Result StepReply ArmRefusal
    pub told_is : told ≡ save_told result
    pub goes : GoesOn L (λ setup. MakesSave setup.shape.channels result) (now_of old) (now_of new)
    pub profile : new.profile ≡ old.profile

  -- a loss of mains
  pub record LosesMains (told : Told) (old new : OpenLife K D L S) : Type 0 where
    pub result : Loss
    pub told_is : told ≡ loss_told result
    pub goes : GoesOn L (λ setup. IsOneEvent event.Lose (reply.Lose result)) (now_of old) (now_of new)
    pub profile : new.profile ≡ old.profile

  -- how many writes are persistent
  abbrev pub mark_in : OpenLife K D L S → ℕ
  mark_in life = life.running.front.persisted

  abbrev pub TellsMark : Told → OpenLife K D L S → Type 0
  TellsMark answered life = answered ≡ told 0 (mark_in life) 0

  -- how many writes were accepted
  abbrev pub accepted_in : OpenLife K D L S → ℕ
  accepted_in life = life.running.front.accepted

  abbrev pub TellsAccepted : Told → OpenLife K D L S → Type 0
  TellsAccepted answered life = answered ≡ told 0 (accepted_in life) 0

  -- what the module does with writes
  abbrev pub TellsMode : Told → OpenLife K D L S → Type 0
  TellsMode answered life = answered ≡ mode_told life.running.front.mode

  -- how many lines the memory has, and how many bytes the device
  abbrev pub TellsSizes : Told → OpenLife K D L S → Type 0
  TellsSizes answered life = answered ≡ told 0 (line_count_in life) (device_size (line_count_in life))

  -- the gauge is set to a level, and read
  pub record Senses (level : ℕ) (told : Told) (old new : OpenLife K D L S) : Type 0 where
    pub reading : ℕ
    pub told_is : told ≡ level_told reading new.running.front.mode
    pub goes : GoesOn L (λ setup. IsOneEvent event.Sense (reply.Sense reading)) (record (now_of old) { gauge = set_to level (meter_gauge old.gauge) }) (now_of new)
    pub device : new.device ≡ old.device
    pub profile : new.profile ≡ old.profile

  -- the gauge is read as it is
  pub record ReadsGauge (told : Told) (old new : OpenLife K D L S) : Type 0 where
    pub reading : ℕ
    pub told_is : told ≡ level_told reading new.running.front.mode
    pub goes : GoesOn L (λ setup. IsOneEvent event.Sense (reply.Sense reading)) (now_of old) (now_of new)
    pub device : new.device ≡ old.device
    pub profile : new.profile ≡ old.profile

  -- the module is armed
  pub record Arms (told : Told) (old new : OpenLife K D L S) : Type 0 where
    pub result : Result ArmReply ArmRefusal
    pub told_is : told ≡ arm_told result
    pub goes : GoesOn L (λ setup. IsOneEvent event.Arm (reply.Arm result)) (now_of old) (now_of new)
    pub profile : new.profile ≡ old.profile

  -- its disarming is begun
  pub record Disarms (told : Told) (old new : OpenLife K D L S) : Type 0 where
    pub result : Result DisarmReply ArmRefusal
    pub told_is : told ≡ disarm_told result
    pub goes : GoesOn L (λ setup. IsOneEvent event.Disarm (reply.Disarm result)) (now_of old) (now_of new)
    pub same : AsksNone old new

  -- one step of a save
  pub record MakesStep (told : Told) (old new : OpenLife K D L S) : Type 0 where
    pub result : Result StepReply ArmRefusal
    pub told_is : told ≡ save_told result
    pub goes : GoesOn L (λ setup. MakesOneStep result) (now_of old) (now_of new)
    pub profile : new.profile ≡ old.profile

  -- what is told behind a save: its refusal, or the mark where it made this write persistent
  abbrev pub TellsBehind : ℕ → Told → Told → OpenLife K D L S → Type 0
  TellsBehind number saved answered now =
      ((saved.code ≢ 0) × (answered ≡ saved)) ⊎ ((saved.code ≡ 0) × (number < mark_in now) × (answered ≡ told 0 (mark_in now) 0))

  -- a save for a write; and a second one behind a save that was done and lacks it
  pub record SavesFor (number : ℕ) (answered : Told) (old new : OpenLife K D L S) : Type 0 where
    pub first : Told
    pub between : OpenLife K D L S
    pub saves : Saves first old between
    pub ends : (TellsBehind number first answered between × (new ≡ between))
        ⊎ ((first.code ≡ 0) × (mark_in between ≤ number) × (second : Told) × Saves second between new × (TellsBehind number second answered new ⊎ (answered ≡ told_code 49)))

  -- A write is made persistent, which is told with the mark. Nothing is done where it is so already, or where there is no such write.
  pub record Persists (number : ℕ) (answered : Told) (old new : OpenLife K D L S) : Type 0 where
    pub none : accepted_in old ≤ number → (answered ≡ told 24 (accepted_in old) 0) × (new ≡ old)
    pub already : number < accepted_in old → number < mark_in old → (answered ≡ told 0 (mark_in old) 0) × (new ≡ old)
    pub saves : number < accepted_in old → mark_in old ≤ number → SavesFor number answered old new

module _ {K B : Type 0} {L : Ghosts K} {S : device.Ghosts (Fuse (EitherDevice MemoryDevice B))} where
  -- the device in memory, where it is one
  abbrev pub memory_in : OpenLife K (Fuse (EitherDevice MemoryDevice B)) L S → Option MemoryDevice
  memory_in life = first_in life.device.device

  -- the bytes that a device in memory holds, into a buffer of that many; nothing happens
  pub record TellsStore (had has : List ℕ) (answered : Told) (old new : OpenLife K (Fuse (EitherDevice MemoryDevice B)) L S) : Type 0 where
    pub whole : length had ≡ device_size (line_count_in old) → memory_in old ≢ None → (answered ≡ told 0 (device_size (line_count_in old)) 0) × (has ≡ (now_of old).device.bytes)
    pub short : length had ≢ device_size (line_count_in old) → (answered ≡ told 4 (device_size (line_count_in old)) 0) × (has ≡ had)
    pub file : length had ≡ device_size (line_count_in old) → memory_in old ≡ None → (answered ≡ told_code 14) × (has ≡ had)
    pub now : now_of new ≡ now_of old
    pub gauge : new.gauge ≡ old.gauge
    pub profile : new.profile ≡ old.profile

  -- the device passes so many calls from now on
  pub record StopsAfter (calls : ℕ) (old new : OpenLife K (Fuse (EitherDevice MemoryDevice B)) L S) : Type 0 where
    pub passes : new.device.left ≡ calls
    pub device : new.device.device ≡ old.device.device
    pub now : now_of new ≡ now_of old
    pub gauge : new.gauge ≡ old.gauge
    pub profile : new.profile ≡ old.profile

  -- bytes that a stop now may leave, as picked
  pub record LeavesBytes (pick : Pick) (bytes : List ℕ) (life : OpenLife K (Fuse (EitherDevice MemoryDevice B)) L S) : Type 0 where
    pub memory : MemoryDevice
    pub is : memory_in life ≡ Some memory
    pub left : MayLeave (present (state_of memory)) bytes
    pub picked : IsPicked pick memory bytes

module _ {K A : Type 0} {L : Ghosts K} {S : device.Ghosts (Fuse (EitherDevice A NotedDevice))} where
  -- a change of the device that is noted is handed out; nothing happens in the life
  pub record HandsChange (had has : List ℕ) (answered : Told) (old new : OpenLife K (Fuse (EitherDevice A NotedDevice)) L S) : Type 0 where
    pub handed : Handed
    pub told_is : answered ≡ handed_told handed
    pub hands : Hands handed (changes_in old.device.device) (changes_in new.device.device) had has
    pub now : now_of new ≡ now_of old
    pub gauge : new.gauge ≡ old.gauge
    pub profile : new.profile ≡ old.profile
