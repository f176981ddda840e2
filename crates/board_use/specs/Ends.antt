-- How a board ended that was used.
use Rattle.std.specs.Prelude.{◌≡◌, ℕ, List, [], ◌∷◌, ◌++◌, IfOk}
use Rattle.line_memory.specs.History.{recorded}
use Rattle.save_device.specs.declared.device.SaveDevice.{Ghosts as DeviceGhosts}
use Rattle.save_image.specs.Image.{Image}
use Rattle.slot_store.specs.Outcomes.{Found, Outcome}
use Rattle.slot_store.specs.declared.slots.Slot.{Slot}
use Rattle.energy_budget.specs.declared.costs.Costs.{Costs}
use Rattle.energy_budget.specs.declared.energy.Energy.{Ghosts as GaugeGhosts}
use Rattle.channel_port.specs.Shape.{Shape}
use Rattle.interleave_map.specs.Ready.{place_by}
use Rattle.ddr4_port.specs.Memory.{shape_over}
use Rattle.nv_machine.specs.Lives.{LivedUntil}
use Rattle.nv_machine.specs.State.{Machine, Setup, all_of, base_of_life, start_of_life, stored_base, stored_writes}
use Rattle.nv_profile.specs.declared.profile.Profile.{Profile}
use Rattle.board_hosts.specs.Ending.{AreChecked}
use Rattle.board_hosts.specs.declared.host.Receipt.{Receipt}
use Rattle.worker_turns.specs.declared.awaiting.Seen.{Seen}
use Rattle.board_hosts.specs.declared.recorded_module.RecordedModule.{RecordedModule}
use Rattle.channel_port.specs.declared.port.ChannelPort.{Ghosts}
use Rattle.channel_set.specs.Set.{shape_of}
use Rattle.slot_store.specs.Told.{Refuses}
use Rattle.board_use.specs.declared.ending.LifeEnd.{LifeEnd}
use Rattle.board_use.specs.declared.hosting.HostEnd.{HostEnd}
use Rattle.board_use.specs.declared.using.NotUsed.{NotUsed}
use Rattle.board_use.specs.declared.using.WhyNot.{WhyNot}
use Rattle.board_use.specs.declared.using.WhyNot.TheVariants as why

-- the receipts and the answers of hosts, seat by seat
abbrev pub receipts_of : {T : Type 0} → List (HostEnd T) → List Receipt
receipts_of [] = []
receipts_of (host ∷ hosts) = host.receipts.items ++ receipts_of hosts

abbrev pub answers_of : {T : Type 0} → List (HostEnd T) → List Seen
answers_of [] = []
answers_of (host ∷ hosts) = host.answers.items ++ answers_of hosts

-- what doesn't change of the channels of a profile, but for what a closing save costs
abbrev pub shape_of_profile : Profile → Costs → Shape
shape_of_profile profile costs =
    shape_over (place_by profile.map profile.checked.geometry) profile.checked profile.sizes.depth profile.sizes.reads costs

module _ {D E : Type 0} (M : DeviceGhosts D) (N : GaugeGhosts E) where
  -- The end of a life over channels of this shape that began with this memory: some events led from a new machine to one for which
  -- the device and the gauge stand. What is stored of that life is recorded; its two numbers are told; and where receipts and answers were
  -- checked, the life bears them out.
  pub record EndsLife (shape_with : Costs → Shape) (base : List (List ℕ)) (receipts : List Receipt) (answers : List Seen) (end : LifeEnd D E) : Type 0 where
    pub machine : Machine
    pub setup : Setup
    pub shape : setup.shape ≡ shape_with setup.shape.costs
    pub lived : LivedUntil setup (record { machine = machine; device = M.state end.device; gauge = N.gauge end.energy })
    pub began : base_of_life machine.life ≡ base
    pub stored : end.history ≡ recorded (stored_base machine) machine.cut (stored_writes machine) end.history.room
    pub accepted_is : end.accepted ≡ all_of machine
    pub mark_is : end.mark ≡ machine.life.persisted
    pub checked : IfOk end.checked (λ told. AreChecked (start_of_life machine.life) end.history receipts answers told)

  -- the end of a life of a profile that began with what was found
  pub record EndsLifeOn (found : Outcome) (profile : Profile) (receipts : List Receipt) (answers : List Seen) (end : LifeEnd D E) : Type 0 where
    pub slot : Slot
    pub image : Image
    pub finds : found ≡ Found slot image
    pub ends : ∥ (EndsLife (shape_of_profile profile) image.memory receipts answers end) ∥₁

  -- the device has the bytes that it had, and the gauge is the one that was given
  pub record IsGivenBack (device : D) (energy : E) (left : NotUsed D E) : Type 0 where
    pub bytes : (M.state left.device).bytes ≡ (M.state device).bytes
    pub energy_is : left.energy ≡ energy

  -- a life over channels of this shape has ended with this device and this gauge, though its hosts didn't begin
  pub record EndsUnused (shape_with : Costs → Shape) (base : List (List ℕ)) (left : NotUsed D E) : Type 0 where
    pub life : LifeEnd D E
    pub device_is : left.device ≡ life.device
    pub energy_is : left.energy ≡ life.energy
    pub receipts : List Receipt
    pub answers : List Seen
    pub ends : ∥ (EndsLife shape_with base receipts answers life) ∥₁

  -- of a profile, which began with what was found
  pub record EndsUnusedOn (found : Outcome) (profile : Profile) (left : NotUsed D E) : Type 0 where
    pub slot : Slot
    pub image : Image
    pub finds : found ≡ Found slot image
    pub unused : EndsUnused (shape_of_profile profile) image.memory left

  -- why a board that was opened wasn't used
  abbrev pub LeavesBoard : (Costs → Shape) → List (List ℕ) → D → E → NotUsed D E → WhyNot → Type 0
  LeavesBoard shape_with base device energy left (why.NotOpened error) = ⊥
  LeavesBoard shape_with base device energy left why.Memory = (left.device ≡ device) × (left.energy ≡ energy)
  LeavesBoard shape_with base device energy left why.Thread = EndsUnused shape_with base left

  -- Why a board wasn't used, over a device of which this was found. Where it wasn't opened or had no memory nothing was done.
  abbrev pub LeavesUnused : Outcome → Profile → D → E → NotUsed D E → WhyNot → Type 0
  LeavesUnused found profile device energy left (why.NotOpened error) = Refuses error found × IsGivenBack device energy left
  LeavesUnused found profile device energy left why.Memory = IsGivenBack device energy left
  LeavesUnused found profile device energy left why.Thread = EndsUnusedOn found profile left

-- the shape of a module's channels, but for what a closing save costs
abbrev pub shape_beside : {K D E : Type 0} (L : Ghosts K) → RecordedModule K D E L → Costs → Shape
shape_beside L it costs = record (shape_of L it.running.channels) { costs = costs }
