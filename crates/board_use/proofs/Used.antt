-- What is told of a board that was used, or wasn't, over what its device restored to.
use Rattle.std.proofs.Common.{◌≡◌, ◌∙◌, ℕ, List, ap, subst, sym, IfErr, IfOk, Result, Ok, Err}
use Rattle.line_memory.specs.History.{Recorded}
use Rattle.save_device.specs.declared.device.SaveDevice.{Ghosts as DeviceGhosts}
use Rattle.slot_store.specs.Outcomes.{Outcome}
use Rattle.energy_budget.specs.declared.costs.Costs.{Costs}
use Rattle.energy_budget.specs.declared.energy.Energy.{Ghosts as GaugeGhosts}
use Rattle.interleave_map.specs.Ready.{place_by}
use Rattle.channel_port.specs.Shape.{Shape}
use Rattle.channel_port.specs.declared.port.ChannelPort.{Ghosts}
use Rattle.module_core.specs.Stands.{setup_of}
use Rattle.nv_machine.specs.State.{Setup}
use Rattle.nv_profile.specs.declared.profile.Profile.{Profile}
use Rattle.board_hosts.specs.declared.host.Receipt.{Receipt}
use Rattle.board_hosts.specs.declared.recorded_module.RecordedModule.{RecordedModule}
use Rattle.worker_turns.specs.declared.awaiting.Seen.{Seen}
use Rattle.ddr4_boards.specs.Restored.{RecordsRestored}
use Rattle.ddr4_boards.specs.Setup.{IsSetupOf}
use Rattle.board_use.specs.Ends.{EndsLife, EndsLifeOn, LeavesBoard, LeavesUnused, answers_of, receipts_of, shape_beside, shape_of_profile}
use Rattle.board_use.specs.declared.ending.BoardEnd.{BoardEnd}
use Rattle.board_use.specs.declared.ending.LifeEnd.{LifeEnd}
use Rattle.board_use.specs.declared.using.NotUsed.{NotUsed}
use Rattle.board_use.specs.declared.using.WhyNot.{WhyNot}
use Rattle.board_use.specs.declared.using.WhyNot.TheVariants as why
use Rattle.board_use.proofs.Ends.{ends_by}

module _ {D E : Type 0} (M : DeviceGhosts D) (N : GaugeGhosts E) where
  -- there was no memory for a board
  pub leaves_all : (shape : Costs → Shape) (base : List (List ℕ)) (device : D) (energy : E) (left : NotUsed D E) → left.why ≡ why.Memory → left.device ≡ device → left.energy ≡ energy
      → LeavesBoard M N shape base device energy left left.why
  leaves_all shape base device energy left is same gauge = subst (λ (w : WhyNot). LeavesBoard M N shape base device energy left w) (sym is) (same, gauge)

module _ {K D E : Type 0} (L : Ghosts K) (M : DeviceGhosts D) (N : GaugeGhosts E) (found : Outcome) (profile : Profile) (it : RecordedModule K D E L)
    (restored_is : RecordsRestored found profile.sizes.trail it.history) (setup : IsSetupOf (place_by profile.map profile.checked.geometry) profile (setup_of L it.running)) where
  shape_is : (costs : Costs) → shape_beside L it costs ≡ shape_of_profile profile costs
  shape_is costs = ap (λ (s : Setup). record s.shape { costs = costs }) setup.is

  base_is : it.history.base ≡ restored_is.image.memory
  base_is = ap (λ (h : Recorded). h.base) restored_is.records

  life_on : (receipts : List Receipt) (answers : List Seen) (end : LifeEnd D E) → ∥ (EndsLife M N (shape_beside L it) it.history.base receipts answers end) ∥₁
      → EndsLifeOn M N found profile receipts answers end
  life_on receipts answers end ends = record {
    slot = restored_is.slot;
    image = restored_is.image;
    finds = restored_is.finds;
    ends = ends_by M N (shape_beside L it) (shape_of_profile profile) it.history.base restored_is.image.memory receipts answers end shape_is base_is ends;
  }

  pub used_on : {T : Type 0} (result : Result (BoardEnd D E T) (NotUsed D E))
      → IfOk result (λ end. ∥ (EndsLife M N (shape_beside L it) it.history.base (receipts_of end.hosts.items) (answers_of end.hosts.items) end.life) ∥₁)
      → IfOk result (λ end. EndsLifeOn M N found profile (receipts_of end.hosts.items) (answers_of end.hosts.items) end.life)
  used_on (Ok end) ends = life_on (receipts_of end.hosts.items) (answers_of end.hosts.items) end.life ends
  used_on (Err left) ends = tt

  module _ (device : D) (energy : E) (same : (M.state it.device).bytes ≡ (M.state device).bytes) (gauge : it.energy ≡ energy) where
    leaves : (left : NotUsed D E) (why : WhyNot) → LeavesBoard M N (shape_beside L it) it.history.base it.device it.energy left why
        → LeavesUnused M N found profile device energy left why
    leaves left (why.NotOpened error) told = absurd told
    leaves left why.Memory told = record { bytes = ap (λ (d : D). (M.state d).bytes) told.0 ∙ same; energy_is = told.1 ∙ gauge }
    leaves left why.Thread told = record {
      slot = restored_is.slot;
      image = restored_is.image;
      finds = restored_is.finds;
      unused = record {
        life = told.life;
        device_is = told.device_is;
        energy_is = told.energy_is;
        receipts = told.receipts;
        answers = told.answers;
        ends = ends_by M N (shape_beside L it) (shape_of_profile profile) it.history.base restored_is.image.memory told.receipts told.answers told.life shape_is base_is told.ends;
      };
    }

    pub unused_on : {T : Type 0} (result : Result (BoardEnd D E T) (NotUsed D E))
        → IfErr result (λ left. LeavesBoard M N (shape_beside L it) it.history.base it.device it.energy left left.why)
        → IfErr result (λ left. LeavesUnused M N found profile device energy left left.why)
    unused_on (Ok end) told = tt
    unused_on (Err left) told = leaves left left.why told
