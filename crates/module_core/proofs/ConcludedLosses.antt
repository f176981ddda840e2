-- What a loss that was begun comes to, behind the drains and the save.
use Rattle.arm_state.specs.declared.loss.Loss.{Loss}
use Rattle.arm_state.specs.declared.loss.Loss.TheVariants as loss
use Rattle.arm_state.specs.declared.mode.Mode.TheVariants as modes
use Rattle.channel_port.specs.Draining.{DrainOrder, Paid}
use Rattle.channel_set.specs.Carrying.{KeepsAll}
use Rattle.channel_set.specs.Draining.{DrainsEach}
use Rattle.slot_store.specs.Finishing.{Finish}
use Rattle.slot_store.specs.declared.source.BrokenOff.{BrokenOff}
use Rattle.slot_store.specs.declared.source.BrokenOff.TheVariants as broken
use Rattle.module_core.specs.Drained.{ClosesModule, HasDrained}
use Rattle.module_core.specs.Covering.{IsCovered}
use Rattle.module_core.specs.Draining.{AreDrainedFrom}
use Rattle.module_core.specs.Losing.{AnswersLoss, BeginsLoss, CoversDrains, IsLoss}
use Rattle.module_core.specs.Fronts.{SameNumbers}
use Rattle.module_core.specs.declared.front.Front.{Front}
use Rattle.module_core.proofs.Common.{◌∙◌, ◌≡◌, Assembly, ChannelsView, DeviceState, Err, Ghosts, Machine, ModuleStands, Ok, ap, assembly, setup_of, subst, sym}
use Rattle.module_core.proofs.Applying.{same_setup}
use Rattle.module_core.proofs.Covering.{covered}
use Rattle.module_core.proofs.HonestCalls.{ended_setup, honest_loss}
use Rattle.module_core.proofs.LostModules.{answers_dark, answers_fault, answers_saved}
use Rattle.module_core.proofs.WhereDrained.{on_ok}

module _ {K : Type 0} (L : Ghosts K) (order : DrainOrder) (old begun mid new : Assembly L) (drained : Paid) (b : BeginsLoss L old begun) (h : HasDrained order drained begun mid) (same : SameNumbers mid.it.front new.it.front)
    (shown : new.it.front.reading ≡ mid.it.front.reading) (kept : KeepsAll L mid.it.channels new.it.channels) (stays : new.it.channels ≡ mid.it.channels) (setup : setup_of L new.it ≡ setup_of L mid.it) where
  numbers : SameNumbers begun.it.front new.it.front
  numbers = record {
    terms = same.terms ∙ ap (λ (f : Front). f.terms) h.front;
    accepted = same.accepted ∙ ap (λ (f : Front). f.accepted) h.front;
    persisted = same.persisted ∙ ap (λ (f : Front). f.persisted) h.front;
  }

  keeps : KeepsAll L begun.it.channels new.it.channels
  keeps base start writes carries = kept base start writes (h.keeps base start writes carries)

  reading : new.it.front.reading ≡ begun.it.front.reading
  reading = shown ∙ ap (λ (f : Front). f.reading) h.front

  from : (finish : Finish) → ClosesModule order finish begun new → ClosesModule order finish (assembly begun.it old.device begun.gauge) new
  from finish closes = subst (λ (d : DeviceState). ClosesModule order finish (assembly begun.it d begun.gauge) new) b.device closes

  setups : setup_of L new.it ≡ setup_of L old.it
  setups =
      setup
      ∙ same_setup L begun.it.channels mid.it.channels begun.it.front.terms mid.it.front.terms (ap (λ (v : ChannelsView). v.shape) h.drains.rest) (ap (λ (f : Front). f.terms) h.front)
      ∙ ended_setup L b.reading old.it begun.it b.ends

  -- each channel is as its own drain left it
  left : drained ≡ Ok tt → AreDrainedFrom L old.it.channels new.it.channels
  left paid = record { begun = begun.it.channels; ends = b.ends.channels; backup = b.backup; each = subst (DrainsEach L begun.it.channels) (sym stays) (on_ok drained paid h.each) }

  -- all that is said of it follows from what it answers
  is_loss : (lost : Loss) → ((m : Machine) → ModuleStands L old.it old.device m → AnswersLoss L order lost old new m) → IsCovered L lost old.it.channels → IsLoss L order lost old new
  is_loss lost each covers = record {
    each = each;
    covered = covers;
    honest = honest_loss L lost old new (record { answers = λ m stands. (each m stands).answers; setup = setups });
    setup = setups;
  }

  pub is_saved : new.it.front.mode ≡ modes.Saved → new.it.front.saved ≡ new.it.front.accepted → drained ≡ Ok tt → CoversDrains L drained begun → ClosesModule order (Ok tt) begun new → IsLoss L order (loss.Saved new.it.front.saves.newest.generation new.it.front.accepted) old new
  is_saved mode saved paid covers closes =
      is_loss (loss.Saved new.it.front.saves.newest.generation new.it.front.accepted)
      (λ m stands. answers_saved L old m stands order b.backed b.reading begun.gauge b.reads begun.it b.ends b.begins new numbers reading keeps (left paid) mode saved (from (Ok tt) closes))
      (covered L old.it.channels begun.it.channels b.ends.channels b.cost (subst (λ (p : Paid). CoversDrains L p begun) paid covers))

  module _ (mode : new.it.front.mode ≡ mid.it.front.mode) (saved : new.it.front.saved ≡ mid.it.front.saved) (cause : BrokenOff) where
    pub is_dark : cause ≡ broken.Refused → ClosesModule order (Err cause) begun new → IsLoss L order loss.Dark old new
    is_dark why closes =
        is_loss loss.Dark
        (λ m stands. answers_dark L old m stands order b.backed b.reading begun.gauge b.reads begun.it b.ends b.begins new numbers reading keeps (mode ∙ ap (λ (f : Front). f.mode) h.front) (saved ∙ ap (λ (f : Front). f.saved) h.front) cause why (from (Err cause) closes)) tt

    pub is_fault : drained ≡ Ok tt → cause ≡ broken.Fault → ClosesModule order (Err cause) begun new → IsLoss L order loss.Fault old new
    is_fault paid why closes =
        is_loss loss.Fault
        (λ m stands. answers_fault L old m stands order b.backed b.reading begun.gauge b.reads begun.it b.ends b.begins new numbers reading keeps (left paid) (mode ∙ ap (λ (f : Front). f.mode) h.front) (saved ∙ ap (λ (f : Front). f.saved) h.front) cause why (from (Err cause) closes)) tt
