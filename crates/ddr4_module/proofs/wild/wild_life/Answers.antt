use Rattle.std.proofs.Common.{◌≡◌, ◌∙◌, ℕ, ap, refl, subst, sym}
use Rattle.std.specs.Prelude.{slice_index_or}
use Rattle.save_device.specs.Device.{DeviceState}
use Rattle.save_image.specs.Image.{Image}
use Rattle.slot_store.specs.Outcomes.{Found, restored}
use Rattle.slot_store.specs.Rest.{IsAtRestOn}
use Rattle.slot_store.specs.Slots.{HasSize}
use Rattle.slot_store.specs.Told.{image_of_restored}
use Rattle.nv_machine.specs.State.{Setup}
use Rattle.module_core.specs.Stands.{assembly}
use Rattle.ddr4_module.proofs.SurvivedStops.{beginning_of, survives_stop, works_within}
use Rattle.ddr4_module.proofs.wild.wild_life.Goals as goal

pub run-requires-clause-channels : goal.run-requires-clause-channels
run-requires-clause-channels g c = λ k d below.
    works_within _ c.in-Ok.life c.args.checked.now.geometry.channels (ap (λ (s : Setup). s.shape.channels) c.in-Ok.ensures.setup)
    (slice_index_or c.args.events.now k d) (c.requires.channels k d below)

pub run-requires-clause-size : goal.run-requires-clause-size
run-requires-clause-size g c =
    let it = c.in_ok-restored.restored in let read = c.in_ok-restored.ensures in
    let rest = read.at_rest (image_of_restored it read.found.arm) read.found.newest in
    let lines = ap (λ (s : Setup). s.shape.lines) c.in-Ok.ensures.setup in
    subst (λ (n : ℕ). HasSize n (g.D.SaveDevice.state c.restore.new.device)) (c.capacity_of.ensures.is ∙ sym lines) rest.size

pub returns-in-Ok-run-clause-survives : goal.returns-in-Ok-run-clause-survives
returns-in-Ok-run-clause-survives g c =
    let it = c.in_ok-restored.restored in let read = c.in_ok-restored.ensures in
    let image : Image = image_of_restored it read.found.arm in let device : DeviceState = g.D.SaveDevice.state c.restore.new.device in
    let bytes = (g.D.SaveDevice.state c.args.device.now).bytes in
    let rest = subst (λ (lines : ℕ). IsAtRestOn it.head.newest.slot image lines it.head.closed device) c.capacity_of.ensures.is (read.at_rest image read.found.newest) in
    let stands = c.in-Ok.ensures.begins read.found.arm device rest in
    record {
      from = beginning_of _ it.head image (assembly c.in-Ok.life device (g.E.Energy.gauge c.args.gauge.now));
      over = c.in-Ok.ensures.setup;
      with = refl;
      found = subst (λ (lines : ℕ). restored lines bytes ≡ Found it.head.newest.slot image) c.capacity_of.ensures.is read.found.newest;
      same = read.same;
      restoring = read.any_moment;
      survives = survives_stop _ it.head image c.args.events.now c.in-Ok-run.replies.items
          (assembly c.in-Ok.life device (g.E.Energy.gauge c.args.gauge.now))
          (assembly c.run.new.self (g.D.SaveDevice.state c.run.new.device) (g.E.Energy.gauge c.run.new.energy))
          (record { begins = stands; runs = c.in-Ok-run.ensures.answers _ stands; setup = c.run.ensures.setup });
    }
