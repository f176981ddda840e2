use Rattle.std.proofs.Common.{◌≡◌, ◌∙◌, ℕ, [], ap, arith, inr, subst, sym}
use Rattle.std.proofs.lemmas.Grind.{merely}
use Rattle.line_memory.specs.History.{Recorded, recorded}
use Rattle.save_device.specs.Device.{DeviceState}
use Rattle.save_image.specs.Image.{Image}
use Rattle.slot_store.specs.Outcomes.{Found, restored}
use Rattle.slot_store.specs.Rest.{IsAtRestOn}
use Rattle.slot_store.specs.Slots.{HasSize}
use Rattle.slot_store.specs.Told.{image_of_restored}
use Rattle.slot_store.specs.declared.head.Head.{Head}
use Rattle.slot_store.specs.declared.restoring.RestoreError.{RestoreError}
use Rattle.channel_port.specs.declared.port.ChannelPort.{Ghosts}
use Rattle.save_device.specs.declared.device.SaveDevice.{Ghosts as DeviceGhosts}
use Rattle.nv_machine.specs.State.{Setup}
use Rattle.board_hosts.specs.declared.recorded_module.RecordedModule.{RecordedModule}
use Rattle.module_core.specs.Opening.{opened_with}
use Rattle.module_core.specs.Stands.{ModuleStands}
use Rattle.board_hosts.specs.Kept.{HasJustBegun}
use Rattle.board_hosts.proofs.Beginning.{begun_is_kept, begun_is_whole}
use Rattle.ddr4_boards.specs.Restored.{HadOneRefused, HadOneRestore}
use Rattle.ddr4_boards.proofs.Restoring.{had_one_refused, refused_by_faults, restored_spared}
use Rattle.ddr4_boards.proofs.opening.open.Goals as goal
use Rattle.ddr4_boards.proofs.opening.open.Goals.{In-Ok-begin}

-- the module that has begun stands for a life with the newest image
begun_stands : (g : _) (c : In-Ok-begin g)
    → ModuleStands _ c.in-Ok-begin.begun.running (g.D.SaveDevice.state c.restore_at_once.new.device)
    (opened_with c.in-Ok.restored.head (image_of_restored c.in-Ok.restored c.in-Ok.ensures.found.arm))
begun_stands g c =
    let device : DeviceState = g.D.SaveDevice.state c.restore_at_once.new.device in
    let it = c.in-Ok.restored in let read = c.in-Ok.ensures in
    let image : Image = image_of_restored it read.found.arm in
    c.in-Ok-begin.ensures.begins read.found.arm device
    (subst (λ (lines : ℕ). IsAtRestOn it.head.newest.slot image lines it.head.closed device) c.capacity_of-lines.ensures.is (read.at_rest image read.found.newest))

-- a life that has just begun, with room for so many writes
just_begun : {K D E : Type 0} (L : Ghosts K) (M : DeviceGhosts D) (it : RecordedModule K D E L) (found : Head) (image : Image) (room : ℕ)
    → ModuleStands L it.running (M.state it.device) (opened_with found image) → it.history ≡ recorded image.memory image.count [] room → HasJustBegun L M it found image
just_begun L M it found image room stands records =
    let same : room ≡ it.history.room = sym (ap (λ (h : Recorded). h.room) records) in
    record { stands = stands; recorded_is = subst (λ (r : ℕ). it.history ≡ recorded image.memory image.count [] r) same records }

has_begun : (g : _) (c : In-Ok-begin g)
    → HasJustBegun _ g.D.SaveDevice (record { running = c.in-Ok-begin.begun.running; device = c.restore_at_once.new.device; energy = c.args.energy; history = c.in-Ok-begin.begun.history })
    c.in-Ok.restored.head (image_of_restored c.in-Ok.restored c.in-Ok.ensures.found.arm)
has_begun g c =
    let image : Image = image_of_restored c.in-Ok.restored c.in-Ok.ensures.found.arm in
    just_begun _ g.D.SaveDevice (record { running = c.in-Ok-begin.begun.running; device = c.restore_at_once.new.device; energy = c.args.energy; history = c.in-Ok-begin.begun.history })
    c.in-Ok.restored.head image c.args.profile.now.sizes.trail (begun_stands g c) c.in-Ok-begin.ensures.history

pub invariant_of-result-clause-fresh : goal.invariant_of-result-clause-fresh
invariant_of-result-clause-fresh g c =
    let it = c.in-Ok.restored in
    merely (it.head, image_of_restored it c.in-Ok.ensures.found.arm, has_begun g (goal.at.invariant_of-result-clause-fresh g c).In-Ok-begin)

pub invariant_of-result-clause-kept : goal.invariant_of-result-clause-kept
invariant_of-result-clause-kept g c =
    let it = c.in-Ok.restored in
    let trail = ap (λ (s : Setup). s.trail) c.in-Ok-begin.ensures.setup.is in
    let room = ap (λ (h : Recorded). h.room) c.in-Ok-begin.ensures.history in
    begun_is_kept _ g.D.SaveDevice _ it.head (image_of_restored it c.in-Ok.ensures.found.arm) (has_begun g (goal.at.invariant_of-result-clause-kept g c).In-Ok-begin) g.E.Energy (omega (arith, trail, room))

pub invariant_of-result-clause-uncut : goal.invariant_of-result-clause-uncut
invariant_of-result-clause-uncut g c =
    let it = c.in-Ok.restored in
    begun_is_whole _ g.D.SaveDevice _ it.head (image_of_restored it c.in-Ok.ensures.found.arm) (has_begun g (goal.at.invariant_of-result-clause-uncut g c).In-Ok-begin)

pub invariant_of-result-clause-sized : goal.invariant_of-result-clause-sized
invariant_of-result-clause-sized g c =
    let read = c.in-Ok.ensures in
    let rest = read.at_rest (image_of_restored c.in-Ok.restored read.found.arm) read.found.newest in
    let lines = ap (λ (s : Setup). s.shape.lines) c.in-Ok-begin.ensures.setup.is in
    subst (λ (n : ℕ). HasSize n (g.D.SaveDevice.state c.restore_at_once.new.device)) (c.capacity_of-lines.ensures.is ∙ sym lines) rest.size

pub invariant_of-result-clause-counted : goal.invariant_of-result-clause-counted
invariant_of-result-clause-counted g c = sym (ap (λ (s : Setup). s.shape.channels) c.in-Ok-begin.ensures.setup.is)

pub returns-clause-restored : goal.returns-clause-restored
returns-clause-restored g c =
    let it = c.in-Ok.restored in let read = c.in-Ok.ensures in
    let image : Image = image_of_restored it read.found.arm in let bytes = (g.D.SaveDevice.state c.args.device).bytes in
    record {
      slot = it.head.newest.slot;
      image = image;
      finds = subst (λ (lines : ℕ). restored lines bytes ≡ Found it.head.newest.slot image) c.capacity_of-lines.ensures.is read.found.newest;
      records = c.in-Ok-begin.ensures.history;
    }

-- the calls that found the image
restored_once : (g : _) (c : In-Ok-begin g) → HadOneRestore c.capacity_of-lines.result (g.D.SaveDevice.state c.args.device) (g.D.SaveDevice.state c.restore_at_once.new.device)
restored_once g c = (c.in-Ok.restored, c.in-Ok.ensures.calls)

pub returns-clause-calls : goal.returns-clause-calls
returns-clause-calls g c =
    let at = goal.at.returns-clause-calls g c in
    subst (λ (lines : ℕ). HadOneRestore lines (g.D.SaveDevice.state c.args.device) (g.D.SaveDevice.state c.restore_at_once.new.device)) c.capacity_of-lines.ensures.is (restored_once g at.In-Ok-begin)

pub returns-clause-spared : goal.returns-clause-spared
returns-clause-spared g c =
    let at = goal.at.returns-clause-spared g c in
    restored_spared c.capacity_of-lines.result (g.D.SaveDevice.state c.args.device) (g.D.SaveDevice.state c.restore_at_once.new.device) (restored_once g at.In-Ok-begin)

pub returns-in-Err-clause-refused_calls : goal.returns-in-Err-clause-refused_calls
returns-in-Err-clause-refused_calls g c =
    let old = g.D.SaveDevice.state c.args.device in
    let new = g.D.SaveDevice.state c.restore_at_once.new.device in
    subst (λ (lines : ℕ). HadOneRefused lines c.in-Err.error old new) c.capacity_of-lines.ensures.is (had_one_refused c.capacity_of-lines.result c.in-Err.error old new c.in-Err.ensures.calls)

pub returns-in-Err-clause-faults : goal.returns-in-Err-clause-faults
returns-in-Err-clause-faults g c =
    refused_by_faults c.capacity_of-lines.result c.in-Err.error (g.D.SaveDevice.state c.args.device) (g.D.SaveDevice.state c.restore_at_once.new.device) c.in-Err.ensures.calls

pub returns-in_default-clause-refused_calls : goal.returns-in_default-clause-refused_calls
returns-in_default-clause-refused_calls g c =
    let old = g.D.SaveDevice.state c.args.device in
    let new = g.D.SaveDevice.state c.restore_at_once.new.device in
    subst (λ (lines : ℕ). HadOneRefused lines RestoreError.Memory old new) c.capacity_of-lines.ensures.is (inr (c.in-Ok.restored, c.in-Ok.ensures.calls))

pub returns-in_default-clause-faults : goal.returns-in_default-clause-faults
returns-in_default-clause-faults g c =
    restored_spared c.capacity_of-lines.result (g.D.SaveDevice.state c.args.device) (g.D.SaveDevice.state c.restore_at_once.new.device) (c.in-Ok.restored, c.in-Ok.ensures.calls)
