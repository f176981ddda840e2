-- Reads, and a sync before them.
use Rattle.std.proofs.Common.{◌≡◌, ⊎_elim, ℕ, ◌+◌, ◌-◌, ◌≤◌, Bool, true, false, List, replicate, sym, ◌∙◌, ap, subst, arith}
use Rattle.std.specs.Prelude.{IsTrue}
use Rattle.std.proofs.lemmas.List.{replicate-append-replicate}
use Rattle.save_device.specs.declared.calls.CallKind.{CallKind}
use Rattle.save_device.specs.declared.calls.CallKind.TheVariants.{Read}
use Rattle.save_device.specs.Calls.{MakesCalls}
use Rattle.save_device.specs.Device.{Moment, DeviceState, present, IsSettled, MayLeave, LeavesOnly}
use Rattle.save_device.specs.Changes.{Settle, IsCall, Makes, OnlyReads}
use Rattle.save_device.proofs.CallLists.{calls_on, one_call, more_planned}
use Rattle.save_device.proofs.Moments.{and_then, weaker, within_call}

-- what a stop leaves of a device that is the same
pub leaves_same : (old new : DeviceState) → present new ≡ present old → (image : List ℕ) → MayLeave (present new) image → MayLeave (present old) image
leaves_same old new same image left = subst (λ (moment : Moment). MayLeave moment image) same left

pub settled_same : (old new : DeviceState) → present new ≡ present old → IsSettled old → IsSettled new
settled_same old new same settled = subst (λ (moment : Moment). (place : ℕ) → ¬ IsTrue (moment.unsettled place)) (sym same) settled

pub one_read : (good : Bool) (old new : DeviceState) → IsCall Read good old new → present new ≡ present old → OnlyReads 1 good old new
one_read good old new call same = record {
  calls = one_call Read good old.calls new.calls call.counted;
  same = same;
  time = within_call old new call.time (λ image left. left) (leaves_same old new same);
}

-- reads, and further ones
pub reads_on : (m n : ℕ) (good : Bool) (old mid new : DeviceState) → OnlyReads m true old mid → OnlyReads n good mid new → OnlyReads (m + n) good old new
reads_on m n good old mid new one two = record {
  calls = subst (λ (kinds : List CallKind). MakesCalls kinds good old.calls new.calls) (replicate-append-replicate m n Read) (calls_on (replicate m Read) (replicate n Read) good old.calls mid.calls new.calls one.calls two.calls);
  same = two.same ∙ one.same;
  time = and_then old mid new one.time (weaker mid new (leaves_same old mid one.same) two.time);
}

-- one that failed, of several
pub reads_stop : (m n : ℕ) (old new : DeviceState) → m ≤ n → OnlyReads m false old new → OnlyReads n false old new
reads_stop m n old new le reads = record {
  calls = subst (λ (kinds : List CallKind). MakesCalls kinds false old.calls new.calls) (replicate-append-replicate m (n - m) Read ∙ ap (λ (k : ℕ). replicate k Read) (let e : m + (n - m) ≡ n = omega arith in e))
      (more_planned (replicate m Read) (replicate (n - m) Read) old.calls new.calls reads.calls);
  same = reads.same;
  time = reads.time;
}

-- a sync takes nothing from what a stop leaves, and adds nothing
pub sync_leaves : (good : Bool) (old new : DeviceState) → Makes Settle good old new → LeavesOnly old new (MayLeave (present old))
sync_leaves good old new m =
    within_call old new m.call.time (λ image left. left) (λ image left. record {
      size = left.size ∙ m.outside.size;
      outside = λ place none. left.outside place (λ l. ⊎_elim none (λ w. w) (m.unsettled place l)) ∙ m.outside.outside place (λ w. w);
    })
