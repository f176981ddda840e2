use Rattle.std.proofs.Common.{◌-◌, ◌^◌, min, List, ap, sym}
use Rattle.save_device.specs.declared.calls.Call.{Call}
use Rattle.save_device.specs.Calls.{faults_in}
use Rattle.save_device.proofs.calls.CallLog.new.Goals as goal

pub invariant_of-result : goal.invariant_of-result
invariant_of-result c = ap (λ (calls : List Call). min (faults_in calls) (2 ^ 64 - 1)) (sym c.new.ensures)
