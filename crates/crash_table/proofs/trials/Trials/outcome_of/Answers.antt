use Rattle.std.proofs.Common.{◌≡◌, ℕ, Global, List, Option, Vec, length, subst}
use Rattle.std.specs.Prelude.{IfSome}
use Rattle.std.proofs.lemmas.Result.{IfOk-weaker}
use Rattle.ddr4_timing.specs.Limits.{lines_of}
use Rattle.nv_profile.specs.declared.profile.Profile.{Profile}
use Rattle.nv_session.specs.Living.{innermost}
use Rattle.save_device.specs.Memory.{IsPicked, settled_row_of, state_of}
use Rattle.save_device.specs.declared.memory.MemoryDevice.{MemoryDevice}
use Rattle.crash_table.specs.Lefts.{IsLeftOf}
use Rattle.crash_table.specs.Outcomes.{IsFoundOf, IsOutcomeOf}
use Rattle.crash_table.specs.declared.left.Left.{Left}
use Rattle.crash_table.proofs.Behind.{outcome_found}
use Rattle.crash_table.proofs.Lefts.{picked_leaves}
use Rattle.crash_table.proofs.trials.Trials.outcome_of.Goals as goal

pub returns-clause-found : goal.returns-clause-found
returns-clause-found g c =
    let profile : Profile = c.args.self.now.profile.now in
    let lines : ℕ = lines_of profile.checked.geometry in
    let behind = c.args.behind.now in
    let device : MemoryDevice = innermost behind.standing.session.device in
    let of : IsLeftOf device c.in-Some.left = subst (λ (left : Option Left). IfSome left (IsLeftOf device)) c.in-Some.is c.requires.left in
    let image : List ℕ = c.in-Some-2.bytes.items in
    let told = subst (λ (some : Option (Vec ℕ Global)). IfSome some (λ some. (device : MemoryDevice) → IsLeftOf device c.in-Some.left → IsPicked c.args.pick device some.items × (length some.items ≡ length (state_of device).bytes)))
    c.in-Some-2.is c.in_ok-bytes.ensures in
    let is = told device of in
    let may = picked_leaves c.args.pick (settled_row_of device) (state_of device).unsettled (state_of device).bytes image is.1 is.0 in
    IfOk-weaker c.found.result (IsFoundOf lines image c.unwrap_or.result) (IsOutcomeOf lines behind.standing.done.items c.args.pick)
    (λ outcome found. outcome_found profile behind c.requires image c.args.pick outcome may (subst (λ (n : ℕ). IsFoundOf lines image n outcome) c.unwrap_or.ensures found)) c.found.ensures.found
