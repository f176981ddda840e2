use Rattle.std.proofs.Common.{◌≡◌, ◌∙◌, ℕ, List, Option, ap, length, subst}
use Rattle.std.specs.Prelude.{IfSome}
use Rattle.ddr4_timing.specs.Limits.{lines_of}
use Rattle.nv_session.specs.Living.{innermost}
use Rattle.save_device.specs.Memory.{settled_row_of, state_of}
use Rattle.save_device.specs.declared.memory.MemoryDevice.{MemoryDevice}
use Rattle.save_device.specs.declared.memory.Pick.TheVariants.{New}
use Rattle.crash_table.specs.Lefts.{IsLeftOf}
use Rattle.crash_table.specs.Outcomes.{IsFoundOf}
use Rattle.crash_table.specs.declared.left.Left.{Left}
use Rattle.crash_table.proofs.Behind.{outcome_found}
use Rattle.crash_table.proofs.Lefts.{new_picked, picked_leaves}
use Rattle.crash_table.proofs.trials.Trials.outcome_of_all.Goals as goal

pub returns-clause-found : goal.returns-clause-found
returns-clause-found g c = λ pick.
    let behind = c.args.behind.now in
    let device : MemoryDevice = innermost behind.standing.session.device in
    let of : IsLeftOf device c.in-Some.left = subst (λ (left : Option Left). IfSome left (IsLeftOf device)) c.in-Some.is c.requires.left in
    let image : List ℕ = c.in_ok-bytes.bytes.items in
    let size : length image ≡ length (state_of device).bytes = ap length (c.in_ok-bytes.ensures ∙ of.bytes) in
    let may = picked_leaves New (settled_row_of device) (state_of device).unsettled (state_of device).bytes image size (new_picked device c.in-Some.left image of c.in_ok-bytes.ensures) in
    let found = subst (λ (n : ℕ). IsFoundOf (lines_of c.args.self.now.profile.now.checked.geometry) image n c.in_ok-found.field-0) c.unwrap_or.ensures c.in_ok-found.ensures.found in
    outcome_found c.args.self.now.profile.now behind c.requires image pick c.in_ok-found.field-0 may found
