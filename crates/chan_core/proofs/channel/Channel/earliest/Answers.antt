use Rattle.std.proofs.Common.{◌≡◌, ℕ, ◌+◌, ◌*◌, ◌≤◌, ◌↔◌, List, Option, Some, None, IfNone, IfSome}
use Rattle.chan_core.proofs.Common.{BanksState, Checked, Command, IsEarliest, IsLawful, KeepsRows, Stamped, Stands, last_ref, least_clock, rank_of, with_command}
use Rattle.chan_core.proofs.channel.Channel.earliest.Goals as goal

here : (b : BanksState Checked) (list : List Stamped) (cmd : Command) (result : Option ℕ) → Stands b list
    → IfNone result ((list : List Stamped) → Stands b list → ¬ KeepsRows b.checked.geometry list cmd)
    → IfSome result (λ k. (list : List Stamped) → Stands b list → KeepsRows b.checked.geometry list cmd)
    → IfSome result (λ k. (list : List Stamped) → Stands b list → k ≡ least_clock b.checked.timing list cmd)
    → IfNone result ((list : List Stamped) → Stands b list → (k : ℕ) → ¬ IsLawful b.checked (with_command list k cmd))
    → IfSome result (λ c. (list : List Stamped) → Stands b list → (k : ℕ) → (IsLawful b.checked (with_command list k cmd) ↔ ((c ≤ k) × (k ≤ last_ref (rank_of cmd) list + 9 * b.checked.timing.t_refi))))
    → IsEarliest b.checked list cmd result
here b list cmd None stands none rows value never exact = (none list stands, never list stands)
here b list cmd (Some clock) stands none rows value never exact = (rows list stands, value list stands, exact list stands)

pub returns : goal.returns
returns c =
    let e = c.earliest.ensures in
    rw (← c.self.view_is, ← c.self.invariant.checked) (here c.self.inside.banks _ c.args.cmd c.earliest.result c.self.invariant.stands e.none e.rows e.value e.never e.exact)
