use Rattle.std.specs.Prelude.{◌≡◌, ◌≤◌, All, length, sum_by}
use Rattle.board_hosts.proofs.held.Held.end.Given as goal

abbrev pub invariant-loop-host : goal.invariant-loop-host
invariant-loop-host g l =
    (l.rest.parts ≡ length l.yielded) × (l.rest.amount ≡ sum_by (λ h. h.writes) l.yielded) × (l.seat ≡ l.initial.seat)
    × All (λ h. h.persisted ≤ l.initial.seat.persisted) l.yielded
