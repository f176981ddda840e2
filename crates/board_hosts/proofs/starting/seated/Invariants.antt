use Rattle.std.specs.Prelude.{[]}
use Rattle.board_hosts.proofs.Common.{All, client, length, vec_capacity, vec_len, ◌+◌, ◌≡◌, ◌≤◌}
use Rattle.board_hosts.proofs.starting.seated.Given as goal

abbrev pub invariant-loop-seat : goal.invariant-loop-seat
invariant-loop-seat g l =
    (l.whole.parts + length l.yielded ≡ l.initial.whole.parts) × (l.whole.amount ≡ 0) × (vec_len l.hosts ≡ length l.yielded)
    × (l.initial.whole.parts ≤ vec_capacity l.hosts) × All (λ h. h ≡ client l.mark l.mark 0 []) l.hosts.items
