use Rattle.std.proofs.Common.{◌≡◌, ◌+◌, vec_capacity, vec_len}
use Rattle.board_use.proofs.threads.start_hosts.Given as goal

abbrev pub invariant-loop-before : goal.invariant-loop-before
invariant-loop-before g l =
    (vec_len l.hosts + l.before ≡ l.seats) × (l.seats ≡ vec_len l.fn.hosts) × (vec_len l.room.hosts + vec_len l.room.threads ≡ l.before)
    × (vec_capacity l.room.hosts ≡ l.seats) × (vec_capacity l.room.threads ≡ l.seats)
