use Rattle.std.proofs.Common.{◌≡◌, ◌+◌, vec_capacity, vec_len}
use Rattle.board_use.proofs.threads.Room.join.Given as goal

abbrev pub invariant-loop-joined : goal.invariant-loop-joined
invariant-loop-joined g l =
    (vec_len l.self.threads + l._joined ≡ vec_len l.fn.self.threads) × (vec_len l.self.hosts ≡ vec_len l.fn.self.hosts + l._joined)
    × (vec_capacity l.self.hosts ≡ vec_capacity l.fn.self.hosts)
