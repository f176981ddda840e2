use Rattle.std.specs.Prelude.{◌≡◌, ◌≤◌, All, vec_len, vec_capacity}
use Rattle.board_hosts.proofs.mark_words.split_hosts.Given as goal

abbrev pub invariant-loop-i : goal.invariant-loop-i
invariant-loop-i l =
    (l.owner ≡ l.initial.owner) × (vec_len l.seats ≡ l._i) × (l.hosts ≤ vec_capacity l.seats) × All (λ seat. seat ≡ l.initial.owner) l.seats.items
