use Rattle.std.specs.Prelude.{◌≡◌, ◌+◌, length}
use Rattle.module_journal.specs.Heads.{untold}
use Rattle.module_journal.proofs.journal.drop_told.Given as goal

-- the heads that went are told, one at each turn
abbrev pub invariant-loop-turn : goal.invariant-loop-turn
invariant-loop-turn l = record {
  same : untold l.mark l.heads.items ≡ untold l.mark l.fn.heads.items;
  one_each : length l.heads.items + l._turn ≡ length l.fn.heads.items;
}
