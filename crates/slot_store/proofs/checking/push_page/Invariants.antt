use Rattle.std.specs.Prelude.{vec_capacity}
use Rattle.slot_store.proofs.Common.{◌++◌, ◌≡◌, take}
use Rattle.slot_store.proofs.checking.push_page.Given as goal

abbrev pub invariant-loop-line : goal.invariant-loop-line
invariant-loop-line l = record {
  items : l.memory.items ≡ l.initial.memory.items ++ take l.line-index l.line-items;
  capacity : vec_capacity l.memory ≡ vec_capacity l.initial.memory;
}
