use Rattle.std.specs.Prelude.{◌≡◌, ◌-◌, ◌≤◌, drop, length}
use Rattle.journal_lines.proofs.calls.drop_front.Given as goal

-- those that are to go yet leave of the places so far what is to be left
abbrev pub invariant-loop-place : goal.invariant-loop-place
invariant-loop-place l = record {
  rest : drop (l.count - l._place) l.places.items ≡ drop l.count l.fn.places.items;
  enough : l.count - l._place ≤ length l.places.items;
}
