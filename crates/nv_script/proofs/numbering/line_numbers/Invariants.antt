use Rattle.std.proofs.Common.{◌≡◌, length, take}
use Rattle.nv_script.specs.Texts.{numbers_from, text_lines}
use Rattle.nv_script.proofs.numbering.line_numbers.Given as goal

abbrev pub invariant-loop-index : goal.invariant-loop-index
invariant-loop-index l = l.numbers.items ≡ numbers_from 1 (take (length l.yielded) (text_lines l.script))
