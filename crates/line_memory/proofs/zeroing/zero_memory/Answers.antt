use Rattle.std.proofs.Common.{◌≡◌, ◌++◌, [], ◌∷◌, ◌∙◌, ℕ, List, length, ap, arith}
use Rattle.std.proofs.lemmas.List.{replicate_more, length-replicate}
use Rattle.line_memory.specs.Memory.{zero_line, zero_lines}
use Rattle.line_memory.proofs.zeroing.zero_memory.Goals as goal

pub loop-line-init : goal.loop-line-init
unfolding zero_lines
loop-line-init c = record { items = c.in_ok-memory.ensures.items; room = c.in_ok-memory.ensures.capacity }

pub push_reserved-requires : goal.push_reserved-requires
unfolding zero_lines
push_reserved-requires c =
    let size : length c.loop-line.memory.items ≡ c.loop-line._line = ap length c.loop-line.invariant.items ∙ length-replicate c.loop-line._line zero_line in
    omega (arith, size, c.loop-line.memory.ok)

pub loop-line-preserved : goal.loop-line-preserved
unfolding zero_lines zero_line
loop-line-preserved c = record {
  items = c.push_reserved.ensures.items ∙ ap (λ (lines : List (List ℕ)). lines ++ zero_line ∷ []) c.loop-line.invariant.items ∙ replicate_more c.loop-line._line zero_line;
  room = omega arith;
}
