-- Clocks behind which no shape ends.
use Rattle.std.proofs.Common.{ℕ, ◌+◌, ◌<◌, ◌≤◌, List, length, take, get_or, arith}
use Rattle.std.proofs.lemmas.List.Elements.{All-more}
use Rattle.schedule_drawing.specs.declared.shapes.Shape.{Shape}
use Rattle.schedule_drawing.specs.Drawing.{shape_to}
use Rattle.schedule_drawing.specs.Lives.{EndBy}

-- none ends behind a later clock
pub ended-later : (a b : ℕ) (shapes : List Shape) → a ≤ b → EndBy a shapes → EndBy b shapes
ended-later a b shapes less ended = λ k d below. omega (arith, ended k d below)

-- some shapes and the next one
pub ended-more : (end : ℕ) (shapes : List Shape) (i : ℕ) (d : Shape) → i < length shapes → EndBy end (take i shapes)
    → shape_to (get_or shapes i d) ≤ end → EndBy end (take (i + 1) shapes)
ended-more end shapes i d below ended next = All-more (λ (shape : Shape). shape_to shape ≤ end) shapes i d below ended next
