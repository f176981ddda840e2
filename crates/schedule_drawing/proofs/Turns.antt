-- The changes of shapes, shape after shape.
use Rattle.std.proofs.Common.{◌≡◌, ℕ, ◌+◌, ◌<◌, List, [], ◌∷◌, ◌++◌, length, take, get_or, ap, refl, subst, sym}
use Rattle.std.proofs.lemmas.List.{take_more}
use Rattle.schedule_drawing.specs.Changes.{AreInTurn, IsBegin, IsEnd}
use Rattle.schedule_drawing.specs.declared.lanes.Lane.{Lane}
use Rattle.schedule_drawing.specs.declared.shapes.Shape.{Shape}
use Rattle.schedule_drawing.specs.declared.vcd.Change.{Change}

pub none_in_turn : (lanes : List Lane) (changes : List Change) → changes ≡ [] → AreInTurn lanes [] changes
unfolding AreInTurn
none_in_turn lanes changes none = none

-- one more shape
turn_more : (lanes : List Lane) (shapes : List Shape) (changes : List Change) (it : Shape) (begin end : Change) → AreInTurn lanes shapes changes → IsBegin lanes it begin → IsEnd lanes it end
    → AreInTurn lanes (shapes ++ it ∷ []) ((changes ++ begin ∷ []) ++ end ∷ [])
unfolding AreInTurn
turn_more lanes [] changes it begin end none begins ends = (begin, end, [], rw none refl, begins, ends, refl)
turn_more lanes (first ∷ shapes) changes it begin end turns begins ends = (
  turns.0,
  turns.1,
  (turns.2 ++ begin ∷ []) ++ end ∷ [],
  ap (λ (cs : List Change). (cs ++ begin ∷ []) ++ end ∷ []) turns.3,
  turns.4,
  turns.5,
  turn_more lanes shapes turns.2 it begin end turns.6 begins ends,
)

-- the next of a list
pub next_in_turn : (lanes : List Lane) (shapes : List Shape) (i : ℕ) (d : Shape) (changes : List Change) (begin end : Change) → i < length shapes → AreInTurn lanes (take i shapes) changes
    → IsBegin lanes (get_or shapes i d) begin → IsEnd lanes (get_or shapes i d) end → AreInTurn lanes (take (i + 1) shapes) ((changes ++ begin ∷ []) ++ end ∷ [])
next_in_turn lanes shapes i d changes begin end within turns begins ends =
    subst (λ (ss : List Shape). AreInTurn lanes ss ((changes ++ begin ∷ []) ++ end ∷ [])) (sym (take_more shapes i d within))
    (turn_more lanes (take i shapes) changes (get_or shapes i d) begin end turns begins ends)
