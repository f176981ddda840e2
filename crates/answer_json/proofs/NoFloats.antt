-- No number of an object that is told is a float.
use Rattle.std.proofs.Common.{◌≡◌, ℕ, List, [], ◌∷◌, Bool, true, false, ◌||◌, true≢false, Ordering, Less, Equal, Greater, codes, refl}
use Rattle.std.specs.Cmp.Lexicographic.{slice_cmp}
use Rattle.std.specs.Ordering.{nat_cmp, match_ordering}
use Rattle.serde_json.specs.Data.{Data, string, Members, no_members, member, put}
use Rattle.serde_json.specs.Written.{has_float, members_have_float}
use Rattle.answer_json.specs.Told.{Piece, says, counts, names, holds, members_by, with_piece, with_pieces}

left_none : (a b : Bool) → (a || b) ≡ false → a ≡ false
left_none false b none = refl
left_none true b none = none

right_none : (a b : Bool) → (a || b) ≡ false → b ≡ false
right_none false b none = none
right_none true b none = absurd (true≢false none)

none_of_both : (a b : Bool) → a ≡ false → b ≡ false → (a || b) ≡ false
none_of_both false b first second = second
none_of_both true b first second = first

whichever : (o : Ordering) (a b c : Members) → members_have_float a ≡ false → members_have_float b ≡ false → members_have_float c ≡ false
    → members_have_float (match_ordering o a b c) ≡ false
whichever Less a b c first second third = first
whichever Equal a b c first second third = second
whichever Greater a b c first second third = third

put_none : (k : List ℕ) (d : Data) (ms : Members) → has_float d ≡ false → members_have_float ms ≡ false → members_have_float (put k d ms) ≡ false
put_none k d no_members value none = none_of_both (has_float d) false value refl
put_none k d (member l e ms) value none =
    let here = left_none (has_float e) (members_have_float ms) none in
    let rest = right_none (has_float e) (members_have_float ms) none in
    whichever (slice_cmp nat_cmp k l) _ _ _ (none_of_both (has_float d) (members_have_float (member l e ms)) value none)
    (none_of_both (has_float d) (members_have_float ms) value rest)
    (none_of_both (has_float e) (members_have_float (put k d ms)) here (put_none k d ms value rest))

piece_none : (piece : Piece) (ms : Members) → members_have_float ms ≡ false → members_have_float (with_piece ms piece) ≡ false
piece_none (says word) ms none = none
piece_none (counts name value) ms none = put_none name _ ms refl none
piece_none (names name value) ms none = put_none name _ ms refl none
piece_none (holds name bytes) ms none = put_none name _ ms refl none

pieces_none : (pieces : List Piece) (ms : Members) → members_have_float ms ≡ false → members_have_float (with_pieces ms pieces) ≡ false
pieces_none [] ms none = none
pieces_none (piece ∷ pieces) ms none = pieces_none pieces (with_piece ms piece) (piece_none piece ms none)

-- what is told, as the members of an object
pub told_none : (kind : List ℕ) (pieces : List Piece) → members_have_float (members_by kind pieces) ≡ false
told_none kind pieces = pieces_none pieces (put (codes "answer") (string kind) no_members) (put_none (codes "answer") (string kind) no_members refl refl)
