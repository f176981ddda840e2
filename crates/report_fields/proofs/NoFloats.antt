-- No number of an object that is told is a float.
use Rattle.std.proofs.Common.{◌≡◌, ℕ, List, [], ◌∷◌, Bool, true, false, ◌||◌, true≢false, Ordering, Less, Equal, Greater, codes, map, refl}
use Rattle.std.specs.Cmp.Lexicographic.{slice_cmp}
use Rattle.std.specs.Ordering.{nat_cmp, match_ordering}
use Rattle.serde_json.specs.Data.{Data, string, Members, no_members, member, put}
use Rattle.serde_json.specs.View.{items_of}
use Rattle.serde_json.specs.Written.{has_float, items_have_float, members_have_float}
use Rattle.report_fields.specs.Fields.{members_by, with_field, with_fields}
use Rattle.report_fields.specs.Parts.{data_of_told, field_of}
use Rattle.report_fields.specs.declared.part.Part.{Part}
use Rattle.report_fields.specs.declared.part.Part.TheVariants.{Word, Number, Aligned, Name, HiddenNumber, HiddenName, Within, Each}
use Rattle.report_fields.specs.declared.told.Told.{Told}

left_none : (a b : Bool) → (a || b) ≡ false → a ≡ false
left_none false b none = refl
left_none true b none = none

right_none : (a b : Bool) → (a || b) ≡ false → b ≡ false
right_none false b none = none
right_none true b none = absurd (true≢false none)

none_of_both : (a b : Bool) → a ≡ false → b ≡ false → (a || b) ≡ false
none_of_both false b first second = second
none_of_both true b first second = first

whichever : (o : Ordering) (a b c : Members) → members_have_float a ≡ false → members_have_float b ≡ false → members_have_float c ≡ false
    → members_have_float (match_ordering o a b c) ≡ false
whichever Less a b c first second third = first
whichever Equal a b c first second third = second
whichever Greater a b c first second third = third

put_none : (k : List ℕ) (d : Data) (ms : Members) → has_float d ≡ false → members_have_float ms ≡ false → members_have_float (put k d ms) ≡ false
put_none k d no_members value none = none_of_both (has_float d) false value refl
put_none k d (member l e ms) value none =
    let here = left_none (has_float e) (members_have_float ms) none in
    let rest = right_none (has_float e) (members_have_float ms) none in
    whichever (slice_cmp nat_cmp k l) _ _ _ (none_of_both (has_float d) (members_have_float (member l e ms)) value none)
    (none_of_both (has_float d) (members_have_float ms) value rest)
    (none_of_both (has_float e) (members_have_float (put k d ms)) here (put_none k d ms value rest))

items_none : (list : List Told) → items_have_float (items_of (map data_of_told list)) ≡ false
items_none [] = refl
items_none (told ∷ list) = none_of_both (has_float (data_of_told told)) (items_have_float (items_of (map data_of_told list))) told.whole (items_none list)

part_none : (part : Part) (ms : Members) → members_have_float ms ≡ false → members_have_float (with_field ms (field_of part)) ≡ false
part_none (Word word) ms none = none
part_none (Number name value) ms none = put_none name.now _ ms refl none
part_none (Aligned name value width) ms none = put_none name.now _ ms refl none
part_none (Name name value) ms none = put_none name.now _ ms refl none
part_none (HiddenNumber name value) ms none = put_none name.now _ ms refl none
part_none (HiddenName name value) ms none = put_none name.now _ ms refl none
part_none (Within name told) ms none = put_none name.now (data_of_told told.now) ms told.now.whole none
part_none (Each name list) ms none = put_none name.now _ ms (items_none list.now) none

parts_none : (parts : List Part) (ms : Members) → members_have_float ms ≡ false → members_have_float (with_fields ms (map field_of parts)) ≡ false
parts_none [] ms none = none
parts_none (part ∷ parts) ms none = parts_none parts (with_field ms (field_of part)) (part_none part ms none)

-- what is told, as the members of an object
pub told_none : (kind : List ℕ) (parts : List Part) → members_have_float (members_by kind (map field_of parts)) ≡ false
told_none kind parts = parts_none parts (put (codes "answer") (string kind) no_members) (put_none (codes "answer") (string kind) no_members refl refl)
