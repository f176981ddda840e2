-- What a TOML table has under a key.
use Rattle.std.specs.Prelude.{◌≡◌, ℕ, ◌+◌, ◌≤◌, Bool, List, map, ℤ, pos, negsuc, Option, Some, None, is_some, option_and_then, if◌then◌else◌}
use Rattle.std.specs.Borrow.{Bor}
use Rattle.toml.specs.Data.{Members, no_members, member, get_member, as_str, as_table, as_integer}
use Rattle.nv_profile.specs.Nothing.{HoldsOfNone}

-- how many keys it has
abbrev pub size_of : Members → ℕ
size_of no_members = 0
size_of (member key value rest) = size_of rest + 1

-- a whole number that isn't negative
abbrev pub natural : ℤ → Option ℕ
natural (pos n) = Some n
natural (negsuc n) = None

-- the whole number under the key, where that is what stands there
abbrev pub number_at : List ℕ → Members → Option ℕ
number_at key table = option_and_then natural (option_and_then as_integer (get_member key table))

-- whether a value stands under the key
abbrev pub has_key : List ℕ → Members → Bool
has_key key table = is_some (get_member key table)

-- the whole number under a key that may be missing, and counts as 0 then
abbrev pub number_or_zero : List ℕ → Members → Option ℕ
number_or_zero key table = if has_key key table then number_at key table else Some 0

-- these whole numbers stand under the keys, one under each
pub record HasNumbers (keys : List (Bor (List ℕ))) (table : Members) (numbers : List ℕ) : Type 0 where
  pub found : map (λ key. number_at key.now table) keys ≡ map Some numbers

-- a whole number from the least to the most stands under the key
abbrev pub HasNumber : List ℕ → Members → ℕ → ℕ → ℕ → Type 0
HasNumber key table least most n = (number_at key table ≡ Some n) × (least ≤ n) × (n ≤ most)

-- none does
abbrev pub HasNoNumber : List ℕ → Members → ℕ → ℕ → Type 0
HasNoNumber key table least most = HoldsOfNone (HasNumber key table least most)

-- a whole number up to the most stands under the key, or the key is missing and the number is 0
abbrev pub HasNumberIfAny : List ℕ → Members → ℕ → ℕ → Type 0
HasNumberIfAny key table most n = (number_or_zero key table ≡ Some n) × (n ≤ most)

-- the text under the key
abbrev pub word_at : List ℕ → Members → Option (List ℕ)
word_at key table = option_and_then as_str (get_member key table)

-- the table under the key
abbrev pub table_at : List ℕ → Members → Option Members
table_at key table = option_and_then as_table (get_member key table)
