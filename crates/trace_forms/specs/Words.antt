-- The words of a line, and the numbers that they write.
use Rattle.std.specs.Prelude.{◌≡◌, ℕ, ◌-◌, ◌==◌, ◌++◌, Bool, true, false, not, List, codes, drop, filter, length, map, take}
use Rattle.std.specs.Borrow.{Bor}
use Rattle.std.specs.Char.{is_ascii_whitespace}
use Rattle.std.specs.List.{list_any, prefix_len, slice_split, suffix_len}
use Rattle.std.specs.Str.Parse.{IsNumeral, digits_value, without_leading_plus}

abbrev pub texts_of : List (Bor (List ℕ)) → List (List ℕ)
texts_of words = map (λ word. word.now) words

-- a line has a comma
abbrev pub has_comma : List ℕ → Bool
has_comma line = list_any (λ byte. byte == 44) line

-- what stands between the commas of a line, or between its spaces, where that is something
abbrev pub words_of : Bool → List ℕ → List (List ℕ)
words_of true line = slice_split (λ byte. byte == 44) line
words_of false line = filter (λ word. not (length word == 0)) (slice_split (λ byte. byte == 32) line)

-- a word without the white space at both of its ends
abbrev pub trimmed : List ℕ → List ℕ
trimmed word =
    let front = drop (prefix_len is_ascii_whitespace word) word in
    take (length front - suffix_len is_ascii_whitespace front) front

-- digits of a base write the number; a plus may stand first
pub record IsDigits (base : ℕ) (word : List ℕ) (n : ℕ) : Type 0 where
  pub numeral : IsNumeral base (without_leading_plus word)
  pub value : n ≡ digits_value base (without_leading_plus word)

-- a word writes the number: in decimal digits, or in base 16 behind 0x
abbrev pub IsNumber : Bool → List ℕ → ℕ → Type 0
IsNumber false word n = IsDigits 10 word n
IsNumber true word n = (digits : List ℕ) × (word ≡ codes "0x" ++ digits) × IsDigits 16 digits n
