-- The text of a line.
use Rattle.std.specs.Prelude.{◌≡◌, ◌==◌, ℕ, List, [], ◌∷◌, Bool, true, false, if◌then◌else◌, decimal, map, slice_index}
use Rattle.std.specs.List.{join_with_byte, list_all}
use Rattle.std.specs.String.{string_bytes}
use Rattle.hex.specs.Hex.{encode_lower}
use Rattle.answer_json.specs.Told.{Piece, says, counts, names, holds}
use Rattle.answer_json.specs.declared.line.LineText.{LineText}

-- words with a space between two
abbrev pub spaced : List (List ℕ) → List ℕ
spaced words = join_with_byte 32 words

-- the bytes of a line of memory: one in hexadecimal digits where all are equal to it, or all
abbrev pub shown : List ℕ → List ℕ
shown bytes = if list_all (λ byte. byte == slice_index bytes 0) bytes then encode_lower (slice_index bytes 0 ∷ []) else encode_lower bytes

abbrev pub piece_text : Piece → List ℕ
piece_text (says word) = word
piece_text (counts name value) = decimal value
piece_text (names name value) = value
piece_text (holds name bytes) = shown bytes

-- the text of a line of these parts
abbrev pub line_text : List Piece → List ℕ
line_text pieces = spaced (map piece_text pieces)

abbrev pub has_words : List (List ℕ) → Bool
has_words [] = false
has_words (word ∷ words) = true

-- a line has these words so far
pub record IsLineOf (words : List (List ℕ)) (line : LineText) : Type 0 where
  pub text : string_bytes line.text ≡ spaced words
  pub begun : line.is_begun ≡ has_words words
