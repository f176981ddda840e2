-- What is told, part by part, and the object of these parts.
use Rattle.std.specs.Prelude.{◌≡◌, ℕ, List, [], ◌∷◌, codes, flat_map, fold, replicate}
use Rattle.hex.specs.Hex.{encode_lower}
use Rattle.serde_json.specs.Data.{number, unsigned, string, Members, no_members, put}
use Rattle.answer_json.specs.declared.told.Part.{Part}
use Rattle.answer_json.specs.declared.told.Part.TheVariants.{Nothing, Word, Number, Name, Bytes}
use Rattle.answer_json.specs.declared.told.Told.{Told}

-- so many places of a line without a part
abbrev pub nothings : ℕ → List Part
nothings places = replicate places Nothing

-- a part of a line: a word under no name, or a number, a word or bytes under one
pub data Piece : Type 0 where
  says : List ℕ → Piece
  counts : List ℕ → ℕ → Piece
  names : List ℕ → List ℕ → Piece
  holds : List ℕ → List ℕ → Piece

abbrev pub pieces_of : Part → List Piece
pieces_of Nothing = []
pieces_of (Word word) = says word.now ∷ []
pieces_of (Number name value) = counts name.now value ∷ []
pieces_of (Name name value) = names name.now value.now ∷ []
pieces_of (Bytes name bytes) = holds name.now bytes ∷ []

-- the parts of a line, in its order
abbrev pub line_of : Told → List Piece
line_of told = flat_map pieces_of told.parts

-- members of an object, with a part where it has a name: a number, a text, or bytes in hexadecimal digits
abbrev pub with_piece : Members → Piece → Members
with_piece members (says word) = members
with_piece members (counts name value) = put name (number (unsigned value)) members
with_piece members (names name value) = put name (string value) members
with_piece members (holds name bytes) = put name (string (encode_lower bytes)) members

abbrev pub with_pieces : Members → List Piece → Members
with_pieces members pieces = fold with_piece members pieces

-- the members of an object: the kind under `answer`, and each part of the line that has a name
abbrev pub members_by : List ℕ → List Piece → Members
members_by kind pieces = with_pieces (put (codes "answer") (string kind) no_members) pieces

abbrev pub members_of : Told → Members
members_of told = members_by told.kind.now (line_of told)

-- it is told to be of this kind, in these parts
abbrev pub IsTold : List ℕ → List Piece → Told → Type 0
IsTold kind pieces told = (told.kind.now ≡ kind) × (line_of told ≡ pieces)
