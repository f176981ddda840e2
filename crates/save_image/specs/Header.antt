-- The bytes of an image's header, in either version: a page of 4,096 bytes.
use Rattle.std.specs.Prelude.{ℕ, ◌<◌, ◌≤◌, ◌+◌, ◌^◌, Bool, List, [], ◌∷◌, ◌++◌, replicate, cond, take, drop, length, Option, Some, None}
use Rattle.byteorder.specs.Endian.{little_bytes}

-- n zero bytes
unfoldable pub zeros : ℕ → List ℕ
zeros n = replicate n 0

-- a number in eight bytes, little endian
unfoldable pub le8 : ℕ → List ℕ
le8 n = little_bytes 8 n

-- "NVSAVE01", the magic text of version 1
unfoldable pub magic_1 : List ℕ
magic_1 = 0x4e ∷ 0x56 ∷ 0x53 ∷ 0x41 ∷ 0x56 ∷ 0x45 ∷ 0x30 ∷ 0x31 ∷ []

-- "NVSAVE02", that of version 2
unfoldable pub magic_2 : List ℕ
magic_2 = 0x4e ∷ 0x56 ∷ 0x53 ∷ 0x41 ∷ 0x56 ∷ 0x45 ∷ 0x30 ∷ 0x32 ∷ []

-- a header that has a digest is of version 2, and one that has none of version 1
unfoldable pub magic : Option (List ℕ) → List ℕ
magic None = magic_1
magic (Some digest) = magic_2

-- the bytes behind the numbers: the digest, if there is one, and zeros
unfoldable pub tail : Option (List ℕ) → List ℕ
tail None = zeros 4056
tail (Some digest) = digest ++ zeros 4024

-- the arm byte of an image that is armed or clear
abbrev pub arm_byte : Bool → ℕ
arm_byte armed = cond armed 0x5a 0

-- the first 40 bytes, with this magic text
unfoldable pub fields : ℕ → ℕ → List ℕ → ℕ → ℕ → ℕ → List ℕ
fields gate arm text generation count lines =
    (gate ∷ arm ∷ []) ++ zeros 6 ++ text ++ le8 generation ++ le8 count ++ le8 lines

-- The header: bytes 0 and 1 are the gate and the arm byte, 2 to 7 are zero, 8 to 15 the magic text, 16 to 23 the
-- generation, 24 to 31 the count, 32 to 39 the number of lines. In version 1 the bytes 40 to 4095 are zero; in version 2
-- the bytes 40 to 71 are the digest of the body, and 72 to 4095 are zero.
unfoldable pub header : Option (List ℕ) → ℕ → ℕ → ℕ → ℕ → ℕ → List ℕ
header digest gate arm generation count lines =
    fields gate arm (magic digest) generation count lines ++ tail digest

-- the numbers that an image may have
pub record Fits (generation count : ℕ) : Type 0 where
  pub some : 0 < generation
  pub generation_fits : generation < 2 ^ 63
  pub count_fits : count ≤ 2 ^ 62

-- a list with these bytes from this place on
abbrev pub spliced : ℕ → List ℕ → List ℕ → List ℕ
spliced at bytes old = take at old ++ (bytes ++ drop (at + length bytes) old)
