-- Images: what a save makes, and their bytes.
use Rattle.std.specs.Prelude.{◌&&◌, ℕ, ◌+◌, ◌^◌, Bool, nat_lt, if◌then◌else◌, List, ◌++◌, slice_index, Option, Some, None, is_some}
use Rattle.std.specs.Str.{bytes_eq}
use Rattle.line_memory.specs.Memory.{IsMemory}
use Rattle.sha2.specs.Sha256.{sha256}
use Rattle.save_image.specs.declared.reading.Header.{Header}
use Rattle.save_image.specs.declared.reading.Version.{Version}
use Rattle.save_image.specs.declared.reading.Version.TheVariants.{One, Two}
use Rattle.save_image.specs.Header.{header, Fits}
use Rattle.save_image.specs.Reading.{number_in, version_in, digest_by}
use Rattle.save_image.specs.Body.{bytes_of}

-- An image, apart from where it lies: its generation, the number of writes that its memory is after, the arm byte and
-- the memory.
pub record Image : Type 0 where
  pub generation : ℕ
  pub count : ℕ
  pub arm : ℕ
  pub memory : List (List ℕ)

-- an image that a slot of so many lines has room for
pub record IsImage (lines : ℕ) (image : Image) : Type 0 where
  pub fits : Fits image.generation image.count
  pub memory : IsMemory lines image.memory

-- the SHA-256 of the bytes of its memory
unfoldable pub digest_of : List (List ℕ) → List ℕ
digest_of memory = sha256 (bytes_of memory)

-- the digest in the header of an image of this memory
abbrev pub digest_for : Version → List (List ℕ) → Option (List ℕ)
digest_for One memory = None
digest_for Two memory = Some (digest_of memory)

-- its bytes in a version, with the gate open
unfoldable pub image_bytes : ℕ → Version → Image → List ℕ
image_bytes lines version image =
    header (digest_for version image.memory) 0xA5 image.arm image.generation image.count lines ++ bytes_of image.memory

-- what the fields of a page say
abbrev pub fields_of : List ℕ → Header
fields_of page =
    record { gate = slice_index page 0; arm = slice_index page 1; generation = number_in page 16; count = number_in page 24; digest = digest_by (version_in page) page }

-- the version of a header
abbrev pub version_of : Header → Version
version_of h = if is_some h.digest then Two else One

-- the bytes of a header that says so
abbrev pub header_of : Header → ℕ → List ℕ
header_of h lines = header h.digest h.gate h.arm h.generation h.count lines

-- `Fits` as a test
unfoldable pub fits : ℕ → ℕ → Bool
fits generation count = nat_lt 0 generation && (nat_lt generation (2 ^ 63) && nat_lt count (2 ^ 62 + 1))

-- The header that a page is, if it is one of an image of so many lines: the bytes of the page are those of a header that
-- says what its fields say, and the numbers fit.
unfoldable pub header_in : ℕ → List ℕ → Option Header
header_in lines page =
    if bytes_eq page (header_of (fields_of page) lines) && fits (number_in page 16) (number_in page 24)
    then Some (fields_of page) else None
