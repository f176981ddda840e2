-- What a page has to hold to be a header, in the order in which a reader looks.
use Rattle.std.specs.Prelude.{◌≡◌, ◌≢◌, ◌⊎◌, ℕ, ◌+◌, ◌-◌, ◌<◌, ◌≤◌, ◌^◌, List, take, drop, All, Option, Some, None, if◌then◌else◌}
use Rattle.std.specs.Str.{bytes_eq}
use Rattle.byteorder.specs.Endian.{little_number}
use Rattle.save_image.specs.Header.{magic_1, magic_2}
use Rattle.save_image.specs.declared.reading.Version.{Version}
use Rattle.save_image.specs.declared.reading.Version.TheVariants.{One, Two}
use Rattle.save_image.specs.declared.reading.HeaderFault.{HeaderFault}
use Rattle.save_image.specs.declared.reading.HeaderFault.TheVariants.{Magic, Lines, Generation, Count, Padding}

-- the bytes from a place to another
abbrev pub part : ℕ → ℕ → List ℕ → List ℕ
part from to page = take (to - from) (drop from page)

-- the number in the eight bytes from a place on
unfoldable pub number_in : List ℕ → ℕ → ℕ
number_in page at = little_number 8 (part at (at + 8) page)

-- the magic text of one of the versions
unfoldable pub HasMagic : List ℕ → Type 0
HasMagic page = (part 8 16 page ≡ magic_1) ⊎ (part 8 16 page ≡ magic_2)

-- which of them it is
unfoldable pub version_in : List ℕ → Version
version_in page = if bytes_eq (part 8 16 page) magic_2 then Two else One

-- the digest, which stands in a page of version 2
abbrev pub digest_by : Version → List ℕ → Option (List ℕ)
digest_by One page = None
digest_by Two page = Some (part 40 72 page)

-- where nothing but zeros follows
abbrev pub fields_end : Version → ℕ
fields_end One = 40
fields_end Two = 72

abbrev pub HasGeneration : List ℕ → Type 0
HasGeneration page = (0 < number_in page 16) × (number_in page 16 < 2 ^ 63)

unfoldable pub HasPadding : List ℕ → Type 0
HasPadding page =
    All (λ b. b ≡ 0) (part 2 8 page) × All (λ b. b ≡ 0) (drop (fields_end (version_in page)) page)

-- nothing is wrong with the page, whatever its first two bytes
pub record IsSound (page : List ℕ) (lines : ℕ) : Type 0 where
  pub has_magic : HasMagic page
  pub has_lines : number_in page 32 ≡ lines
  pub has_generation : HasGeneration page
  pub has_count : number_in page 24 ≤ 2 ^ 62
  pub has_padding : HasPadding page

-- the first thing that is wrong with the page
abbrev pub IsHeaderFault : List ℕ → ℕ → HeaderFault → Type 0
IsHeaderFault page lines Magic = ¬ HasMagic page
IsHeaderFault page lines Lines = HasMagic page × (number_in page 32 ≢ lines)
IsHeaderFault page lines Generation = HasMagic page × (number_in page 32 ≡ lines) × ¬ HasGeneration page
IsHeaderFault page lines Count = HasMagic page × (number_in page 32 ≡ lines) × HasGeneration page × (2 ^ 62 < number_in page 24)
IsHeaderFault page lines Padding = HasMagic page × (number_in page 32 ≡ lines) × HasGeneration page × (number_in page 24 ≤ 2 ^ 62) × ¬ HasPadding page
