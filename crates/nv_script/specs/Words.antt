-- The words of a line of a script, and which line they say.
use Rattle.std.specs.Prelude.{◌≡◌, ◌≢◌, ℕ, ◌+◌, ◌*◌, ◌^◌, ◌<◌, ◌==◌, not, List, [], ◌∷◌, ◌++◌, length, map, filter, replicate, codes, All, Option, Some, None}
use Rattle.std.specs.Borrow.{Bor}
use Rattle.std.specs.Int.{IsInRange}
use Rattle.std.specs.List.{slice_split}
use Rattle.std.specs.Str.Parse.{digits_value}
use Rattle.hex.specs.Hex.{hex_digit_value}
use Rattle.line_memory.specs.declared.line.TheConstants.{LINE_BYTES}
use Rattle.ddr4_timing.specs.declared.timing.Geometry.{Geometry}
use Rattle.interleave_map.specs.Ready.{text_of}
use Rattle.save_device.specs.declared.memory.Pick.{Pick}
use Rattle.save_device.specs.declared.memory.Pick.TheVariants.{Old, New, Torn}
use Rattle.nv_script.specs.declared.line.ScriptLine.{ScriptLine}
use Rattle.nv_script.specs.declared.line.ScriptLine.TheVariants as line

-- what stands between the spaces of a line, where that is something
abbrev pub words_in : List ℕ → List (List ℕ)
words_in text = filter (λ word. not (length word == 0)) (slice_split (λ byte. byte == 32) text)

abbrev pub texts_of : List (Bor (List ℕ)) → List (List ℕ)
texts_of words = map (λ word. word.now) words

-- a number: decimal digits and nothing else, that fit 64 bits
pub record IsNumber (word : List ℕ) (number : ℕ) : Type 0 where
  pub some : 0 < length word
  pub digits : All (IsInRange 48 57) word
  pub value : number ≡ digits_value 10 word
  pub fits : number < 2 ^ 64

-- one from 1 on
abbrev pub IsOrdinal : List ℕ → ℕ → Type 0
IsOrdinal word number = IsNumber word number × (0 < number)

-- a byte: two hexadecimal digits, the higher one first
pub record IsByte (word : List ℕ) (byte : ℕ) : Type 0 where
  pub high : ℕ
  pub low : ℕ
  pub digits : map hex_digit_value word ≡ Some high ∷ Some low ∷ []
  pub value : byte ≡ high * 16 + low

-- what a stop leaves: `old`, `new`, or `torn` and a byte right behind it
abbrev pub IsPick : List ℕ → Pick → Type 0
IsPick word Old = word ≡ codes "old"
IsPick word New = word ≡ codes "new"
IsPick word (Torn byte) = (digits : List ℕ) × (word ≡ codes "torn" ++ digits) × IsByte digits byte

-- a line of so many equal bytes
abbrev pub FillsLine : List ℕ → List ℕ → Type 0
FillsLine word bytes = (byte : ℕ) × IsByte word byte × (bytes ≡ replicate LINE_BYTES byte)

-- the calls that a fuse passes: a number, or all by `off`
abbrev pub IsFuse : List ℕ → Option ℕ → Type 0
IsFuse word None = word ≡ codes "off"
IsFuse word (Some calls) = (word ≢ codes "off") × IsNumber word calls

-- a word alone says this line
abbrev pub SaysAlone : List ℕ → ScriptLine → Type 0
SaysAlone verb line.Format = verb ≡ codes "format"
SaysAlone verb line.Arm = verb ≡ codes "arm"
SaysAlone verb line.Disarm = verb ≡ codes "disarm"
SaysAlone verb line.Save = verb ≡ codes "save"
SaysAlone verb line.Step = verb ≡ codes "step"
SaysAlone verb line.Lose = verb ≡ codes "lose"
SaysAlone verb line.Mark = verb ≡ codes "mark"
SaysAlone verb (line.Restore None None) = verb ≡ codes "restore"
SaysAlone verb other = ⊥

-- with one word behind it
abbrev pub SaysWithOne : List ℕ → List ℕ → ScriptLine → Type 0
SaysWithOne verb word (line.Read at) = (verb ≡ codes "read") × IsNumber word at
SaysWithOne verb word (line.Sense level) = (verb ≡ codes "sense") × IsNumber word level
SaysWithOne verb word (line.Lie units) = (verb ≡ codes "lie") × IsNumber word units
SaysWithOne verb word (line.Fuse calls) = (verb ≡ codes "fuse") × IsFuse word calls
SaysWithOne verb word (line.OneFault call) = (verb ≡ codes "onefault") × IsOrdinal word call
SaysWithOne verb word (line.Restore (Some pick) None) = (verb ≡ codes "restore") × IsPick word pick
SaysWithOne verb word other = ⊥

-- with two
abbrev pub SaysWithTwo : Geometry → List ℕ → List ℕ → List ℕ → ScriptLine → Type 0
SaysWithTwo geometry verb first second (line.Write write) = (verb ≡ codes "write") × IsNumber first write.line × FillsLine second write.data
SaysWithTwo geometry verb first second (line.Work channel most) =
    (verb ≡ codes "work") × (IsNumber first channel × (channel < geometry.channels)) × IsNumber second most
SaysWithTwo geometry verb first second (line.Restore (Some pick) (Some map)) = (verb ≡ codes "restore") × IsPick first pick × (second ≡ text_of map)
SaysWithTwo geometry verb first second other = ⊥

-- these words say this line to a module of this geometry
abbrev pub SaysLine : Geometry → List (List ℕ) → ScriptLine → Type 0
SaysLine geometry (verb ∷ []) line = SaysAlone verb line
SaysLine geometry (verb ∷ word ∷ []) line = SaysWithOne verb word line
SaysLine geometry (verb ∷ first ∷ second ∷ []) line = SaysWithTwo geometry verb first second line
SaysLine geometry words line = ⊥
