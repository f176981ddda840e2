-- Numbers and bytes as words.
use Rattle.std.proofs.Common.{◌≡◌, ◌≢◌, ◌∙◌, ℕ, ◌+◌, ◌*◌, ◌^◌, ◌<◌, List, [], ◌∷◌, ◌++◌, All, map, codes, Option, Some, None, Result, Ok, Err, refl, sym, ap, subst, arith, slice_index_or}
use Rattle.std.specs.Int.{IsInRange}
use Rattle.std.specs.Str.Parse.{ParsesUnsigned, digits_value}
use Rattle.std.proofs.lemmas.List.Elements.{All-cons, All-head, All-nil, All-tail}
use Rattle.std.proofs.lemmas.Str.Parse.{IsDigitsTest, IsNumeralModel, numerals_by_value, parse_gives}
use Rattle.hex.specs.Hex.{decode_pairs, decode_sized, hex_digit_value}
use Rattle.hex.specs.declared.error.FromHexError.{FromHexError}
use Rattle.hex.proofs.HexLemmas.{decode_sized-ok}
use Rattle.save_device.specs.declared.memory.Pick.TheVariants.{Old, New, Torn}
use Rattle.nv_profile.specs.Nothing.{HoldsOfNone}
use Rattle.ddr4_timing.specs.declared.timing.Geometry.{Geometry}
use Rattle.nv_script.specs.declared.line.ScriptLine.TheVariants as line
use Rattle.nv_script.specs.Words.{IsByte, IsNumber, IsPick, SaysWithTwo}

digits_test : IsDigitsTest (All (IsInRange 48 57))
digits_test = record {
  empty = All-nil (IsInRange 48 57);
  parts = λ c cs all. (All-head (IsInRange 48 57) c cs all, All-tail (IsInRange 48 57) c cs all);
  more = λ c cs digit all. All-cons (IsInRange 48 57) c cs digit all;
}

own : IsNumeralModel (All (IsInRange 48 57)) (digits_value 10)
own = numerals_by_value (All (IsInRange 48 57)) digits_test

-- a word that `parse` refuses is no number
pub no_number : {E : Type 0} (word : List ℕ) (result : Result ℕ E) (error : E) → ParsesUnsigned 64 10 word result → result ≡ Err error → HoldsOfNone (IsNumber word)
no_number word result error parses is number said =
    let gives : result ≡ Ok (digits_value 10 word) = parse_gives own 64 word result parses said.digits said.some (subst (λ (n : ℕ). n < 2 ^ 64) said.value said.fits) in
    absurd cc

-- the value of two digits
two_digits : (a b : ℕ) (h l : Option ℕ) → hex_digit_value a ≡ h → hex_digit_value b ≡ l → (bytes : List ℕ) → decode_pairs 0 (a ∷ b ∷ []) ≡ Ok bytes → IsByte (a ∷ b ∷ []) (slice_index_or bytes 0 0)
unfolding decode_pairs
two_digits a b (Some h) (Some l) first second bytes e =
    let is : Ok ((h * 16 + l) ∷ []) ≡ Ok bytes = rw (first, second) at e in
    let items : bytes ≡ (h * 16 + l) ∷ [] = cc in
    record { high = h; low = l; digits = cc; value = ap (λ (bs : List ℕ). slice_index_or bs 0 0) items }
two_digits a b (Some h) None first second bytes e = let none = rw (first, second) at e in absurd cc
two_digits a b None l first second bytes e = let none = rw first at e in absurd cc

pub byte_read : (word bytes : List ℕ) → decode_sized word 1 ≡ Ok bytes → IsByte word (slice_index_or bytes 0 0)
byte_read [] bytes e = absurd (omega (arith, decode_sized-ok [] 1 bytes e))
byte_read (a ∷ []) bytes e = absurd (omega (arith, decode_sized-ok (a ∷ []) 1 bytes e))
byte_read (a ∷ b ∷ []) bytes e = two_digits a b (hex_digit_value a) (hex_digit_value b) refl refl bytes e
byte_read (a ∷ b ∷ c ∷ more) bytes e = absurd (omega (arith, decode_sized-ok (a ∷ b ∷ c ∷ more) 1 bytes e))

no_digits : (a b : ℕ) (error : FromHexError) (high low : ℕ) → hex_digit_value a ≡ Some high → hex_digit_value b ≡ Some low → decode_pairs 0 (a ∷ b ∷ []) ≢ Err error
unfolding decode_pairs
no_digits a b error high low first second e = let none = rw (first, second) at e in absurd cc

pub no_byte : (word : List ℕ) (error : FromHexError) → decode_sized word 1 ≡ Err error → HoldsOfNone (IsByte word)
no_byte [] error e byte said = let digits = said.digits in absurd cc
no_byte (a ∷ []) error e byte said = let digits = said.digits in absurd cc
no_byte (a ∷ b ∷ []) error e byte said =
    let digits = said.digits in
    let first : hex_digit_value a ≡ Some said.high = cc in
    let second : hex_digit_value b ≡ Some said.low = cc in
    no_digits a b error said.high said.low first second e
no_byte (a ∷ b ∷ c ∷ more) error e byte said = let digits = said.digits in absurd cc

-- a word that begins as a torn pick and goes on with no byte is no pick
pub no_pick : (word rest : List ℕ) → word ≢ codes "old" → word ≢ codes "new" → word ≡ codes "torn" ++ rest → HoldsOfNone (IsByte rest) → HoldsOfNone (IsPick word)
no_pick word rest not_old not_new is none Old said = not_old said
no_pick word rest not_old not_new is none New said = not_new said
no_pick word rest not_old not_new is none (Torn byte) said =
    let same : codes "torn" ++ said.0 ≡ codes "torn" ++ rest = sym said.1 ∙ is in
    let rest_is : said.0 ≡ rest = cc in
    none byte (subst (λ (word : List ℕ). IsByte word byte) rest_is said.2)

-- nor is a line filled by such a word
pub no_filled_line : (geometry : Geometry) (verb first second : List ℕ) → verb ≡ codes "write" → HoldsOfNone (IsByte second) → HoldsOfNone (SaysWithTwo geometry verb first second)
no_filled_line geometry verb first second is none (line.Write write) said = none said.2.0 said.2.1
no_filled_line geometry verb first second is none (line.Work channel most) said = let other = said.0 in absurd cc
no_filled_line geometry verb first second is none (line.Restore (Some pick) (Some map)) said = let other = said.0 in absurd cc
no_filled_line geometry verb first second is none other said = absurd said
