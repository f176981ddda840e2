-- A sound page is a header.
use Rattle.std.specs.Prelude.{◌≡◌, ℕ, ◌+◌, ◌-◌, ◌<◌, ◌≤◌, List, [], ◌∷◌, ◌++◌, drop, length, All, replicate, if◌then◌else◌}
use Rattle.std.specs.Str.{bytes_eq}
use Rattle.std.proofs.Common.{refl, ap, sym, ◌∙◌, arith, append_assoc, length-drop, length-take, zero, suc, get_or, zero-add, ⊎_elim, get_or-take, get_or-drop}
use Rattle.std.proofs.lemmas.Bool.{cases_lt}
use Rattle.std.specs.Int.{w64, from_le_bytes}
use Rattle.std.proofs.lemmas.Nat.{le_bytes_8}
use Rattle.std.proofs.lemmas.List.{take-append-drop, length-take-le, get_or_past}
use Rattle.std.proofs.Math.Seq.{drop-nil}
use Rattle.byteorder.specs.Endian.{little_number}
use Rattle.save_image.specs.Header.{zeros, le8, magic_1, magic_2, magic, tail, fields, header}
use Rattle.save_image.specs.Reading.{IsSound, HasMagic, HasPadding, number_in, version_in, digest_by, fields_end, part}
use Rattle.save_image.specs.declared.reading.Version.{Version}
use Rattle.save_image.specs.declared.reading.Version.TheVariants.{One, Two}

number_is : (xs : List ℕ) → little_number 8 xs ≡ from_le_bytes w64 xs
number_is xs = omega arith

pub le8_number : (xs : List ℕ) → length xs ≡ 8 → ((i : ℕ) → get_or xs i 0 < 256) → le8 (little_number 8 xs) ≡ xs
unfolding le8
le8_number xs n fits = le_bytes_8 xs (little_number 8 xs) n fits (number_is xs)

-- a later part begins further on
drop_on : (m n : ℕ) (page : List ℕ) → drop m (drop n page) ≡ drop (n + m) page
drop_on m zero page = ap (λ i. drop i page) (sym (zero-add m))
drop_on m (suc n) [] = drop-nil m ∙ sym (drop-nil (suc n + m))
drop_on m (suc n) (x ∷ xs) = drop_on m n xs ∙ ap (λ i. drop i (x ∷ xs)) (shift n m)
  where
    shift : (n m : ℕ) → suc (n + m) ≡ suc n + m
    shift n m = omega arith

drop_part : (a b : ℕ) (page : List ℕ) → a ≤ b → drop a page ≡ part a b page ++ drop b page
drop_part a b page l =
    sym (take-append-drop (b - a) (drop a page)) ∙ ap (λ r. part a b page ++ r) (drop_on (b - a) a page ∙ ap (λ i. drop i page) (let e : a + (b - a) ≡ b = omega arith in e))

length-part : (a b : ℕ) (page : List ℕ) → a ≤ b → b ≤ length page → length (part a b page) ≡ b - a
length-part a b page l k = length-take-le (b - a) (drop a page) (omega (arith, length-drop a page))

part_fits : (a b : ℕ) (page : List ℕ) → ((i : ℕ) → get_or page i 0 < 256) → (i : ℕ) → get_or (part a b page) i 0 < 256
part_fits a b page fits i = ⊎_elim
    (λ l. let e : get_or (part a b page) i 0 ≡ get_or page (a + i) 0 = get_or-take (b - a) (drop a page) i 0 l ∙ get_or-drop a page i 0 in omega (arith, fits (a + i)))
    (λ g. let e : get_or (part a b page) i 0 ≡ 0 = get_or_past (part a b page) i 0 (omega (arith, length-take (b - a) (drop a page))) in omega arith)
    (cases_lt i (b - a))

le8_part : (at : ℕ) (page : List ℕ) → at + 8 ≤ length page → ((i : ℕ) → get_or page i 0 < 256) → part at (at + 8) page ≡ le8 (number_in page at)
unfolding number_in
le8_part at page l fits = sym (le8_number (part at (at + 8) page) (length-part at (at + 8) page (omega arith) l ∙ (omega arith)) (part_fits at (at + 8) page fits))

all_zeros : (xs : List ℕ) → All (λ b. b ≡ 0) xs → xs ≡ replicate (length xs) 0
all_zeros [] a = refl
all_zeros (x ∷ xs) a =
    let first : x ≡ 0 = a 0 0 (omega arith) in
    let rest : xs ≡ replicate (length xs) 0 = all_zeros xs (λ k d l. a (suc k) d (omega arith)) in
    cc

zeros_from : (xs : List ℕ) (n : ℕ) → length xs ≡ n → All (λ b. b ≡ 0) xs → xs ≡ zeros n
unfolding zeros
zeros_from xs n l a = all_zeros xs a ∙ ap (λ k. replicate k 0) l

joined : {a b c d : List ℕ} → a ≡ b → c ≡ d → a ++ c ≡ b ++ d
joined p q = cc

first_two : (page : List ℕ) → 2 ≤ length page → page ≡ (get_or page 0 0 ∷ get_or page 1 0 ∷ []) ++ drop 2 page
first_two [] l = absurd (let bad : ⊥ = omega arith in bad)
first_two (x ∷ []) l = absurd (let bad : ⊥ = omega arith in bad)
first_two (x ∷ y ∷ ys) l = refl

pub version_one : (page : List ℕ) → part 8 16 page ≡ magic_1 → version_in page ≡ One
unfolding version_in magic_1 magic_2
version_one page is = ap (λ (text : List ℕ). if bytes_eq text magic_2 then Two else One) is

pub version_two : (page : List ℕ) → part 8 16 page ≡ magic_2 → version_in page ≡ Two
unfolding version_in magic_2
version_two page is = ap (λ (text : List ℕ). if bytes_eq text magic_2 then Two else One) is

-- the magic text is that of the version
magic_there : (page : List ℕ) → HasMagic page → part 8 16 page ≡ magic (digest_by (version_in page) page)
unfolding HasMagic magic
magic_there page has = ⊎_elim
    (λ one. one ∙ ap (λ (v : Version). magic (digest_by v page)) (sym (version_one page one)))
    (λ two. two ∙ ap (λ (v : Version). magic (digest_by v page)) (sym (version_two page two)))
    has

-- and so are the bytes behind the numbers
tail_there : (version : Version) (page : List ℕ) → length page ≡ 4096 → All (λ b. b ≡ 0) (drop (fields_end version) page) → drop 40 page ≡ tail (digest_by version page)
unfolding tail
tail_there One page l zero_there = zeros_from (drop 40 page) 4056 (length-drop 40 page ∙ (omega arith)) zero_there
tail_there Two page l zero_there =
    drop_part 40 72 page (omega arith)
    ∙ ap (λ r. part 40 72 page ++ r) (zeros_from (drop 72 page) 4024 (length-drop 72 page ∙ (omega arith)) zero_there)

-- a sound page of 4096 bytes is the header of what it says
pub found : (page : List ℕ) (lines : ℕ) → length page ≡ 4096 → ((i : ℕ) → get_or page i 0 < 256) → IsSound page lines
    → page ≡ header (digest_by (version_in page) page) (get_or page 0 0) (get_or page 1 0) (number_in page 16) (number_in page 24) lines
unfolding header fields HasPadding
found page lines l fits s =
    let digest = digest_by (version_in page) page in
    let head = get_or page 0 0 ∷ get_or page 1 0 ∷ [] in
    let p2 : part 2 8 page ≡ zeros 6 = zeros_from (part 2 8 page) 6 (length-part 2 8 page (omega arith) (omega arith)) s.has_padding.0 in
    let p8 : part 8 16 page ≡ magic digest = magic_there page s.has_magic in
    let p16 : part 16 24 page ≡ le8 (number_in page 16) = le8_part 16 page (omega arith) fits in
    let p24 : part 24 32 page ≡ le8 (number_in page 24) = le8_part 24 page (omega arith) fits in
    let p32 : part 32 40 page ≡ le8 lines = le8_part 32 page (omega arith) fits ∙ ap le8 s.has_lines in
    let p40 : drop 40 page ≡ tail digest = tail_there (version_in page) page l s.has_padding.1 in
    let d32 : drop 32 page ≡ le8 lines ++ tail digest = drop_part 32 40 page (omega arith) ∙ joined p32 p40 in
    let d24 : drop 24 page ≡ le8 (number_in page 24) ++ (le8 lines ++ tail digest) = drop_part 24 32 page (omega arith) ∙ joined p24 d32 in
    let d16 : drop 16 page ≡ le8 (number_in page 16) ++ (le8 (number_in page 24) ++ (le8 lines ++ tail digest)) = drop_part 16 24 page (omega arith) ∙ joined p16 d24 in
    let d8 : drop 8 page ≡ magic digest ++ (le8 (number_in page 16) ++ (le8 (number_in page 24) ++ (le8 lines ++ tail digest))) = drop_part 8 16 page (omega arith) ∙ joined p8 d16 in
    let d2 : drop 2 page ≡ zeros 6 ++ (magic digest ++ (le8 (number_in page 16) ++ (le8 (number_in page 24) ++ (le8 lines ++ tail digest)))) = drop_part 2 8 page (omega arith) ∙ joined p2 d8 in
    first_two page (omega arith) ∙ ap (λ r. head ++ r) d2 ∙ simp append_assoc
