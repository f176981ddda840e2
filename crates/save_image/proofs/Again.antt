-- What was written as a header is read as one, and nothing else is.
use Rattle.std.specs.Prelude.{◌≡◌, ◌&&◌, ℕ, ◌+◌, ◌-◌, ◌<◌, ◌^◌, List, [], ◌∷◌, ◌++◌, take, drop, length, All, slice_index, Bool, true, false, nat_lt, if◌then◌else◌, Option, Some, None, is_some, Result, Ok, Err, IfOk, IfErr, OnErr}
use Rattle.std.proofs.Common.{refl, ap, sym, ◌∙◌, arith, append_assoc, length-append, get_or, subst, inl, inr}
use Rattle.std.specs.Str.{bytes_eq}
use Rattle.std.proofs.lemmas.Slice.Eq.{bytes_eq-Decides}
use Rattle.std.specs.Int.{w64, from_le_bytes, to_le_bytes}
use Rattle.std.proofs.lemmas.Nat.{from_le_bytes-to_le_bytes_8}
use Rattle.std.proofs.lemmas.List.{drop-drop, get_or-replicate, length-replicate}
use Rattle.std.proofs.lemmas.Bool.Decides.{Decides-and, Decides-ltb}
use Rattle.std.specs.Bool.{Decides}
use Rattle.std.proofs.lemmas.Bool.{false_from_ne_true}
use Rattle.byteorder.specs.Endian.{little_number}
use Rattle.save_image.specs.declared.reading.HeaderFault.{HeaderFault}
use Rattle.save_image.specs.declared.reading.HeaderFault.TheVariants.{Magic, Lines, Generation, Count, Padding}
use Rattle.save_image.specs.declared.reading.Header.{Header}
use Rattle.save_image.specs.Header.{zeros, le8, magic, tail, fields, header, Fits}
use Rattle.save_image.specs.Reading.{IsSound, IsHeaderFault, HasMagic, HasPadding, number_in, version_in, digest_by, fields_end, part}
use Rattle.save_image.specs.declared.reading.Version.{Version}
use Rattle.save_image.specs.declared.reading.Version.TheVariants.{One, Two}
use Rattle.sha2.proofs.Facts256.{length-sha256}
use Rattle.save_image.specs.Body.{bytes_of}
use Rattle.save_image.specs.Image.{digest_for, digest_of, fits, fields_of, header_of, header_in, version_of}
use Rattle.save_image.proofs.Found.{found, version_one, version_two}
use Rattle.save_image.proofs.Pages.{length-zeros, length-le8, length-magic, take_front, drop_front}

part_middle : (front x back page : List ℕ) (a b : ℕ) → page ≡ front ++ (x ++ back) → length front ≡ a → b ≡ a + length x → part a b page ≡ x
part_middle front x back page a b is at to =
    ap (part a b) is ∙ ap (take (b - a)) (drop_front front (x ++ back) a at) ∙ take_front x back (b - a) (omega arith)

number_le8 : (n : ℕ) → n < 2 ^ 64 → little_number 8 (le8 n) ≡ n
unfolding le8
number_le8 n less = (let e : little_number 8 (le8 n) ≡ from_le_bytes w64 (to_le_bytes w64 n) = omega arith in e) ∙ from_le_bytes-to_le_bytes_8 n less

number_middle : (front back page : List ℕ) (at n : ℕ) → page ≡ front ++ (le8 n ++ back) → length front ≡ at → n < 2 ^ 64 → number_in page at ≡ n
unfolding number_in
number_middle front back page at n is h less =
    ap (little_number 8) (part_middle front (le8 n) back page at (at + 8) is h (omega (arith, length-le8 n))) ∙ number_le8 n less

zeros_are_zero : (n : ℕ) → All (λ b. b ≡ 0) (zeros n)
unfolding zeros
zeros_are_zero n = λ k d less. get_or-replicate n k 0 d (omega (arith, length-replicate {A = ℕ} n 0))

-- a page with the magic text of a digest, or of none, and what stands behind the numbers then
has_magic_of : (digest : Option (List ℕ)) (page : List ℕ) → part 8 16 page ≡ magic digest → HasMagic page
unfolding HasMagic magic
has_magic_of None page is = inl is
has_magic_of (Some digest) page is = inr is

digest_again : (digest : Option (List ℕ)) (page : List ℕ) → length (tail digest) ≡ 4056 → part 8 16 page ≡ magic digest → drop 40 page ≡ tail digest → digest_by (version_in page) page ≡ digest
unfolding magic tail
digest_again None page long is behind = ap (λ (v : Version). digest_by v page) (version_one page is)
digest_again (Some digest) page long is behind =
    let short : length digest ≡ 32 = omega (arith, long, length-append digest (zeros 4024), length-zeros 4024) in
    let there : part 40 72 page ≡ digest = ap (take 32) behind ∙ take_front digest (zeros 4024) 32 short in
    ap (λ (v : Version). digest_by v page) (version_two page is) ∙ ap (λ (bytes : List ℕ). let d : Option (List ℕ) = Some bytes in d) there

zeros_behind : (digest : Option (List ℕ)) (page : List ℕ) → length (tail digest) ≡ 4056 → part 8 16 page ≡ magic digest → drop 40 page ≡ tail digest → All (λ b. b ≡ 0) (drop (fields_end (version_in page)) page)
unfolding magic tail
zeros_behind None page long is behind =
    let P : List ℕ → Type 0 = All (λ b. b ≡ 0) in
    subst (λ (v : Version). P (drop (fields_end v) page)) (sym (version_one page is)) (subst P (sym behind) (zeros_are_zero 4056))
zeros_behind (Some digest) page long is behind =
    let P : List ℕ → Type 0 = All (λ b. b ≡ 0) in
    let short : length digest ≡ 32 = omega (arith, long, length-append digest (zeros 4024), length-zeros 4024) in
    let rest : drop 72 page ≡ zeros 4024 = sym (drop-drop 32 40 page) ∙ ap (drop 32) behind ∙ drop_front digest (zeros 4024) 32 short in
    subst (λ (v : Version). P (drop (fields_end v) page)) (sym (version_two page is)) (subst P (sym rest) (zeros_are_zero 4024))

module _ (digest : Option (List ℕ)) (gate arm generation count lines : ℕ) (page : List ℕ) (is : page ≡ header digest gate arm generation count lines) where
  a8 : List ℕ
  a8 = (gate ∷ arm ∷ []) ++ zeros 6

  l8 : length a8 ≡ 8
  unfolding a8
  l8 = length-append (gate ∷ arm ∷ []) (zeros 6) ∙ omega (arith, length-zeros 6)

  b16 : List ℕ
  b16 = le8 generation ++ (le8 count ++ (le8 lines ++ tail digest))

  whole : page ≡ a8 ++ (magic digest ++ b16)
  unfolding header fields a8 b16
  whole = is ∙ simp append_assoc

  l16 : length (a8 ++ magic digest) ≡ 16
  l16 = length-append a8 (magic digest) ∙ omega (arith, l8, length-magic digest)

  l24 : length (a8 ++ magic digest ++ le8 generation) ≡ 24
  l24 = length-append (a8 ++ magic digest) (le8 generation) ∙ omega (arith, l16, length-le8 generation)

  l32 : length (a8 ++ magic digest ++ le8 generation ++ le8 count) ≡ 32
  l32 = length-append (a8 ++ magic digest ++ le8 generation) (le8 count) ∙ omega (arith, l24, length-le8 count)

  l40 : length (a8 ++ magic digest ++ le8 generation ++ le8 count ++ le8 lines) ≡ 40
  l40 = length-append (a8 ++ magic digest ++ le8 generation ++ le8 count) (le8 lines) ∙ omega (arith, l32, length-le8 lines)

  at16 : page ≡ (a8 ++ magic digest) ++ (le8 generation ++ (le8 count ++ (le8 lines ++ tail digest)))
  unfolding b16
  at16 = whole ∙ simp append_assoc

  at24 : page ≡ (a8 ++ magic digest ++ le8 generation) ++ (le8 count ++ (le8 lines ++ tail digest))
  at24 = at16 ∙ simp append_assoc

  at32 : page ≡ (a8 ++ magic digest ++ le8 generation ++ le8 count) ++ (le8 lines ++ tail digest)
  at32 = at16 ∙ simp append_assoc

  at40 : page ≡ (a8 ++ magic digest ++ le8 generation ++ le8 count ++ le8 lines) ++ tail digest
  at40 = at16 ∙ simp append_assoc

  at2 : page ≡ (gate ∷ arm ∷ []) ++ (zeros 6 ++ (magic digest ++ b16))
  unfolding a8
  at2 = whole ∙ simp append_assoc

  magic_is : part 8 16 page ≡ magic digest
  magic_is = part_middle a8 (magic digest) b16 page 8 16 whole l8 (omega (arith, length-magic digest))

  tail_is : drop 40 page ≡ tail digest
  tail_is = ap (drop 40) at40 ∙ drop_front (a8 ++ magic digest ++ le8 generation ++ le8 count ++ le8 lines) (tail digest) 40 l40

  -- the page is as long as what stands behind the numbers
  tail_long : length page ≡ 4096 → length (tail digest) ≡ 4056
  tail_long long =
      let both = length-append (a8 ++ magic digest ++ le8 generation ++ le8 count ++ le8 lines) (tail digest) in
      omega (arith, long, ap length at40, both, l40)

  pub again_magic : HasMagic page
  again_magic = has_magic_of digest page magic_is

  pub again_digest : length page ≡ 4096 → digest_by (version_in page) page ≡ digest
  again_digest long = digest_again digest page (tail_long long) magic_is tail_is

  pub again_lines : lines < 2 ^ 64 → number_in page 32 ≡ lines
  again_lines less = number_middle (a8 ++ magic digest ++ le8 generation ++ le8 count) (tail digest) page 32 lines at32 l32 less

  pub again_generation : generation < 2 ^ 64 → number_in page 16 ≡ generation
  again_generation less = number_middle (a8 ++ magic digest) (le8 count ++ (le8 lines ++ tail digest)) page 16 generation at16 l16 less

  pub again_count : count < 2 ^ 64 → number_in page 24 ≡ count
  again_count less = number_middle (a8 ++ magic digest ++ le8 generation) (le8 lines ++ tail digest) page 24 count at24 l24 less

  pub again_padding : length page ≡ 4096 → HasPadding page
  unfolding HasPadding
  again_padding long =
      let P : List ℕ → Type 0 = All (λ b. b ≡ 0) in (
        subst P (sym (part_middle (gate ∷ arm ∷ []) (zeros 6) (magic digest ++ b16) page 2 8 at2 refl (omega (arith, length-zeros 6)))) (zeros_are_zero 6),
        zeros_behind digest page (tail_long long) magic_is tail_is,
      )

  pub again_gate : slice_index page 0 ≡ gate
  unfolding a8
  again_gate = ap (λ (xs : List ℕ). get_or xs 0 0) whole

  pub again_arm : slice_index page 1 ≡ arm
  unfolding a8
  again_arm = ap (λ (xs : List ℕ). get_or xs 1 0) whole

-- which test of the numbers has passed
fits_decides : (g c : ℕ) → Decides (fits g c) (((0 < g) × ((g < 2 ^ 63) × (c < 2 ^ 62 + 1))))
unfolding fits
fits_decides g c = Decides-and (nat_lt 0 g) (nat_lt g (2 ^ 63) && nat_lt c (2 ^ 62 + 1)) (Decides-ltb 0 g) (Decides-and (nat_lt g (2 ^ 63)) (nat_lt c (2 ^ 62 + 1)) (Decides-ltb g (2 ^ 63)) (Decides-ltb c (2 ^ 62 + 1)))

abbrev Said : ℕ → List ℕ → Type 0
Said lines page = (page ≡ header_of (fields_of page) lines) × ((0 < number_in page 16) × ((number_in page 16 < 2 ^ 63) × (number_in page 24 < 2 ^ 62 + 1)))

abbrev test_of : ℕ → List ℕ → Bool
test_of lines page = bytes_eq page (header_of (fields_of page) lines) && fits (number_in page 16) (number_in page 24)

said : (lines : ℕ) (page : List ℕ) → Decides (test_of lines page) (Said lines page)
said lines page = Decides-and (bytes_eq page (header_of (fields_of page) lines)) (fits (number_in page 16) (number_in page 24)) (bytes_eq-Decides page (header_of (fields_of page) lines)) (fits_decides (number_in page 16) (number_in page 24))

-- a page is read as a header only where it is one
said_sound : (lines : ℕ) (page : List ℕ) → length page ≡ 4096 → lines < 2 ^ 64 → Said lines page → IsSound page lines
said_sound lines page long less s =
    let h = fields_of page in
    record {
      has_magic = again_magic h.digest h.gate h.arm h.generation h.count lines page s.0;
      has_lines = again_lines h.digest h.gate h.arm h.generation h.count lines page s.0 less;
      has_generation = (s.1.0, s.1.1.0);
      has_count = omega (arith, s.1.1.1);
      has_padding = again_padding h.digest h.gate h.arm h.generation h.count lines page s.0 long;
    }

yes_in : (lines : ℕ) (page : List ℕ) → test_of lines page ≡ true → header_in lines page ≡ Some (fields_of page)
unfolding header_in
yes_in lines page t = ap (λ (b : Bool). if b then Some (fields_of page) else None) t

no_in : (lines : ℕ) (page : List ℕ) → test_of lines page ≡ false → header_in lines page ≡ None
unfolding header_in
no_in lines page t = ap (λ (b : Bool). if b then Some (fields_of page) else None) t

pub is_header : (lines : ℕ) (page : List ℕ) → page ≡ header_of (fields_of page) lines → IsSound page lines → header_in lines page ≡ Some (fields_of page)
is_header lines page is s = yes_in lines page ((said lines page).1 (is, (s.has_generation.0, (s.has_generation.1, omega (arith, s.has_count)))))

faulty : (page : List ℕ) (lines : ℕ) (fault : HeaderFault) → IsHeaderFault page lines fault → IsSound page lines → ⊥
faulty page lines Magic f s = f s.has_magic
faulty page lines Lines f s = f.1 s.has_lines
faulty page lines Generation f s = f.2 s.has_generation
faulty page lines Count f s = omega (arith, f.3, s.has_count)
faulty page lines Padding f s = f.4 s.has_padding

pub is_no_header : (lines : ℕ) (page : List ℕ) (fault : HeaderFault) → length page ≡ 4096 → lines < 2 ^ 64 → IsHeaderFault page lines fault → header_in lines page ≡ None
is_no_header lines page fault long less f =
    no_in lines page (false_from_ne_true (test_of lines page) (λ t. faulty page lines fault f (said_sound lines page long less ((said lines page).0 t))))

-- the fields of a header are those that it was written with
fields_again : (lines : ℕ) (page : List ℕ) (h : Header) → length page ≡ 4096 → page ≡ header_of h lines → Fits h.generation h.count → fields_of page ≡ h
fields_again lines page h long is f =
    let g : number_in page 16 ≡ h.generation = again_generation h.digest h.gate h.arm h.generation h.count lines page is (omega (arith, f.generation_fits)) in
    let c : number_in page 24 ≡ h.count = again_count h.digest h.gate h.arm h.generation h.count lines page is (omega (arith, f.count_fits)) in
    let g0 : slice_index page 0 ≡ h.gate = again_gate h.digest h.gate h.arm h.generation h.count lines page is in
    let a1 : slice_index page 1 ≡ h.arm = again_arm h.digest h.gate h.arm h.generation h.count lines page is in
    let d : digest_by (version_in page) page ≡ h.digest = again_digest h.digest h.gate h.arm h.generation h.count lines page is long in
    let same : fields_of page ≡ record { gate = h.gate; arm = h.arm; generation = h.generation; count = h.count; digest = h.digest } = cc in
    same

-- a header as it was written is read
pub read_again : (lines : ℕ) (page : List ℕ) (h : Header) → length page ≡ 4096 → page ≡ header_of h lines → Fits h.generation h.count → header_in lines page ≡ Some h
read_again lines page h long is f =
    let same : fields_of page ≡ h = fields_again lines page h long is f in
    let fits_page : Fits (number_in page 16) (number_in page 24) = subst (λ (x : Header). Fits x.generation x.count) (sym same) f in
    yes_in lines page ((said lines page).1 (is ∙ ap (λ (x : Header). header_of x lines) (sym same), (fits_page.some, (fits_page.generation_fits, omega (arith, fits_page.count_fits)))))
    ∙ ap (λ (x : Header). Some x) same

by_test : (lines : ℕ) (page : List ℕ) (h : Header) (b : Bool) → test_of lines page ≡ b → header_in lines page ≡ Some h → (page ≡ header_of h lines) × Fits h.generation h.count
by_test lines page h true t is =
    let same : Some (fields_of page) ≡ Some h = sym (yes_in lines page t) ∙ is in
    let fields : fields_of page ≡ h = cc in
    let s = (said lines page).0 t in
    let fits_page : Fits (number_in page 16) (number_in page 24) = record { some = s.1.0; generation_fits = s.1.1.0; count_fits = omega (arith, s.1.1.1) } in
    (s.0 ∙ ap (λ (x : Header). header_of x lines) fields, subst (λ (x : Header). Fits x.generation x.count) fields fits_page)
by_test lines page h false t is = let none : None ≡ Some h = sym (no_in lines page t) ∙ is in absurd (let bad : ⊥ = cc in bad)

-- what is read as a header is spelled as it
pub is_spelled : (lines : ℕ) (page : List ℕ) (h : Header) → header_in lines page ≡ Some h → (page ≡ header_of h lines) × Fits h.generation h.count
is_spelled lines page h is = by_test lines page h (test_of lines page) refl is

pub ok_header : (lines : ℕ) (page : List ℕ) (r : Result Header HeaderFault) → length page ≡ 4096 → ((i : ℕ) → get_or page i 0 < 256) → IfOk r (λ h. IsSound page lines × (h ≡ fields_of page)) → IfOk r (λ h. (page ≡ header_of h lines) × Fits h.generation h.count)
ok_header lines page (Ok h) l b f =
    let is : fields_of page ≡ h = sym f.1 in
    let fits_page : Fits (number_in page 16) (number_in page 24) = record { some = f.0.has_generation.0; generation_fits = f.0.has_generation.1; count_fits = f.0.has_count } in
    (found page lines l b f.0 ∙ ap (λ (x : Header). header_of x lines) is, subst (λ (x : Header). Fits x.generation x.count) is fits_page)
ok_header lines page (Err e) l b f = tt

pub ok_header_in : (lines : ℕ) (page : List ℕ) (r : Result Header HeaderFault) → length page ≡ 4096 → ((i : ℕ) → get_or page i 0 < 256) → IfOk r (λ h. IsSound page lines × (h ≡ fields_of page)) → IfOk r (λ h. header_in lines page ≡ Some h)
ok_header_in lines page (Ok h) l b f = is_header lines page (found page lines l b f.0) f.0 ∙ ap (λ (x : Header). Some x) (sym f.1)
ok_header_in lines page (Err e) l b f = tt

pub err_header_in : (lines : ℕ) (page : List ℕ) (r : Result Header HeaderFault) → length page ≡ 4096 → lines < 2 ^ 64 → IfErr r (IsHeaderFault page lines) → OnErr r (header_in lines page ≡ None)
err_header_in lines page (Ok h) long less f = tt
err_header_in lines page (Err e) long less f = is_no_header lines page e long less f

version_by : (version : Version) (page : List ℕ) → (if is_some (digest_by version page) then Two else One) ≡ version
version_by One page = refl
version_by Two page = refl

version_by_test : (lines : ℕ) (page : List ℕ) (h : Header) (b : Bool) → test_of lines page ≡ b → header_in lines page ≡ Some h → version_of h ≡ version_in page
version_by_test lines page h true t is =
    let same : Some (fields_of page) ≡ Some h = sym (yes_in lines page t) ∙ is in
    let said : fields_of page ≡ h = cc in
    ap version_of (sym said) ∙ version_by (version_in page) page
version_by_test lines page h false t is = let none : None ≡ Some h = sym (no_in lines page t) ∙ is in absurd (let bad : ⊥ = cc in bad)

-- the version of a header is that of its page's magic text
pub version_again : (lines : ℕ) (page : List ℕ) (h : Header) → header_in lines page ≡ Some h → version_of h ≡ version_in page
version_again lines page h is = version_by_test lines page h (test_of lines page) refl is

-- what is spelled as a header is read as it
pub only_header : (lines : ℕ) (page : List ℕ) (r : Result Header HeaderFault) (h : Header) → length page ≡ 4096 → lines < 2 ^ 64 → IfOk r (λ x. IsSound page lines × (x ≡ fields_of page)) → IfErr r (IsHeaderFault page lines)
    → page ≡ header_of h lines → Fits h.generation h.count → r ≡ Ok h
only_header lines page (Ok x) h long less f e is fits =
    ap (λ (y : Header). let r : Result Header HeaderFault = Ok y in r) (f.1 ∙ fields_again lines page h long is fits)
only_header lines page (Err fault) h long less f e is fits =
    let read : header_in lines page ≡ Some h = read_again lines page h long is fits in
    let none : header_in lines page ≡ None = is_no_header lines page fault long less e in
    absurd (let bad : ⊥ = cc in bad)

pub length-header : (digest : Option (List ℕ)) (gate arm generation count lines : ℕ) → length (tail digest) ≡ 4056 → length (header digest gate arm generation count lines) ≡ 4096
length-header digest gate arm generation count lines long =
    let page = header digest gate arm generation count lines in
    ap length (at40 digest gate arm generation count lines page refl)
    ∙ length-append (a8 digest gate arm generation count lines page refl ++ magic digest ++ le8 generation ++ le8 count ++ le8 lines) (tail digest)
    ∙ omega (arith, l40 digest gate arm generation count lines page refl, long)

-- the gate is the first byte
pub header-gate : (digest : Option (List ℕ)) (gate other arm generation count lines : ℕ) → header digest gate arm generation count lines ≡ gate ∷ drop 1 (header digest other arm generation count lines)
unfolding header fields
header-gate digest gate other arm generation count lines = refl

-- a digest has 32 bytes
pub length-digest_of : (memory : List (List ℕ)) → length (digest_of memory) ≡ 32
unfolding digest_of
length-digest_of memory = length-sha256 (bytes_of memory)

pub length-tail_of : (digest : List ℕ) → length digest ≡ 32 → length (tail (Some digest)) ≡ 4056
unfolding tail
length-tail_of digest long = length-append digest (zeros 4024) ∙ omega (arith, long, length-zeros 4024)

pub length-tail : (version : Version) (memory : List (List ℕ)) → length (tail (digest_for version memory)) ≡ 4056
unfolding tail digest_of
length-tail One memory = length-zeros 4056
length-tail Two memory = length-append (digest_of memory) (zeros 4024) ∙ omega (arith, length-sha256 (bytes_of memory), length-zeros 4024)
