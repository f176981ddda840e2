-- Lines and their bytes.
use Rattle.std.proofs.Common.{◌≡◌, ℕ, zero, suc, ◌+◌, ◌*◌, ◌-◌, ◌≤◌, List, [], ◌∷◌, ◌++◌, length, take, drop, refl, sym, ◌∙◌, ap, arith, append_assoc}
use Rattle.std.specs.Prelude.{All, slice_range}
use Rattle.std.specs.List.{flat_map}
use Rattle.std.proofs.Math.Seq.{take-append_seam, drop-append_seam, take-add}
use Rattle.std.proofs.lemmas.List.{drop-drop, drop-take, take-take}
use Rattle.std.proofs.lemmas.List.Elements.{All-head, All-tail}
use Rattle.save_image.specs.Body.{bytes_of, lines_in}

pub flat_map-same : (lines : List (List ℕ)) → flat_map (λ x. x) lines ≡ bytes_of lines
flat_map-same [] = refl
flat_map-same (line ∷ lines) = ap (λ (bytes : List ℕ). line ++ bytes) (flat_map-same lines)

abbrev IsLine : List ℕ → Type 0
IsLine line = length line ≡ 64

take_line : (line rest : List ℕ) → length line ≡ 64 → take 64 (line ++ rest) ≡ line
take_line line rest long = ap (λ (n : ℕ). take n (line ++ rest)) (sym long) ∙ take-append_seam line rest

drop_line : (line rest : List ℕ) → length line ≡ 64 → drop 64 (line ++ rest) ≡ rest
drop_line line rest long = ap (λ (n : ℕ). drop n (line ++ rest)) (sym long) ∙ drop-append_seam line rest

-- the lines of the bytes of lines, whatever follows
pub lines_in-bytes_of : (lines : List (List ℕ)) (rest : List ℕ) → All (λ line. length line ≡ 64) lines → lines_in (length lines) (bytes_of lines ++ rest) ≡ lines
lines_in-bytes_of [] rest whole = refl
lines_in-bytes_of (line ∷ lines) rest whole =
    let long : length line ≡ 64 = All-head IsLine line lines whole in
    let parts : (line ++ bytes_of lines) ++ rest ≡ line ++ (bytes_of lines ++ rest) = append_assoc line (bytes_of lines) rest in
    let first : take 64 ((line ++ bytes_of lines) ++ rest) ≡ line = ap (take 64) parts ∙ take_line line (bytes_of lines ++ rest) long in
    let others : drop 64 ((line ++ bytes_of lines) ++ rest) ≡ bytes_of lines ++ rest = ap (drop 64) parts ∙ drop_line line (bytes_of lines ++ rest) long in
    let more : lines_in (length lines) (bytes_of lines ++ rest) ≡ lines = lines_in-bytes_of lines rest (All-tail IsLine line lines whole) in
    cc

-- some lines, and then the lines behind them
pub lines_in-add : (m n : ℕ) (bytes : List ℕ) → lines_in (m + n) bytes ≡ lines_in m bytes ++ lines_in n (drop (64 * m) bytes)
lines_in-add zero n bytes = ap (λ (k : ℕ). lines_in k bytes) (let e : 0 + n ≡ n = omega arith in e)
lines_in-add (suc m) n bytes =
    ap (λ (k : ℕ). lines_in k bytes) (let e : suc m + n ≡ suc (m + n) = omega arith in e)
    ∙ ap (λ (l : List (List ℕ)). take 64 bytes ∷ l) (lines_in-add m n (drop 64 bytes)
    ∙ ap (λ (d : List ℕ). lines_in m (drop 64 bytes) ++ lines_in n d) (drop-drop (64 * m) 64 bytes ∙ ap (λ (k : ℕ). drop k bytes) (let e : 64 + 64 * m ≡ 64 * suc m = omega arith in e)))

-- lines are in their own bytes
pub lines_in-take : (n m : ℕ) (bytes : List ℕ) → 64 * n ≤ m → lines_in n (take m bytes) ≡ lines_in n bytes
lines_in-take zero m bytes fits = refl
lines_in-take (suc n) m bytes fits =
    let rest : drop 64 (take m bytes) ≡ take (m - 64) (drop 64 bytes) = ap (λ (k : ℕ). drop 64 (take k bytes)) (let e : m ≡ 64 + (m - 64) = omega arith in e) ∙ drop-take 64 (m - 64) bytes in
    let first : take 64 (take m bytes) ≡ take 64 bytes = take-take 64 m bytes (omega arith) in
    let others : lines_in n (drop 64 (take m bytes)) ≡ lines_in n (drop 64 bytes) = ap (lines_in n) rest ∙ lines_in-take n (m - 64) (drop 64 bytes) (omega arith) in
    cc

-- the bytes of the lines of a row are the row's
pub bytes_of-lines_in : (n : ℕ) (bytes : List ℕ) → bytes_of (lines_in n bytes) ≡ take (64 * n) bytes
bytes_of-lines_in zero bytes = refl
bytes_of-lines_in (suc n) bytes =
    ap (λ (b : List ℕ). take 64 bytes ++ b) (bytes_of-lines_in n (drop 64 bytes)) ∙ sym (take-add 64 (64 * n) bytes)
    ∙ ap (λ (k : ℕ). take k bytes) (let e : 64 + 64 * n ≡ 64 * suc n = omega arith in e)

pub length-lines_in : (n : ℕ) (bytes : List ℕ) → length (lines_in n bytes) ≡ n
length-lines_in zero bytes = refl
length-lines_in (suc n) bytes = ap (λ (k : ℕ). suc k) (length-lines_in n (drop 64 bytes))

-- the lines of one page more
pub lines_in-page : (at page : ℕ) (bytes : List ℕ)
    → lines_in (64 * (page + 1)) (drop at bytes) ≡ lines_in (64 * page) (drop at bytes) ++ lines_in 64 (slice_range bytes (at + 4096 * page) (at + 4096 * page + 4096))
lines_in-page at page bytes =
    let here : ℕ = at + 4096 * page in
    ap (λ (n : ℕ). lines_in n (drop at bytes)) (let e : 64 * (page + 1) ≡ 64 * page + 64 = omega arith in e)
    ∙ lines_in-add (64 * page) 64 (drop at bytes)
    ∙ ap (λ (row : List ℕ). lines_in (64 * page) (drop at bytes) ++ lines_in 64 row) (drop-drop (64 * (64 * page)) at bytes ∙ ap (λ (k : ℕ). drop k bytes) (let e : at + 64 * (64 * page) ≡ at + 4096 * page = omega arith in e))
    ∙ ap (λ (l : List (List ℕ)). lines_in (64 * page) (drop at bytes) ++ l) (sym (ap (λ (n : ℕ). lines_in 64 (take n (drop here bytes))) (let e : here + 4096 - here ≡ 4096 = omega arith in e) ∙ lines_in-take 64 4096 (drop here bytes) (omega arith)))
