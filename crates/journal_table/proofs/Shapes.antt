-- The bytes of a record.
use Rattle.std.proofs.Common.{◌≡◌, ◌∙◌, ◌+◌, ◌<◌, ◌≤◌, inl, inr, ℕ, List, ◌∷◌, ◌++◌, length, take, drop, ap, arith, refl, subst, sym, drop-cons, get_or, length-drop}
use Rattle.std.specs.Prelude.{Bool, true, false, if◌then◌else◌}
use Rattle.std.specs.Int.{w64, from_le_bytes, to_le_bytes}
use Rattle.std.proofs.lemmas.Bool.{cases_lt}
use Rattle.std.proofs.lemmas.Grind.{get_or_after_one}
use Rattle.std.proofs.lemmas.List.{append-nil, drop_all, drop-drop, get_or-take, get_or_past, length-take-le, take-append-drop}
use Rattle.std.proofs.lemmas.Nat.{le_bytes_8}
use Rattle.table_log.specs.Changes.{Put, Remove, record_of}

-- bytes as a word, eight bytes, a key and a value
pub as_parts : (bytes : List ℕ) (n : ℕ) (d : ℕ) → 9 + n ≤ length bytes
    → bytes ≡ get_or bytes 0 d ∷ (take 8 (drop 1 bytes) ++ (take n (drop 9 bytes) ++ drop (9 + n) bytes))
as_parts bytes n d long =
    drop-cons bytes 0 d (omega (arith, long))
    ∙ ap (λ (rest : List ℕ). get_or bytes 0 d ∷ rest)
    (sym (take-append-drop 8 (drop 1 bytes))
    ∙ ap (λ (rest : List ℕ). take 8 (drop 1 bytes) ++ rest)
    (drop-drop 8 1 bytes ∙ sym (take-append-drop n (drop 9 bytes)) ∙ ap (λ (rest : List ℕ). take n (drop 9 bytes) ++ rest) (drop-drop n 9 bytes)))

-- eight bytes are those of their number
pub counted : (bytes : List ℕ) (count : ℕ) → 9 ≤ length bytes → ((i : ℕ) → get_or bytes i 0 < 256) → count ≡ from_le_bytes w64 (take 8 (drop 1 bytes)) → to_le_bytes w64 count ≡ take 8 (drop 1 bytes)
counted bytes count long fits is =
    le_bytes_8 (take 8 (drop 1 bytes)) count (length-take-le 8 (drop 1 bytes) (omega (arith, long, length-drop 1 bytes)))
    (λ i.
    elim (cases_lt i 8) [
      | inl less ↦ subst (λ (n : ℕ). n < 256) (sym (get_or-take 8 (drop 1 bytes) i 0 less ∙ get_or_after_one bytes i 0)) (fits (1 + i))
      | inr past ↦ subst (λ (n : ℕ). n < 256) (sym (get_or_past (take 8 (drop 1 bytes)) i 0 (omega (arith, past, length-take-le 8 (drop 1 bytes) (omega (arith, long, length-drop 1 bytes)))))) (omega arith)
    ])
    is

-- what bytes say, by their parts
module _ (bytes key value : List ℕ) (count : ℕ) (long : 9 + count ≤ length bytes) (eight : to_le_bytes w64 count ≡ take 8 (drop 1 bytes))
    (key_is : key ≡ take count (drop 9 bytes)) (value_is : value ≡ drop (9 + count) bytes) where
  abbrev word : ℕ
  word = get_or bytes 0 0

  length_is : length key ≡ count
  length_is = ap length key_is ∙ length-take-le count (drop 9 bytes) (omega (arith, long, length-drop 9 bytes))

  whole : bytes ≡ word ∷ (to_le_bytes w64 (length key) ++ (key ++ value))
  whole =
      as_parts bytes count 0 long
      ∙ ap (λ (l : List ℕ). word ∷ (l ++ (take count (drop 9 bytes) ++ drop (9 + count) bytes))) (sym eight ∙ ap (to_le_bytes w64) (sym length_is))
      ∙ ap (λ (k : List ℕ). word ∷ (to_le_bytes w64 (length key) ++ (k ++ drop (9 + count) bytes))) (sym key_is)
      ∙ ap (λ (v : List ℕ). word ∷ (to_le_bytes w64 (length key) ++ (key ++ v))) (sym value_is)

  put_said : word ≡ 1 → bytes ≡ record_of (Put key value)
  put_said is = whole ∙ ap (λ (w : ℕ). w ∷ (to_le_bytes w64 (length key) ++ (key ++ value))) is

  remove_said : word ≡ 0 → 9 + count ≡ length bytes → bytes ≡ record_of (Remove key)
  remove_said is all =
      whole
      ∙ ap (λ (w : ℕ). w ∷ (to_le_bytes w64 (length key) ++ (key ++ value))) is
      ∙ ap (λ (v : List ℕ). 0 ∷ (to_le_bytes w64 (length key) ++ (key ++ v))) (value_is ∙ drop_all (9 + count) bytes (omega (arith, all)))
      ∙ ap (λ (k : List ℕ). 0 ∷ (to_le_bytes w64 (length key) ++ k)) (append-nil key)

  pub said : (is_put : Bool) → (is_put ≡ true → word ≡ 1) → (is_put ≡ false → (word ≡ 0) × (9 + count ≡ length bytes))
      → bytes ≡ record_of (if is_put then Put key value else Remove key)
  said true put remove = put_said (put refl)
  said false put remove = remove_said (remove refl).0 (remove refl).1
