-- Bytes written into a page of zeros.
use Rattle.std.specs.Prelude.{◌≡◌, ℕ, ◌+◌, List, [], ◌∷◌, ◌++◌, take, drop, length, Option, Some, None}
use Rattle.std.proofs.Common.{refl, ap, sym, ◌∙◌, arith, append_assoc, length-append}
use Rattle.std.proofs.lemmas.List.{length-replicate, replicate-append-replicate, append-nil}
use Rattle.std.proofs.Math.Seq.{take-append_seam, drop-append_seam}
use Rattle.save_image.specs.Header.{zeros, le8, spliced, magic_1, magic_2, magic, tail, fields, header}

zeros-add : (m n : ℕ) → zeros (m + n) ≡ zeros m ++ zeros n
unfolding zeros
zeros-add m n = sym (replicate-append-replicate m n 0)

pub length-zeros : (n : ℕ) → length (zeros n) ≡ n
unfolding zeros
length-zeros n = length-replicate n 0

pub length-le8 : (n : ℕ) → length (le8 n) ≡ 8
unfolding le8
length-le8 n = refl

pub take_front : (xs ys : List ℕ) (n : ℕ) → length xs ≡ n → take n (xs ++ ys) ≡ xs
take_front xs ys n h = ap (λ i. take i (xs ++ ys)) (sym h) ∙ take-append_seam xs ys

pub drop_front : (xs ys : List ℕ) (n : ℕ) → length xs ≡ n → drop n (xs ++ ys) ≡ ys
drop_front xs ys n h = ap (λ i. drop i (xs ++ ys)) (sym h) ∙ drop-append_seam xs ys

splice_middle : (front old bytes back : List ℕ) (at : ℕ) → length front ≡ at → length old ≡ length bytes → spliced at bytes (front ++ old ++ back) ≡ front ++ bytes ++ back
splice_middle front old bytes back at h k =
    let t : take at (front ++ old ++ back) ≡ front = rw append_assoc (take_front front (old ++ back) at h) in
    let d : drop (at + length bytes) (front ++ old ++ back) ≡ back = drop_front (front ++ old) back (at + length bytes) (length-append front old ∙ (omega arith)) in
    rw (t, d) (sym (append_assoc front bytes back))

-- bytes written behind what is done and a gap
pub put_next : (done bytes : List ℕ) (at gap n rest : ℕ) → length done + gap ≡ at → n ≡ gap + (length bytes + rest) → spliced at bytes (done ++ zeros n) ≡ done ++ zeros gap ++ bytes ++ zeros rest
put_next done bytes at gap n rest h e =
    let parts : done ++ zeros n ≡ done ++ zeros gap ++ zeros (length bytes) ++ zeros rest =
    ap (λ k. done ++ zeros k) e ∙ ap (λ z. done ++ z) (zeros-add gap (length bytes + rest) ∙ ap (λ z. zeros gap ++ z) (zeros-add (length bytes) rest)) ∙ simp append_assoc in
    ap (spliced at bytes) parts ∙ splice_middle (done ++ zeros gap) (zeros (length bytes)) bytes (zeros rest) at (length-append done (zeros gap) ∙ ap (λ k. length done + k) (length-zeros gap) ∙ h) (length-zeros (length bytes))

-- the page after one more part, behind a gap
grown_past : (done bytes page next : List ℕ) (at gap n rest : ℕ) → page ≡ done ++ zeros n → next ≡ spliced at bytes page → length done + gap ≡ at → n ≡ gap + (length bytes + rest) → next ≡ done ++ zeros gap ++ bytes ++ zeros rest
grown_past done bytes page next at gap n rest p q h e = q ∙ ap (spliced at bytes) p ∙ put_next done bytes at gap n rest h e

zeros-none : (xs : List ℕ) → xs ++ zeros 0 ≡ xs
unfolding zeros
zeros-none xs = append-nil xs

-- and with no gap
grown : (done bytes page next : List ℕ) (at n rest : ℕ) → page ≡ done ++ zeros n → next ≡ spliced at bytes page → length done ≡ at → n ≡ length bytes + rest → next ≡ done ++ bytes ++ zeros rest
grown done bytes page next at n rest p q h e = grown_past done bytes page next at 0 n rest p q (omega arith) (omega arith) ∙ ap (λ z. z ++ bytes ++ zeros rest) (zeros-none done)

pub length-magic : (digest : Option (List ℕ)) → length (magic digest) ≡ 8
unfolding magic magic_1 magic_2
length-magic None = refl
length-magic (Some digest) = refl

-- the parts make the fields of a header
pub assembled : (p0 p1 p2 p3 p4 p5 text : List ℕ) (arm generation count lines : ℕ) → length text ≡ 8 → p0 ≡ zeros 4096 → p1 ≡ spliced 0 (0 ∷ arm ∷ []) p0 → p2 ≡ spliced 8 text p1 → p3 ≡ spliced 16 (le8 generation) p2 → p4 ≡ spliced 24 (le8 count) p3 → p5 ≡ spliced 32 (le8 lines) p4 → p5 ≡ fields 0 arm text generation count lines ++ zeros 4056
unfolding fields
assembled p0 p1 p2 p3 p4 p5 text arm generation count lines eight e0 e1 e2 e3 e4 e5 =
    let head : List ℕ = 0 ∷ arm ∷ [] in
    let d2 = head ++ zeros 6 ++ text in
    let d3 = d2 ++ le8 generation in
    let d4 = d3 ++ le8 count in
    let l2 : length d2 ≡ 16 = length-append (head ++ zeros 6) text ∙ (omega (arith, eight, length-append head (zeros 6), length-zeros 6)) in
    let l3 : length d3 ≡ 24 = length-append d2 (le8 generation) ∙ (omega (arith, length-le8 generation)) in
    let l4 : length d4 ≡ 32 = length-append d3 (le8 count) ∙ (omega (arith, length-le8 count)) in
    let g1 = grown [] head p0 p1 0 4096 4094 e0 e1 refl refl in
    let g2 = grown_past head text p1 p2 8 6 4094 4080 g1 e2 refl (omega (arith, eight)) in
    let g3 = grown d2 (le8 generation) p2 p3 16 4080 4072 g2 e3 l2 (omega (arith, length-le8 generation)) in
    let g4 = grown d3 (le8 count) p3 p4 24 4072 4064 g3 e4 l3 (omega (arith, length-le8 count)) in
    grown d4 (le8 lines) p4 p5 32 4064 4056 g4 e5 l4 (omega (arith, length-le8 lines))

pub length-fields : (gate arm : ℕ) (text : List ℕ) (generation count lines : ℕ) → length text ≡ 8 → length (fields gate arm text generation count lines) ≡ 40
unfolding fields
length-fields gate arm text generation count lines eight =
    let head : List ℕ = gate ∷ arm ∷ [] in
    let d2 = head ++ zeros 6 ++ text in
    let d3 = d2 ++ le8 generation in
    let d4 = d3 ++ le8 count in
    length-append d4 (le8 lines)
    ∙ omega (arith, length-le8 lines, length-append d3 (le8 count), length-le8 count, length-append d2 (le8 generation), length-le8 generation, length-append (head ++ zeros 6) text, eight, length-append head (zeros 6), length-zeros 6)

-- the digest behind the fields makes a header of version 2
pub digested : (page next digest : List ℕ) (arm generation count lines : ℕ) → length digest ≡ 32 → page ≡ fields 0 arm magic_2 generation count lines ++ zeros 4056 → next ≡ spliced 40 digest page → next ≡ header (Some digest) 0 arm generation count lines
unfolding header magic tail
digested page next digest arm generation count lines long p q =
    let front = fields 0 arm magic_2 generation count lines in
    grown front digest page next 40 4056 4024 p q (length-fields 0 arm magic_2 generation count lines (length-magic (Some digest))) (omega (arith, long))
    ∙ append_assoc front digest (zeros 4024)
