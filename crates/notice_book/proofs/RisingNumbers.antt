-- Lists of entries whose numbers rise: where a mark or a new number falls.
use Rattle.std.specs.Prelude.{◌≡◌, ◌≢◌, ℕ, insert, ◌+◌, ◌<◌, ◌≤◌, List, [], ◌∷◌, ◌++◌, map, length, nat_lt, nat_le, slice_index, true, false}
use Rattle.std.specs.List.{AllByRecursion}
use Rattle.std.specs.List.Sorted.{IsStrictlyIncreasing}
use Rattle.std.proofs.Common.{refl, zero, suc, arith, take, drop, get_or, ap, sym, add-one, subst}
use Rattle.std.proofs.lemmas.Bool.Decides.{nat_tests}
use Rattle.notice_book.specs.declared.entry.Called.{Called}
use Rattle.notice_book.specs.Numbered.{AnswersEach, IsNumberFree, due_entries, later_entries}

test_true : (m n : ℕ) → m < n → nat_lt m n ≡ true
test_true m n l = grind (arith, nat_tests)

test_false : (m n : ℕ) → n ≤ m → nat_lt m n ≡ false
test_false m n l = grind (arith, nat_tests)

le_true : (m n : ℕ) → m ≤ n → nat_le m n ≡ true
le_true m n l = grind (arith, nat_tests)

le_false : (m n : ℕ) → n < m → nat_le m n ≡ false
le_false m n l = grind (arith, nat_tests)

module _ {E : Type 0} where
  -- what follows from a fact of each
  all_weaker : (P Q : E → Type 0) → ((e : E) → P e → Q e) → (xs : List E) → AllByRecursion P xs → AllByRecursion Q xs
  all_weaker P Q f [] a = tt
  all_weaker P Q f (x ∷ xs) a = (f x a.0, all_weaker P Q f xs a.1)

  -- one more of which it holds
  all_insert : (P : E → Type 0) (n : ℕ) (xs : List E) (e : E) → P e → AllByRecursion P xs → AllByRecursion P (insert xs n e)
  all_insert P zero xs e h a = (h, a)
  all_insert P (suc n) [] e h a = (h, tt)
  all_insert P (suc n) (x ∷ xs) e h a = (a.0, all_insert P n xs e h a.1)

module _ {E : Type 0} (number : E → ℕ) where
  pub rising_tail : (x : E) (xs : List E) → IsStrictlyIncreasing (map number (x ∷ xs)) → IsStrictlyIncreasing (map number xs)
  rising_tail x xs h k l =
      let at : slice_index (map number xs) k < slice_index (number x ∷ map number xs) (suc k + 1) = h (suc k) (omega arith) in
      let e : suc k + 1 ≡ suc (k + 1) = omega arith in
      subst (λ i. slice_index (map number xs) k < slice_index (number x ∷ map number xs) i) e at

  pub rising_drop : (n : ℕ) (xs : List E) → IsStrictlyIncreasing (map number xs) → IsStrictlyIncreasing (map number (drop n xs))
  rising_drop zero xs h = h
  rising_drop (suc n) [] h = h
  rising_drop (suc n) (x ∷ xs) h = rising_drop n xs (rising_tail x xs h)

  -- where the first is not below the mark, none is
  pub rising_above : (mark : ℕ) (x : E) (xs : List E) → IsStrictlyIncreasing (map number (x ∷ xs)) → mark ≤ number x → AllByRecursion (λ e. mark ≤ number e) (x ∷ xs)
  rising_above mark x [] h l = (l, tt)
  rising_above mark x (y ∷ ys) h l = (l, rising_above mark y ys (rising_tail x (y ∷ ys) h) (let more : number x < number y = h 0 (omega arith) in omega arith))

  -- the same from a place on
  pub rising_from : (mark n : ℕ) (xs : List E) (x : E) → IsStrictlyIncreasing (map number xs) → n < length xs → x ≡ get_or xs n x → mark ≤ number x → AllByRecursion (λ e. mark ≤ number e) (drop n xs)
  rising_from mark n [] x h l e m = absurd (let bad : ⊥ = omega arith in bad)
  rising_from mark zero (y ∷ ys) x h l e m = rising_above mark y ys h (let same : number x ≡ number y = ap number e in omega arith)
  rising_from mark (suc n) (y ∷ ys) x h l e m = rising_from mark n ys x (rising_tail y ys h) (omega arith) e m

  -- a list that rises below one more number
  pub rising_push : (xs : List E) (e : E) → IsStrictlyIncreasing (map number xs) → AllByRecursion (λ x. number x < number e) xs → IsStrictlyIncreasing (map number (xs ++ e ∷ []))
  rising_push [] e h a k l = absurd (let bad : ⊥ = omega arith in bad)
  rising_push (x ∷ []) e h a zero l = a.0
  rising_push (x ∷ []) e h a (suc k) l = absurd (let bad : ⊥ = omega arith in bad)
  rising_push (x ∷ y ∷ ys) e h a zero l = h 0 (omega arith)
  rising_push (x ∷ y ∷ ys) e h a (suc k) l =
      let rest = rising_push (y ∷ ys) e (rising_tail x (y ∷ ys) h) a.1 k (omega arith) in
      let same : suc (k + 1) ≡ suc k + 1 = omega arith in
      subst (λ i. slice_index (map number (y ∷ ys ++ e ∷ [])) k < slice_index (number x ∷ map number (y ∷ ys ++ e ∷ [])) i) same rest

  -- one in front of greater ones
  rising_cons : (x : E) (xs : List E) → IsStrictlyIncreasing (map number xs) → AllByRecursion (λ y. number x < number y) xs → IsStrictlyIncreasing (map number (x ∷ xs))
  rising_cons x [] h a k l = absurd (let bad : ⊥ = omega arith in bad)
  rising_cons x (y ∷ ys) h a zero l = a.0
  rising_cons x (y ∷ ys) h a (suc k) l =
      let rest : slice_index (map number (y ∷ ys)) k < slice_index (map number (y ∷ ys)) (k + 1) = h k (omega arith) in
      let same : suc (k + 1) ≡ suc k + 1 = omega arith in
      subst (λ i. slice_index (map number (y ∷ ys)) k < slice_index (number x ∷ map number (y ∷ ys)) i) same rest

  -- those behind the first are greater
  rising_behind : (x : E) (xs : List E) → IsStrictlyIncreasing (map number (x ∷ xs)) → AllByRecursion (λ y. number x < number y) xs
  rising_behind x [] h = tt
  rising_behind x (y ∷ ys) h =
      let more : number x < number y = h 0 (omega arith) in
      (more, all_weaker (λ z. number y < number z) (λ z. number x < number z) (λ z l. omega (arith, more, l)) ys (rising_behind y ys (rising_tail x (y ∷ ys) h)))

  -- a new number between the smaller and the greater ones
  pub rising_insert : (n : ℕ) (xs : List E) (e : E) → IsStrictlyIncreasing (map number xs) → AllByRecursion (λ x. number x < number e) (take n xs) → AllByRecursion (λ x. number e < number x) (drop n xs) → IsStrictlyIncreasing (map number (insert xs n e))
  rising_insert zero xs e h b a = rising_cons e xs h a
  rising_insert (suc n) [] e h b a = rising_cons e [] h tt
  rising_insert (suc n) (x ∷ xs) e h b a =
      rising_cons x (insert xs n e) (rising_insert n xs e (rising_tail x xs h) b.1 a) (all_insert (λ y. number x < number y) n xs e b.0 (rising_behind x xs h))

  -- those from a place on are greater where the one there is no equal
  pub behind_place : (wanted n : ℕ) (xs : List E) (x : E) → IsStrictlyIncreasing (map number xs) → AllByRecursion (λ e. wanted ≤ number e) (drop n xs) → x ≡ get_or xs n x → number x ≢ wanted → AllByRecursion (λ e. wanted < number e) (drop n xs)
  behind_place wanted zero [] x h a is other = tt
  behind_place wanted zero (y ∷ ys) x h a is other =
      let least : wanted < number y = let l = a.0 in let same : number x ≡ number y = ap number is in omega (arith, l, same, other) in
      (least, all_weaker (λ z. number y < number z) (λ z. wanted < number z) (λ z l. omega (arith, least, l)) ys (rising_behind y ys h))
  behind_place wanted (suc n) [] x h a is other = tt
  behind_place wanted (suc n) (y ∷ ys) x h a is other = behind_place wanted n ys x (rising_tail y ys h) a is other

  -- a number that has a place is free
  pub free_number : (wanted n : ℕ) (xs : List E) → AllByRecursion (λ e. number e < wanted) (take n xs) → AllByRecursion (λ e. wanted < number e) (drop n xs) → IsNumberFree number wanted xs
  free_number wanted zero xs b a = all_weaker (λ e. wanted < number e) (λ e. number e ≢ wanted) (λ e l same. omega (arith, l, same)) xs a
  free_number wanted (suc n) [] b a = tt
  free_number wanted (suc n) (x ∷ xs) b a = ((λ same. let l = b.0 in omega (arith, l, same)), free_number wanted n xs b.1 a)

  front_filter : (mark : ℕ) (xs : List E) → AllByRecursion (λ e. mark ≤ number e) xs → due_entries number mark xs ≡ []
  front_filter mark [] a = refl
  front_filter mark (x ∷ xs) a = let f : nat_lt (number x) mark ≡ false = test_false (number x) mark a.0 in rw f (front_filter mark xs a.1)

  back_filter : (mark : ℕ) (xs : List E) → AllByRecursion (λ e. mark ≤ number e) xs → later_entries number mark xs ≡ xs
  back_filter mark [] a = refl
  back_filter mark (x ∷ xs) a = let t : nat_le mark (number x) ≡ true = le_true mark (number x) a.0 in rw t (ap (λ ys. x ∷ ys) (back_filter mark xs a.1))

  -- the elements below the mark are the first n
  pub filter_below : (mark n : ℕ) (xs : List E) → AllByRecursion (λ e. number e < mark) (take n xs) → AllByRecursion (λ e. mark ≤ number e) (drop n xs) → due_entries number mark xs ≡ take n xs
  filter_below mark zero xs b a = front_filter mark xs a
  filter_below mark (suc n) [] b a = refl
  filter_below mark (suc n) (x ∷ xs) b a = let t : nat_lt (number x) mark ≡ true = test_true (number x) mark b.0 in rw t (ap (λ ys. x ∷ ys) (filter_below mark n xs b.1 a))

  -- and the others are what follows
  pub filter_above : (mark n : ℕ) (xs : List E) → AllByRecursion (λ e. number e < mark) (take n xs) → AllByRecursion (λ e. mark ≤ number e) (drop n xs) → later_entries number mark xs ≡ drop n xs
  filter_above mark zero xs b a = back_filter mark xs a
  filter_above mark (suc n) [] b a = refl
  filter_above mark (suc n) (x ∷ xs) b a = let f : nat_le mark (number x) ≡ false = le_false mark (number x) b.0 in rw f (filter_above mark n xs b.1 a)

  -- one of the first n
  pub below_at : (mark n : ℕ) (xs : List E) (k : ℕ) (d : E) → AllByRecursion (λ e. number e < mark) (take n xs) → k < n → k < length xs → number (get_or xs k d) < mark
  below_at mark zero xs k d b l m = absurd (let bad : ⊥ = omega arith in bad)
  below_at mark (suc n) [] k d b l m = absurd (let bad : ⊥ = omega arith in bad)
  below_at mark (suc n) (x ∷ xs) zero d b l m = b.0
  below_at mark (suc n) (x ∷ xs) (suc k) d b l m = below_at mark n xs k d b.1 (omega arith) (omega arith)

  -- one more answer
  pub AnswersEach-push : (gives : E → ℕ → Type 0) (es : List E) (rs : List Called) (e : E) (r : Called) → AnswersEach number gives es rs → r.number ≡ number e → gives e r.answer → AnswersEach number gives (es ++ e ∷ []) (rs ++ r ∷ [])
  AnswersEach-push gives [] [] e r h n g = (n, g, tt)
  AnswersEach-push gives (x ∷ xs) (y ∷ ys) e r h n g = (h.0, h.1, AnswersEach-push gives xs ys e r h.2 n g)
  AnswersEach-push gives [] (y ∷ ys) e r h n g = absurd h
  AnswersEach-push gives (x ∷ xs) [] e r h n g = absurd h

  -- the element that comes after the first i
  pub record Next (i : ℕ) (xs : List E) (e : E) (ys : List E) : Type 0 where
    pub front : take (i + 1) xs ≡ take i xs ++ e ∷ []
    pub back : ys ≡ drop (i + 1) xs
    pub at : get_or xs i e ≡ e
    pub bound : i < length xs

  next_suc : (i : ℕ) (xs : List E) (e : E) (ys : List E) → drop i xs ≡ e ∷ ys → (take (suc i) xs ≡ take i xs ++ e ∷ []) × (ys ≡ drop (suc i) xs) × (get_or xs i e ≡ e) × (i < length xs)
  next_suc i [] e ys h = absurd (none i h)
    where
      none : (i : ℕ) → drop i [] ≡ e ∷ ys → ⊥
      none zero h = cc
      none (suc i) h = cc
  next_suc zero (x ∷ xs) e ys h = let p : x ≡ e = cc in let q : xs ≡ ys = cc in (rw p refl, sym q, p, omega arith)
  next_suc (suc i) (x ∷ xs) e ys h = let rest = next_suc i xs e ys h in (ap (λ zs. x ∷ zs) rest.0, rest.1, rest.2, omega (arith, rest.3))

  pub next : (i : ℕ) (xs : List E) (e : E) (ys : List E) → drop i xs ≡ e ∷ ys → Next i xs e ys
  next i xs e ys h = let r = next_suc i xs e ys h in record { front = rw add-one r.0; back = rw add-one r.1; at = r.2; bound = r.3 }
