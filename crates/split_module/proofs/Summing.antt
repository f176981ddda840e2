-- Sums over the channels from a number on, so many of them.
use Rattle.std.proofs.Common.{All, Bool, List, [], ap, arith, false, length, refl, suc, true, zero, ℕ, ◌+◌, ◌<◌, ◌∙◌, ◌∷◌, ◌≡◌, ◌≢◌, ◌≤◌, ⊎_elim}
use Rattle.std.specs.Prelude.{count_by, if◌then◌else◌, slice_index_or, sum_by, ◌==◌}
use Rattle.std.proofs.lemmas.Bool.{cases_eq, eq-eqb, ne_eqb}
use Rattle.std.proofs.lemmas.List.Elements.{All-head, All-tail}
use Rattle.std.proofs.lemmas.List.Sums.{sum_by-cons}
use Rattle.line_memory.specs.Parts.{numbered, written_on}
use Rattle.line_memory.specs.declared.Write.{Write}
use Rattle.line_memory.specs.declared.parts.Numbered.{Numbered}
use Rattle.channel_port.specs.Waits.{is_write_on, writes_on}
use Rattle.channel_port.specs.declared.waiting.Waiting.{Waiting}
use Rattle.split_module.proofs.Counted.{counted}

abbrev pub upward : (ℕ → ℕ) → ℕ → ℕ → ℕ
upward f k zero = 0
upward f k (suc n) = f k + upward f (suc k) n

pub upward_same : (f g : ℕ → ℕ) (k n : ℕ) → ((c : ℕ) → k ≤ c → c < k + n → f c ≡ g c) → upward f k n ≡ upward g k n
upward_same f g k zero same = refl
upward_same f g k (suc n) same =
    let here = same k (omega arith) (omega arith) in
    let rest = upward_same f g (suc k) n (λ c from to. same c (omega (arith, from)) (omega (arith, to))) in
    omega (arith, here, rest)

upward_plus : (f g : ℕ → ℕ) (k n : ℕ) → upward (λ c. f c + g c) k n ≡ upward f k n + upward g k n
upward_plus f g k zero = refl
upward_plus f g k (suc n) = let rest = upward_plus f g (suc k) n in omega (arith, rest)

upward_none : (f : ℕ → ℕ) (k n : ℕ) → ((c : ℕ) → k ≤ c → f c ≡ 0) → upward f k n ≡ 0
upward_none f k zero none = refl
upward_none f k (suc n) none =
    let here = none k (omega arith) in
    let rest = upward_none f (suc k) n (λ c from. none c (omega (arith, from))) in
    omega (arith, here, rest)

abbrev one_at : ℕ → ℕ → ℕ
one_at j c = if j == c then 1 else 0

-- one of them is this channel
upward_one : (j k n : ℕ) → k ≤ j → j < k + n → upward (one_at j) k n ≡ 1
upward_one j k zero from to = absurd (omega (arith, from, to))
upward_one j k (suc n) from to =
    ⊎_elim
    (λ (e : j ≡ k).
    let here : one_at j k ≡ 1 = ap (λ (b : Bool). if b then 1 else 0) (eq-eqb j k e) in
    let rest = upward_none (one_at j) (suc k) n (λ c less. ap (λ (b : Bool). if b then 1 else 0) (ne_eqb j c (λ same. omega (arith, same, e, less)))) in
    omega (arith, here, rest))
    (λ (apart : j ≢ k).
    let here : one_at j k ≡ 0 = ap (λ (b : Bool). if b then 1 else 0) (ne_eqb j k apart) in
    let rest = upward_one j (suc k) n (omega (arith, from, apart)) (omega (arith, to)) in
    omega (arith, here, rest))
    (cases_eq j k)

-- a sum over a list whose elements are those of the channels
pub sum_upward : {X : Type 0} (f : X → ℕ) (g : ℕ → ℕ) (d : X) (xs : List X) (k : ℕ) → ((i : ℕ) → i < length xs → f (slice_index_or xs i d) ≡ g (k + i)) → sum_by f xs ≡ upward g k (length xs)
sum_upward f g d [] k is = refl
sum_upward f g d (x ∷ xs) k is =
    let none : k + 0 ≡ k = omega arith in
    let here : f x ≡ g k = is 0 (omega arith) ∙ ap g none in
    let rest = sum_upward f g d xs (suc k) (λ i less. let next : k + suc i ≡ suc k + i = omega arith in is (suc i) (omega (arith, less)) ∙ ap g next) in
    let first = sum_by-cons f x xs in
    omega (arith, here, rest, first)

-- the writes that wait, channel by channel
pub all_waiting : (n : ℕ) (ws : List Waiting) → All (λ w. w.channel < n) ws → upward (λ c. writes_on c ws) 0 n ≡ length ws
all_waiting n [] all = upward_none (λ c. 0) 0 n (λ c from. refl)
all_waiting n (w ∷ ws) all =
    let split : upward (λ c. writes_on c (w ∷ ws)) 0 n ≡ upward (λ c. one_at w.channel c + writes_on c ws) 0 n =
    upward_same _ _ 0 n (λ c from to. counted (is_write_on c) w ws) in
    let plus = upward_plus (one_at w.channel) (λ c. writes_on c ws) 0 n in
    let one = upward_one w.channel 0 n (omega arith) (let less = All-head (λ v. v.channel < n) w ws all in omega (arith, less)) in
    let rest = all_waiting n ws (All-tail (λ v. v.channel < n) w ws all) in
    omega (arith, split, plus, one, rest)

-- How often a number stands in the parts of a history.
module _ (channel_of : ℕ → ℕ) (number : ℕ) where
  abbrev named : Numbered → Bool
  named w = w.number == number

  abbrev pub times : ℕ → ℕ → List Write → ℕ
  times c start ws = count_by named (written_on channel_of c start ws)

  -- by the first write
  first_times : (c start : ℕ) (w : Write) (ws : List Write)
      → times c start (w ∷ ws) ≡ (if channel_of w.line == c then (if start == number then 1 else 0) else 0) + times c (start + 1) ws
  first_times c start w ws = by (channel_of w.line == c)
    where
      by : (b : Bool) → count_by named (if b then numbered start w ∷ written_on channel_of c (start + 1) ws else written_on channel_of c (start + 1) ws)
          ≡ (if b then (if start == number then 1 else 0) else 0) + times c (start + 1) ws
      by true = counted named (numbered start w) (written_on channel_of c (start + 1) ws)
      by false = omega arith

  none_of : (b d : Bool) → d ≡ false → ◌≡◌ {A = ℕ} (if b then (if d then 1 else 0) else 0) 0
  none_of true d off = ap (λ (b : Bool). if b then 1 else 0) off
  none_of false d off = refl

  none_before : (c start : ℕ) (ws : List Write) → number < start → times c start ws ≡ 0
  none_before c start [] less = refl
  none_before c start (w ∷ ws) less =
      let rest = none_before c (start + 1) ws (omega (arith, less)) in
      let apart : (start == number) ≡ false = ne_eqb start number (λ (e : start ≡ number). omega (arith, e, less)) in
      let here = none_of (channel_of w.line == c) (start == number) apart in
      let first = first_times c start w ws in
      omega (arith, rest, here, first)

  pub once : (n start : ℕ) (ws : List Write) → All (λ w. channel_of w.line < n) ws → start ≤ number → number < start + length ws → upward (λ c. times c start ws) 0 n ≡ 1
  once n start [] lie from to = absurd (omega (arith, from, to))
  once n start (w ∷ ws) lie from to =
      let split : upward (λ c. times c start (w ∷ ws)) 0 n ≡ upward (λ c. (if channel_of w.line == c then (if start == number then 1 else 0) else 0) + times c (start + 1) ws) 0 n =
      upward_same _ _ 0 n (λ c from to. first_times c start w ws) in
      let plus = upward_plus (λ c. if channel_of w.line == c then (if start == number then 1 else 0) else 0) (λ c. times c (start + 1) ws) 0 n in
      ⊎_elim
      (λ (e : start ≡ number).
      let one : upward (λ c. if channel_of w.line == c then (if start == number then 1 else 0) else 0) 0 n ≡ upward (one_at (channel_of w.line)) 0 n =
      ap (λ (d : Bool). upward (λ c. if channel_of w.line == c then (if d then 1 else 0) else 0) 0 n) (eq-eqb start number e) in
      let here = upward_one (channel_of w.line) 0 n (omega arith) (let less = All-head (λ (v : Write). channel_of v.line < n) w ws lie in omega (arith, less)) in
      let rest = upward_none (λ c. times c (start + 1) ws) 0 n (λ c less. none_before c (start + 1) ws (omega (arith, e))) in
      omega (arith, split, plus, one, here, rest))
      (λ (apart : start ≢ number).
      let none = upward_none (λ c. if channel_of w.line == c then (if start == number then 1 else 0) else 0) 0 n (λ c less. none_of (channel_of w.line == c) (start == number) (ne_eqb start number apart)) in
      let rest = once n (start + 1) ws (All-tail (λ (v : Write). channel_of v.line < n) w ws lie) (omega (arith, from, apart)) (omega (arith, to)) in
      omega (arith, split, plus, none, rest))
      (cases_eq start number)

  -- and no number from the end on
  none_after : (c start : ℕ) (ws : List Write) → start + length ws ≤ number → times c start ws ≡ 0
  none_after c start [] less = refl
  none_after c start (w ∷ ws) less =
      let rest = none_after c (start + 1) ws (omega (arith, less)) in
      let apart : (start == number) ≡ false = ne_eqb start number (λ (e : start ≡ number). omega (arith, e, less)) in
      let here = none_of (channel_of w.line == c) (start == number) apart in
      let first = first_times c start w ws in
      omega (arith, rest, here, first)

  pub never_before : (n start : ℕ) (ws : List Write) → number < start → upward (λ c. times c start ws) 0 n ≡ 0
  never_before n start ws less = upward_none (λ c. times c start ws) 0 n (λ c from. none_before c start ws less)

  pub never_after : (n start : ℕ) (ws : List Write) → start + length ws ≤ number → upward (λ c. times c start ws) 0 n ≡ 0
  never_after n start ws less = upward_none (λ c. times c start ws) 0 n (λ c from. none_after c start ws less)
