-- The lines of a text, one after another.
use Rattle.std.proofs.Common.{◌≡◌, ◌∙◌, ◌==◌, Bool, false, inl, inr, ℕ, ◌+◌, ◌<◌, ◌≤◌, List, [], ◌∷◌, ◌++◌, length, take, get_or, option_to_list, Option, Some, None, refl, sym, ap, subst, arith}
use Rattle.std.specs.Borrow.{Bor}
use Rattle.std.specs.Fn.{CalledAt, Mut}
use Rattle.std.specs.Iterator.{Yields}
use Rattle.std.specs.Iterator.Adapters.{enumerate_count, enumerate_source, enumerate_steps}
use Rattle.std.specs.List.{AllZip, enumerate_from, filter_map, slice_split}
use Rattle.std.specs.Slice.Iter.{split_callee, split_done, split_rest, split_steps}
use Rattle.std.proofs.lemmas.Iterator.Consumers.{YieldsList-end, YieldsList-from_enumerate, YieldsList-turn}
use Rattle.std.proofs.lemmas.Iterator.Splits.{YieldsList-from_slice_split}
use Rattle.std.proofs.lemmas.List.{get_or_default, length-take, take_more}
use Rattle.std.proofs.lemmas.List.Elements.{filter_map-append}
use Rattle.std.proofs.lemmas.List.FromFn.{get_or-enumerate_from, length-enumerate_from}
use Rattle.ddr4_timing.specs.declared.timing.Geometry.{Geometry}
use Rattle.nv_profile.specs.Nothing.{HoldsOfNone}
use Rattle.nv_script.specs.declared.line.ScriptLine.{ScriptLine}
use Rattle.nv_script.specs.Texts.{AreLinesOf, ReadsAs, IsFirstBadLine, text_lines}

-- a turn is at this line of the text
pub record IsTurn (texts : List (List ℕ)) (n index : ℕ) (line : List ℕ) : Type 0 where
  pub below : n < length texts
  pub index_is : index ≡ n
  pub line_is : line ≡ get_or texts n []

pub turn : (texts : List (List ℕ)) (n index : ℕ) (line : List ℕ) → (n < length (enumerate_from 0 texts)) × ((index, line) ≡ get_or (enumerate_from 0 texts) n (index, line)) → IsTurn texts n index line
turn texts n index line at =
    let below : n < length texts = omega (arith, at.0, length-enumerate_from 0 texts) in
    let same : (index, line) ≡ (0 + n, get_or texts n line) = at.1 ∙ get_or-enumerate_from 0 texts n (index, line) below in
    let zero : 0 + n ≡ n = omega arith in
    record {
      below = below;
      index_is = ap (λ (p : ℕ × List ℕ). p.0) same ∙ zero;
      line_is = ap (λ (p : ℕ × List ℕ). p.1) same ∙ get_or_default texts n line [] below;
    }

zip_push : {A B : Type 0} (R : A → B → Type 0) (xs : List A) (ys : List B) (x : A) (y : B) → AllZip R xs ys → R x y → AllZip R (xs ++ x ∷ []) (ys ++ y ∷ [])
zip_push R [] [] x y all one = (one, tt)
zip_push R [] (b ∷ ys) x y all one = absurd all
zip_push R (a ∷ xs) [] x y all one = absurd all
zip_push R (a ∷ xs) (b ∷ ys) x y all one = (all.0, zip_push R xs ys x y all.1 one)

value_of_one : (value : Option ScriptLine) → filter_map (λ (line : Option ScriptLine). line) (value ∷ []) ≡ option_to_list value
value_of_one None = refl
value_of_one (Some line) = refl

-- the lines of a text that is cut at its newlines, with their places
module _ {F : Type 0} (g : Mut F (Bor ℕ × Unit {0}) Bool) (s : _) (xs : List (ℕ × Bor (List ℕ))) (t : _) (made : Yields (enumerate_steps (split_steps g)) s xs t) (r : Option (ℕ × Bor (List ℕ))) (u : _)
    (makes : enumerate_steps (split_steps g) t r u) {f : F} (text : List ℕ) where
  pub line_turn : split_rest (enumerate_source s) ≡ text → split_done (enumerate_source s) ≡ false → split_callee (enumerate_source s) ≡ f → enumerate_count s ≡ 0
      → ((x : ℕ) (b : Bool) (q : F) → CalledAt g f x b q → (q ≡ f) × (b ≡ (x == 10))) → (x : ℕ × Bor (List ℕ)) → r ≡ Some x → IsTurn (slice_split (λ b. b == 10) text) (length xs) x.0 x.1.now
  line_turn rest done callee count test x is =
      turn (slice_split (λ b. b == 10) text) (length xs) x.0 x.1.now (YieldsList-turn (YieldsList-from_enumerate (YieldsList-from_slice_split g (λ b. b == 10) text rest done callee test) count) xs t made r u x is makes)

  pub lines_end : split_rest (enumerate_source s) ≡ text → split_done (enumerate_source s) ≡ false → split_callee (enumerate_source s) ≡ f → enumerate_count s ≡ 0
      → ((x : ℕ) (b : Bool) (q : F) → CalledAt g f x b q → (q ≡ f) × (b ≡ (x == 10))) → r ≡ None → length xs ≡ length (slice_split (λ b. b == 10) text)
  lines_end rest done callee count test is =
      (YieldsList-end (YieldsList-from_enumerate (YieldsList-from_slice_split g (λ b. b == 10) text rest done callee test) count) xs t made r u is makes).1
      ∙ length-enumerate_from 0 (slice_split (λ b. b == 10) text)

-- one line more comes to this
pub lines_more : (geometry : Geometry) (texts : List (List ℕ)) (n : ℕ) (lines : List ScriptLine) (value : Option ScriptLine) → AreLinesOf geometry (take n texts) lines → n < length texts → n + 1 ≤ 4096
    → ReadsAs geometry (get_or texts n []) value → AreLinesOf geometry (take (n + 1) texts) (lines ++ option_to_list value)
lines_more geometry texts n lines value are below few comes =
    let more : take (n + 1) texts ≡ take n texts ++ get_or texts n [] ∷ [] = take_more texts n [] below in
    record {
      few = omega (arith, length-take (n + 1) texts);
      read = are.read ++ value ∷ [];
      each = subst (λ (some : List (List ℕ)). AllZip (ReadsAs geometry) some (are.read ++ value ∷ [])) (sym more)
          (zip_push (ReadsAs geometry) (take n texts) are.read (get_or texts n []) value are.each comes);
      are = ap (λ (some : List ScriptLine). some ++ option_to_list value) are.are
          ∙ ap (λ (some : List ScriptLine). filter_map (λ (line : Option ScriptLine). line) are.read ++ some) (sym (value_of_one value))
          ∙ sym (filter_map-append (λ (line : Option ScriptLine). line) are.read (value ∷ []));
    }

-- the first bad line is one that comes to none
pub first_bad : (geometry : Geometry) (text : List ℕ) (n index : ℕ) (line : List ℕ) (lines : List ScriptLine) → IsTurn (text_lines text) n index line
    → AreLinesOf geometry (take n (text_lines text)) lines → HoldsOfNone (ReadsAs geometry line) → IsFirstBadLine geometry text (index + 1)
first_bad geometry text n index line lines turn are none = record {
  place = n;
  numbered = ap (λ (k : ℕ). k + 1) turn.index_is;
  within = turn.below;
  lines = lines;
  before = are;
  bad = inr (subst (λ (some : List ℕ). HoldsOfNone (ReadsAs geometry some)) turn.line_is none);
}

-- or one too many
pub first_too_many : (geometry : Geometry) (text : List ℕ) (n index : ℕ) (line : List ℕ) (lines : List ScriptLine) → IsTurn (text_lines text) n index line
    → AreLinesOf geometry (take n (text_lines text)) lines → 4096 < index + 1 → IsFirstBadLine geometry text (index + 1)
first_too_many geometry text n index line lines turn are many = record {
  place = n;
  numbered = ap (λ (k : ℕ). k + 1) turn.index_is;
  within = turn.below;
  lines = lines;
  before = are;
  bad = inl (omega (arith, are.few, length-take n (text_lines text), turn.below, turn.index_is, many));
}
