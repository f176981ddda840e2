-- Stops with their picks, one more at a time.
use Rattle.std.proofs.Common.{◌≡◌, ◌∙◌, ℕ, ◌+◌, ◌<◌, suc, List, [], ◌∷◌, ◌++◌, length, map, take, get_or, All, Bool, true, false, inl, inr, sym, ap, subst, arith}
use Rattle.std.proofs.lemmas.List.{append-nil, append_assoc, map-append, take_more}
use Rattle.std.proofs.lemmas.List.Elements.{All-append}
use Rattle.std.proofs.lemmas.Grind.{flat_map-append}
use Rattle.std.proofs.lemmas.Bool.{cases_lt}
use Rattle.save_device.specs.declared.memory.Pick.{Pick}
use Rattle.nv_script.specs.declared.line.ScriptLine.{ScriptLine}
use Rattle.crash_table.specs.declared.outcome.Outcome.{Outcome}
use Rattle.crash_table.specs.declared.stop.Stop.{Stop}
use Rattle.crash_table.specs.declared.stop.Stop.TheVariants.{Dark, Loss}
use Rattle.crash_table.specs.declared.tried.Tried.{Tried}
use Rattle.crash_table.specs.Stops.{dark_below, picks, stopped_lines, with_each_pick, with_picks}
use Rattle.crash_table.specs.Outcomes.{AreTried, AreTriedDark, IsTried, MayEnd, tried_at}

-- one pick more at a stop
pub pick_more : (some : List Pick) (stop : Stop) (i : ℕ) (d : Pick) (tried : List Tried) (outcome : Outcome) → i < length some → map tried_at tried ≡ with_picks (take i some) stop
    → map tried_at (tried ++ record { stop = stop; pick = get_or some i d; outcome = outcome } ∷ []) ≡ with_picks (take (i + 1) some) stop
pick_more some stop i d tried outcome inside each =
    let one : Tried = record { stop = stop; pick = get_or some i d; outcome = outcome } in
    map-append tried_at tried (one ∷ []) ∙ ap (λ (ps : List (Stop × Pick)). ps ++ (stop, get_or some i d) ∷ []) each
    ∙ sym (map-append (λ (pick : Pick). (stop, pick)) (take i some) (get_or some i d ∷ [])) ∙ ap (λ (ps : List Pick). with_picks ps stop) (sym (take_more some i d inside))

-- these were tried at some stops, with each pick
pub record TriesEach (size : ℕ) (before : List ScriptLine) (last : ScriptLine) (stops : List Stop) (tried : List Tried) : Type 0 where
  pub each : map tried_at tried ≡ with_each_pick stops
  pub are : All (IsTried size before last) tried

-- and at one more
pub tries_more : (size : ℕ) (before : List ScriptLine) (last : ScriptLine) (stops : List Stop) (stop : Stop) (tried more : List Tried) → TriesEach size before last stops tried
    → map tried_at more ≡ with_picks picks stop → All (IsTried size before last) more → TriesEach size before last (stops ++ stop ∷ []) (tried ++ more)
tries_more size before last stops stop tried more tries each are = record {
  each =
      map-append tried_at tried more ∙ ap (λ (ps : List (Stop × Pick)). ps ++ map tried_at more) tries.each
      ∙ ap (λ (ps : List (Stop × Pick)). with_each_pick stops ++ ps) (each ∙ sym (append-nil (with_picks picks stop)))
      ∙ sym (flat_map-append (with_picks picks) stops (stop ∷ []));
  are = All-append (IsTried size before last) tried more tries.are are;
}

-- darkness behind each call and behind the line, and a loss
pub tries_all : (size : ℕ) (before : List ScriptLine) (last : ScriptLine) (dark lost : List Tried) → AreTriedDark size before last dark
    → map tried_at lost ≡ with_picks picks Loss → All (IsTried size before last) lost → AreTried size before last (dark ++ lost)
tries_all size before last dark lost tried each are =
    let tries : TriesEach size before last ((dark_below tried.calls ++ Dark tried.calls ∷ []) ++ Loss ∷ []) (dark ++ lost) =
    tries_more size before last (dark_below tried.calls ++ Dark tried.calls ∷ []) Loss dark lost (record { each = tried.each; are = tried.are }) each are in
    record {
      calls = tried.calls;
      makes = tried.makes;
      each = tries.each ∙ ap with_each_pick (append_assoc (dark_below tried.calls) (Dark tried.calls ∷ []) (Loss ∷ []));
      are = tries.are;
    }

-- a run that ends with a fault behind one call more
pub ends_more : (size : ℕ) (before : List ScriptLine) (last : ScriptLine) (calls : ℕ) (fails : Bool)
    → ((fewer : ℕ) → fewer < calls → MayEnd size (stopped_lines before last (Dark fewer)) true) → MayEnd size (stopped_lines before last (Dark calls)) fails → fails ≡ true
    → (fewer : ℕ) → fewer < calls + 1 → MayEnd size (stopped_lines before last (Dark fewer)) true
ends_more size before last calls fails all ends is fewer less = elim (cases_lt fewer calls) [
  | inl below ↦ all fewer below
  | inr least ↦
      let same : calls ≡ fewer = omega (arith, less, least) in
      subst (λ (n : ℕ). MayEnd size (stopped_lines before last (Dark n)) true) same (subst (MayEnd size (stopped_lines before last (Dark calls))) is ends)
]

-- and one that ends without, behind which there are no more
pub tries_dark : (size : ℕ) (before : List ScriptLine) (last : ScriptLine) (calls : ℕ) (fails : Bool) (tried : List Tried)
    → ((fewer : ℕ) → fewer < calls → MayEnd size (stopped_lines before last (Dark fewer)) true) → MayEnd size (stopped_lines before last (Dark calls)) fails → fails ≡ false
    → TriesEach size before last (dark_below calls ++ Dark calls ∷ []) tried → AreTriedDark size before last tried
tries_dark size before last calls fails tried all ends is tries = record {
  calls = calls;
  makes = record { fails = all; passes = subst (MayEnd size (stopped_lines before last (Dark calls))) is ends };
  each = tries.each;
  are = tries.are;
}

pub dark_more : (calls : ℕ) → dark_below (calls + 1) ≡ dark_below calls ++ Dark calls ∷ []
dark_more calls = let e : calls + 1 ≡ suc calls = omega arith in ap dark_below e
