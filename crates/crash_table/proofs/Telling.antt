-- What a table tells, one line more.
use Rattle.std.proofs.Common.{◌≡◌, ◌∙◌, inl, inr, ℕ, ◌+◌, ◌<◌, List, [], ◌∷◌, ◌++◌, length, max, take, fold, get_or, All, refl, sym, ap, subst, arith}
use Rattle.std.proofs.lemmas.Bool.{cases_lt}
use Rattle.std.proofs.lemmas.List.{append-nil, get_or_append_left, get_or_at, get_or_default, length_push}
use Rattle.std.proofs.lemmas.List.Elements.{All-head, All-tail, filter-append}
use Rattle.std.proofs.lemmas.List.Sums.{fold-append}
use Rattle.std.proofs.lemmas.Grind.{flat_map-append}
use Rattle.nv_script.specs.declared.line.ScriptLine.{ScriptLine}
use Rattle.nv_script.specs.declared.line.ScriptLine.TheVariants.{Lose}
use Rattle.crash_table.specs.declared.script.Script.{Script}
use Rattle.crash_table.specs.declared.table.Table.{Table}
use Rattle.crash_table.specs.declared.tried.Tried.{Tried}
use Rattle.crash_table.specs.Blocks.{AreBlocksOf, tried_in}
use Rattle.crash_table.specs.Counting.{IsCountOf, complete_ones, is_complete, missing, most_missing}
use Rattle.crash_table.specs.Outcomes.{AreTried}
use Rattle.crash_table.specs.Tables.{TellsFirst}
use Rattle.crash_table.proofs.Counted.{complete_none}

-- before the first line
pub tells_none : (size : ℕ) (script : Script) (table : Table) → IsCountOf [] table.counts → AreBlocksOf [] table.blocks.items → TellsFirst size script 0 table
tells_none size script table counted shown = record {
  lines = [];
  each = refl;
  numbered = λ k d below. absurd (omega arith);
  tried = λ k line d below. absurd (omega arith);
  counted = counted;
  shown = shown;
}

-- what a table took in
pub record TakesIn (number : ℕ) (tried : List Tried) (old new : Table) : Type 0 where
  pub counts : (all : List Tried) → IsCountOf all old.counts → IsCountOf (all ++ tried) new.counts
  pub blocks : (lines : List (ℕ × List Tried)) → AreBlocksOf lines old.blocks.items → AreBlocksOf (lines ++ (number, tried) ∷ []) new.blocks.items

-- one line more
pub tells_more : (size : ℕ) (script : Script) (n : ℕ) (last : ScriptLine) (tried : List Tried) (old new : Table) → n < length script.lines.items → TellsFirst size script n old
    → AreTried size (take n script.lines.items) (get_or script.lines.items n last) tried → TakesIn (get_or script.numbers.items n 0) tried old new → TellsFirst size script (n + 1) new
tells_more size script n last tried old new here first are takes =
    let lines : List ScriptLine = script.lines.items in
    let more : ℕ × List Tried = (get_or script.numbers.items n 0, tried) in
    let all : List (ℕ × List Tried) = first.lines ++ more ∷ [] in
    let joined : tried_in first.lines ++ tried ≡ tried_in all =
    ap (λ (xs : List Tried). tried_in first.lines ++ xs) (sym (append-nil tried)) ∙ sym (flat_map-append (λ (l : ℕ × List Tried). l.1) first.lines (more ∷ [])) in
    record {
      lines = all;
      each = length_push first.lines more ∙ ap (λ (k : ℕ). k + 1) first.each;
      numbered = λ k d below. elim (cases_lt k n) [
        | inl before ↦ ap (λ (l : ℕ × List Tried). l.0) (get_or_append_left first.lines (more ∷ []) d k (omega (arith, first.each))) ∙ first.numbered k d before
        | inr later ↦
            let same : n ≡ k = omega arith in
            ap (λ (l : ℕ × List Tried). l.0) (get_or_at first.lines more [] d k (first.each ∙ same)) ∙ ap (λ (m : ℕ). get_or script.numbers.items m 0) same
      ];
      tried = λ k line d below. elim (cases_lt k n) [
        | inl before ↦
            subst (λ (l : ℕ × List Tried). AreTried size (take k lines) (get_or lines k line) l.1) (sym (get_or_append_left first.lines (more ∷ []) d k (omega (arith, first.each)))) (first.tried k line d before)
        | inr later ↦
            let same : n ≡ k = omega arith in
            let at : get_or all k d ≡ more = get_or_at first.lines more [] d k (first.each ∙ same) in
            let asked : get_or lines n last ≡ get_or lines n line = get_or_default lines n last line here in
            let here_are : AreTried size (take n lines) (get_or lines n line) tried = subst (λ (l : ScriptLine). AreTried size (take n lines) l tried) asked are in
            subst (λ (l : ℕ × List Tried). AreTried size (take k lines) (get_or lines k line) l.1) (sym at)
            (subst (λ (m : ℕ). AreTried size (take m lines) (get_or lines m line) tried) same here_are)
      ];
      counted = subst (λ (xs : List Tried). IsCountOf xs new.counts) joined (takes.counts (tried_in first.lines) first.counted);
      shown = takes.blocks first.lines first.shown;
    }

each_none : (lines : List (ℕ × List Tried)) → All (λ (l : ℕ × List Tried). most_missing (complete_ones l.1) ≡ 0) lines → most_missing (complete_ones (tried_in lines)) ≡ 0
each_none [] none = refl
each_none (first ∷ lines) none =
    let P : ℕ × List Tried → Type 0 = λ (l : ℕ × List Tried). most_missing (complete_ones l.1) ≡ 0 in
    let more : ℕ → Tried → ℕ = λ (most : ℕ) (one : Tried). max most (missing one.outcome) in
    ap most_missing (filter-append (λ (one : Tried). is_complete one.outcome.found) first.1 (tried_in lines))
    ∙ fold-append more 0 (complete_ones first.1) (complete_ones (tried_in lines))
    ∙ ap (λ (n : ℕ). fold more n (complete_ones (tried_in lines))) (All-head P first lines none)
    ∙ each_none lines (All-tail P first lines none)

-- of all that a table tells, what is told Complete lacks nothing
pub tells_none_missing : (size : ℕ) (script : Script) (n : ℕ) (table : Table) → TellsFirst size script n table → table.counts.complete ≡ 0
tells_none_missing size script n table tells =
    let lines : List ScriptLine = script.lines.items in
    tells.counted.complete
    ∙ each_none tells.lines
    (λ k d below.
    let asked : ScriptLine = get_or lines k Lose in
    let tried : List Tried = (get_or tells.lines k d).1 in
    let are : AreTried size (take k lines) asked tried = tells.tried k Lose d (omega (arith, below, tells.each)) in
    complete_none size (take k lines) asked tried are.are)
