-- Rows, one outcome more.
use Rattle.std.proofs.Common.{◌≡◌, ◌∙◌, ◌≢◌, inl, inr, ℕ, ◌+◌, ◌-◌, ◌^◌, ◌<◌, Bool, true, false, cond, List, [], ◌∷◌, ◌++◌, length, take, set, get_or, All, refl, sym, ap, subst, arith}
use Rattle.std.specs.List.{sum_by}
use Rattle.std.proofs.lemmas.Bool.{cases_lt}
use Rattle.std.proofs.lemmas.List.{get_or-map, get_or_append_left, get_or_at, length-map, length_push, map-append, map-set, set-get_or}
use Rattle.std.proofs.lemmas.List.Elements.{All-push, All-set}
use Rattle.std.proofs.lemmas.List.Sums.{count_by-le-length, get_or-le-sum_by, sum_by-set, sum_by_more, sum_by_push}
use Rattle.crash_table.specs.declared.outcome.Outcome.{Outcome}
use Rattle.crash_table.specs.declared.table.OutcomeCount.{OutcomeCount}
use Rattle.crash_table.specs.declared.tried.Tried.{Tried}
use Rattle.crash_table.specs.Rows.{AreRowsOf, IsOneMore, StandOnce, outcomes_of, times_found, times_told}

-- one that stood nowhere before
once_more : (outcomes : List Outcome) (outcome : Outcome) → StandOnce outcomes → ((i : ℕ) (d : Outcome) → i < length outcomes → get_or outcomes i d ≢ outcome) → StandOnce (outcomes ++ outcome ∷ [])
once_more outcomes outcome once none i j d below end =
    let size : length (outcomes ++ outcome ∷ []) ≡ length outcomes + 1 = length_push outcomes outcome in
    let j_below : j < length outcomes + 1 = omega (arith, size) in
    let i_below : i < length outcomes = omega arith in
    let at_i : get_or (outcomes ++ outcome ∷ []) i d ≡ get_or outcomes i d = get_or_append_left outcomes (outcome ∷ []) d i i_below in
    elim (cases_lt j (length outcomes)) [
      | inl inside ↦ λ same. once i j d below inside (sym at_i ∙ same ∙ get_or_append_left outcomes (outcome ∷ []) d j inside)
      | inr last ↦
          let at_j : get_or (outcomes ++ outcome ∷ []) j d ≡ outcome = get_or_at outcomes outcome [] d j (omega arith) in
          λ same. none i d i_below (sym at_i ∙ same ∙ at_j)
    ]

pub same_outcomes : (rows : List OutcomeCount) (place : ℕ) (d next : OutcomeCount) → place < length rows → next.outcome ≡ (get_or rows place d).outcome → outcomes_of (set rows place next) ≡ outcomes_of rows
same_outcomes rows place d next inside same =
    let f : OutcomeCount → Outcome = λ row. row.outcome in
    map-set f rows place next
    ∙ ap (λ (o : Outcome). set (outcomes_of rows) place o) (same ∙ sym (get_or-map f rows place d d.outcome inside))
    ∙ set-get_or (outcomes_of rows) place d.outcome

times_more : (is_asked : Bool) (times : ℕ) → cond is_asked (times + 1) 0 ≡ cond is_asked times 0 + cond is_asked 1 0
times_more true times = refl
times_more false times = refl

-- a row that stands there counts once more
pub row_counts : (outcome : Outcome) (rows : List OutcomeCount) (place : ℕ) (d next : OutcomeCount) → place < length rows → (get_or rows place d).outcome ≡ outcome → next.outcome ≡ outcome
    → next.times ≡ (get_or rows place d).times + 1 → IsOneMore outcome rows (set rows place next)
row_counts outcome rows place d next inside here same more = record {
  once = λ once. subst StandOnce (sym (same_outcomes rows place d next inside (same ∙ sym here))) once;
  some = λ some. All-set (λ (row : OutcomeCount). 0 < row.times) rows place next (omega arith) some;
  times = λ asked.
      let row : OutcomeCount = get_or rows place d in
      let told : OutcomeCount → ℕ = λ (x : OutcomeCount). cond (asked x.outcome) x.times 0 in
      let moved : sum_by told (set rows place next) + told row ≡ sum_by told rows + told next = sum_by-set told rows place next d inside in
      let before : told row ≡ cond (asked outcome) row.times 0 = ap (λ (o : Outcome). cond (asked o) row.times 0) here in
      let after : told next ≡ cond (asked outcome) row.times 0 + cond (asked outcome) 1 0 =
      ap (λ (o : Outcome). cond (asked o) next.times 0) same ∙ ap (λ (n : ℕ). cond (asked outcome) n 0) more ∙ times_more (asked outcome) row.times in
      omega (arith, moved, before, after);
}

-- or one is put behind them
pub row_comes : (outcome : Outcome) (rows : List OutcomeCount) → All (λ row. row.outcome ≢ outcome) rows → IsOneMore outcome rows (rows ++ record { outcome = outcome; times = 1 } ∷ [])
row_comes outcome rows none =
    let row : OutcomeCount = record { outcome = outcome; times = 1 } in
    let f : OutcomeCount → Outcome = λ (x : OutcomeCount). x.outcome in
    record {
      once = λ once. subst StandOnce (sym (map-append f rows (row ∷ [])))
          (once_more (outcomes_of rows) outcome once
          (λ i d below same.
          let inside : i < length rows = omega (arith, below, length-map rows f) in
          none i row inside (sym (get_or-map f rows i row d inside) ∙ same)));
      some = λ some. All-push (λ (x : OutcomeCount). 0 < x.times) rows row some (omega arith);
      times = λ asked. sum_by_push (λ (x : OutcomeCount). cond (asked x.outcome) x.times 0) rows row;
    }

pub rows_none : AreRowsOf [] []
rows_none = record { once = λ i j d below end. absurd (omega arith); some = λ k d below. absurd (omega arith); times = λ asked. refl }

-- the rows of what was tried, and of one more
pub rows_more : (tried : List Tried) (i : ℕ) (d : Tried) (old new : List OutcomeCount) → i < length tried → AreRowsOf (take i tried) old → IsOneMore (get_or tried i d).outcome old new → AreRowsOf (take (i + 1) tried) new
rows_more tried i d old new inside are more = record {
  once = more.once are.once;
  some = more.some are.some;
  times = λ asked.
      let found : times_found asked (take (i + 1) tried) ≡ times_found asked (take i tried) + cond (asked (get_or tried i d).outcome) 1 0 =
      sum_by_more (λ (one : Tried). cond (asked one.outcome) 1 0) tried i d inside in
      more.times asked ∙ ap (λ (n : ℕ). n + cond (asked (get_or tried i d).outcome) 1 0) (are.times asked) ∙ sym found;
}

-- no row tells more than were tried
pub few_times : (tried : List Tried) (rows : List OutcomeCount) → AreRowsOf tried rows → length tried < 2 ^ 64 - 1 → All (λ row. row.times < 2 ^ 64 - 1) rows
few_times tried rows are few k d below =
    let one_of_all : (get_or rows k d).times < times_told (λ _. true) rows + 1 = omega (arith, get_or-le-sum_by (λ (row : OutcomeCount). row.times) rows k d below) in
    let all : times_told (λ _. true) rows ≡ times_found (λ _. true) tried = are.times (λ _. true) in
    omega (arith, one_of_all, all, count_by-le-length (λ (_ : Tried). true) tried)
