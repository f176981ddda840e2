-- Rows, to which those with the same outcomes are added.
use Rattle.std.proofs.Common.{◌≡◌, ◌≢◌, ◌∙◌, ℕ, ◌+◌, ◌<◌, ◌≤◌, Bool, true, false, cond, List, length, take, set, get_or, refl, sym, ap, subst, arith}
use Rattle.std.specs.List.{sum_by}
use Rattle.std.proofs.lemmas.List.{get_or-map, get_or-set_other, get_or_default, length-map, length-set, same_lists, take_all}
use Rattle.std.proofs.lemmas.List.Elements.{All-set}
use Rattle.std.proofs.lemmas.List.Sums.{sum_by-set, sum_by_more}
use Rattle.crash_table.specs.declared.outcome.Outcome.{Outcome}
use Rattle.crash_table.specs.declared.table.OutcomeCount.{OutcomeCount}
use Rattle.crash_table.specs.Rows.{AreAdded, AreAlike, IsAlike, TellSome, outcomes_of, times_told}
use Rattle.crash_table.proofs.Rows.{same_outcomes}

pub alike_at : (rows others : List OutcomeCount) (i : ℕ) (d e f : OutcomeCount) → i < length rows → i < length others → IsAlike (get_or rows i d) (get_or others i e) → IsAlike (get_or rows i f) (get_or others i f)
alike_at rows others i d e f inside other_inside alike =
    subst (λ (x : OutcomeCount). IsAlike x (get_or others i f)) (get_or_default rows i d f inside)
    (subst (IsAlike (get_or rows i d)) (get_or_default others i e f other_inside) alike)

pub alike_outcomes : (rows others : List OutcomeCount) → AreAlike rows others → outcomes_of others ≡ outcomes_of rows
alike_outcomes rows others alike =
    let f : OutcomeCount → Outcome = λ row. row.outcome in
    same_lists (outcomes_of others) (outcomes_of rows) (length-map others f ∙ sym alike.sizes ∙ sym (length-map rows f))
    (λ k d below.
    let row : OutcomeCount = record { outcome = d; times = 0 } in
    let inside : k < length others = omega (arith, below, length-map others f) in
    let in_rows : k < length rows = omega (arith, alike.sizes) in
    get_or-map f others k row d inside ∙ sym (alike.each k row in_rows).0 ∙ sym (get_or-map f rows k row d in_rows))

-- the first of them are added
pub record AddedFirst (others : List OutcomeCount) (i : ℕ) (old now : List OutcomeCount) : Type 0 where
  pub same : outcomes_of now ≡ outcomes_of old
  pub some : TellSome old → TellSome now
  pub times : (asked : Outcome → Bool) → times_told asked now ≡ times_told asked old + times_told asked (take i others)
  pub rest : (k : ℕ) (d : OutcomeCount) → i ≤ k → k < length old → get_or now k d ≡ get_or old k d
  pub size : length now ≡ length old

pub added_none : (others rows : List OutcomeCount) → AddedFirst others 0 rows rows
added_none others rows = record { same = refl; some = λ some. some; times = λ asked. omega arith; rest = λ k d from below. refl; size = refl }

times_sum : (is_asked : Bool) (a b : ℕ) → cond is_asked (a + b) 0 ≡ cond is_asked a 0 + cond is_asked b 0
times_sum true a b = refl
times_sum false a b = refl

-- and one more
pub added_more : (others : List OutcomeCount) (i : ℕ) (old now : List OutcomeCount) (d e next : OutcomeCount) → AreAlike old others → i < length others → AddedFirst others i old now
    → next.outcome ≡ (get_or now i d).outcome → next.times ≡ (get_or now i d).times + (get_or others i e).times → AddedFirst others (i + 1) old (set now i next)
added_more others i old now d e next alike here first same more =
    let row : OutcomeCount = get_or now i d in
    let other : OutcomeCount = get_or others i e in
    let told : (Outcome → Bool) → OutcomeCount → ℕ = λ asked x. cond (asked x.outcome) x.times 0 in
    let inside : i < length now = omega (arith, first.size, alike.sizes) in
    let in_old : i < length old = omega (arith, alike.sizes) in
    let outcome : row.outcome ≡ other.outcome =
    ap (λ (x : OutcomeCount). x.outcome) (first.rest i d (omega arith) in_old) ∙ (alike.each i d in_old).0 ∙ ap (λ (x : OutcomeCount). x.outcome) (get_or_default others i d e here) in
    record {
      same = same_outcomes now i d next inside same ∙ first.same;
      some = λ some.
          let here_some : 0 < row.times = first.some some i d inside in
          All-set (λ (x : OutcomeCount). 0 < x.times) now i next (omega (arith, here_some, more)) (first.some some);
      times = λ asked.
          let moved : sum_by (told asked) (set now i next) + told asked row ≡ sum_by (told asked) now + told asked next = sum_by-set (told asked) now i next d inside in
          let after : told asked next ≡ told asked row + told asked other =
          ap (λ (o : Outcome). cond (asked o) next.times 0) same ∙ ap (λ (n : ℕ). cond (asked row.outcome) n 0) more ∙ times_sum (asked row.outcome) row.times other.times
          ∙ ap (λ (o : Outcome). told asked row + cond (asked o) other.times 0) outcome in
          let part : sum_by (told asked) (take (i + 1) others) ≡ sum_by (told asked) (take i others) + told asked other = sum_by_more (told asked) others i e here in
          let before : sum_by (told asked) now ≡ sum_by (told asked) old + sum_by (told asked) (take i others) = first.times asked in
          omega (arith, moved, after, part, before);
      rest = λ k x from below.
          let apart : k ≢ i = λ e. absurd (omega arith) in
          get_or-set_other now i k next x apart ∙ first.rest k x (omega arith) below;
      size = length-set now i next ∙ first.size;
    }

pub added_all : (others old now : List OutcomeCount) → AddedFirst others (length others) old now → AreAdded others old now
added_all others old now first = record {
  same = first.same;
  some = first.some;
  times = λ asked. first.times asked ∙ ap (λ (rows : List OutcomeCount). times_told asked old + times_told asked rows) (take_all (length others) others (omega arith));
}
