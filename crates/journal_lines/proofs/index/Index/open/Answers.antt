use Rattle.std.proofs.Common.{◌≡◌, ◌≢◌, ◌∙◌, ◌<◌, ◌≤◌, ◌^◌, ℕ, List, ap, arith, length, refl, subst, sym}
use Rattle.journal_log.specs.Lines.{spelled}
use Rattle.journal_lines.specs.Places.{places_of}
use Rattle.journal_lines.specs.Scanning.{lines_in_use}
use Rattle.journal_lines.proofs.Opening.{first_is, fit, gone_is, held, lines_are, none_found, some_found, used_is}
use Rattle.journal_lines.proofs.Ringing.{length-in_use, never}
use Rattle.journal_lines.proofs.index.Index.open.Goals as goal

pub returns-then-not-is_fit-clause-none : goal.returns-then-not-is_fit-clause-none
returns-then-not-is_fit-clause-none c = λ same log h.
    let memory : List (List ℕ) = c.args.memory.now in
    let small : length memory ≤ 2 ^ 64 = omega (arith, c.told-memory) in
    let n = c.in-Some.ensures.numbers in
    let f = fit memory log h small in
    never (c.if-not-is_fit.ensures.1 (record {
      place = subst (λ (k : ℕ). k < length memory) (first_is memory log h small c.in-Some.head.gone c.in-Some.head.first c.in-Some.head.used c.in-Some.ensures.some n.0 n.1 n.2) f.place;
      room = subst (λ (k : ℕ). k < length memory) (used_is memory log h small c.in-Some.head.gone c.in-Some.head.first c.in-Some.head.used c.in-Some.ensures.some n.0 n.1 n.2) f.room;
      numbers = omega (arith, f.numbers, gone_is memory log h small c.in-Some.head.gone c.in-Some.head.first c.in-Some.head.used c.in-Some.ensures.some n.0 n.1 n.2, used_is memory log h small c.in-Some.head.gone c.in-Some.head.first c.in-Some.head.used c.in-Some.ensures.some n.0 n.1 n.2);
    }))

pub returns-clause-ok : goal.returns-clause-ok
returns-clause-ok c =
    let memory : List (List ℕ) = c.args.memory.now in
    let first : ℕ = c.in-Some.head.first in
    let used : ℕ = c.in-Some.head.used in
    let fits = c.if-not-is_fit.ensures.0 refl in
    let s = some_found c.in-Ok.found c.in-Some-found.places (λ places. (records : List (List ℕ)) × (lines_in_use memory first used ≡ spelled records) × (places.items ≡ places_of (length memory) first records))
    c.in-Some-found.is c.in-Ok.ensures.some in (
      record { gone = c.in-Some.head.gone; first = first; records = s.0 },
      held memory c.in-Some.head.gone first used c.in-Some.ensures.some fits s.0 s.1,
      record { gone = refl; first = refl; used = sym (length-in_use memory first used fits.room) ∙ ap length s.1; places = s.2 },
    )

pub returns-in_default-found-clause-none : goal.returns-in_default-found-clause-none
returns-in_default-found-clause-none c = λ same log h.
    let memory : List (List ℕ) = c.args.memory.now in
    let small : length memory ≤ 2 ^ 64 = omega (arith, c.told-memory) in
    let n = c.in-Some.ensures.numbers in
    none_found c.in-Ok.found ((records : List (List ℕ)) → lines_in_use memory c.in-Some.head.first c.in-Some.head.used ≢ spelled records) c.in_default-found.is c.in-Ok.ensures.none log.records
    (lines_are memory log h small c.in-Some.head.gone c.in-Some.head.first c.in-Some.head.used c.in-Some.ensures.some n.0 n.1 n.2)
