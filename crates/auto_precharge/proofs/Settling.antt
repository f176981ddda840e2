-- What a trace stands for, as it goes on.
use Rattle.std.proofs.Common.{◌≡◌, ◌↔◌, ℕ, zero, suc, ◌+◌, ◌≤◌, ◌<◌, Bool, true, false, List, [], ◌∷◌, ◌++◌, append-nil, flat_map, fold, get_or, if◌then◌else◌, is_some, length, map, nat_le, not, replicate, set, slice_index_or, slice_set, take, Option, Some, None, IsTrue, refl, sym, ap, subst, ◌∙◌, inl, inr, ◌⊎◌, arith}
use Rattle.std.proofs.lemmas.Bool.{cases_Bool}
use Rattle.std.proofs.lemmas.Grind.{flat_map-append}
use Rattle.std.proofs.lemmas.List.{ext_get_or, get_or-map, length-map, take_more}
use Rattle.std.proofs.lemmas.List.Sums.{fold_push}
use Rattle.std.proofs.lemmas.Option.{same_Some}
use Rattle.ddr4_timing.specs.Command.{bank_of, is_column}
use Rattle.ddr4_timing.specs.Lawful.{IsInGeometry, IsNotEarly, MayComeNext}
use Rattle.ddr4_timing.specs.declared.command.Command.{Command}
use Rattle.ddr4_timing.specs.declared.command.Command.TheVariants.{Act, Rd, Wr, Pre, PreAll, Ref, Sre}
use Rattle.ddr4_timing.specs.declared.command.Stamped.{Stamped}
use Rattle.ddr4_timing.specs.declared.rules.Rule.TheVariants.{Refi, Rows}
use Rattle.ddr4_timing.specs.declared.timing.CommandRules.{CommandRules}
use Rattle.ddr4_timing.specs.declared.timing.Geometry.{Geometry}
use Rattle.ddr4_timing.specs.declared.timing.Timing.{Timing}
use Rattle.ddr4_timing.specs.Floors.{least_clock}
use Rattle.ddr4_timing.specs.Places.{HasBank, bank_index}
use Rattle.ddr4_timing.specs.declared.place.BankAddress.{BankAddress}
use Rattle.auto_precharge.specs.declared.issued.Issued.{Issued}
use Rattle.auto_precharge.specs.declared.waiting.Closing.{Closing}
use Rattle.auto_precharge.specs.declared.unfolding.Unfolding.{Unfolding}
use Rattle.ddr4_timing.specs.TimingState.{Keeps}
use Rattle.auto_precharge.specs.Unfolding.{AreFrom, ArePlaced, IsLawfulTrace, MayAllFollow, MayFollow, NoneWaits, Stands, Unfolded, due, due_lines, gone, gone_line, later, rest, settled, unfolded, unfolded_none, unfolded_with, went}

pub unfolded_push : (t : Timing) (found : List Issued) (x : Issued) → unfolded t (found ++ x ∷ []) ≡ unfolded_with t (unfolded t found) x
unfolded_push t found x = fold_push (λ (u : Unfolded) (y : Issued). unfolded_with t u y) unfolded_none found x

-- one more command
pub follow_more : (r : CommandRules) (u : Unfolded) (found : List Issued) (x : Issued) →
    MayAllFollow r u (found ++ x ∷ []) ↔ (MayAllFollow r u found × MayFollow r (fold (λ v y. unfolded_with r.timing v y) u found) x.command)
follow_more r u [] x = (λ h. (omega arith, h.0), λ h. (h.1, omega arith))
follow_more r u (y ∷ found) x =
    let more = follow_more r (unfolded_with r.timing u y) found x in
    (λ h. let m = more.0 h.1 in ((h.0, m.0), m.1), λ h. (h.0.0, more.1 (h.0.1, h.1)))

-- a front
pub follow_front : (r : CommandRules) (u : Unfolded) (xs ys : List Issued) → MayAllFollow r u (xs ++ ys) → MayAllFollow r u xs
follow_front r u [] ys h = omega arith
follow_front r u (x ∷ xs) ys h = (h.0, follow_front r (unfolded_with r.timing u x) xs ys h.1)

-- where none is before a clock, none goes
gone_none : (clock : ℕ) (p : Closing) → clock ≤ p.clock → gone clock (Some p) ≡ []
gone_none clock p h = let test : nat_le clock p.clock ≡ true = grind arith in rw test refl

rest_none : (clock : ℕ) (p : Closing) → clock ≤ p.clock → rest clock (Some p) ≡ Some p
rest_none clock p h = let test : nat_le clock p.clock ≡ true = grind arith in rw test refl

from_tail : (clock : ℕ) (w : Option Closing) (waiting : List (Option Closing)) → AreFrom clock (w ∷ waiting) → AreFrom clock waiting
from_tail clock w waiting h i p e = h (suc i) p e

pub none_due : (clock : ℕ) (waiting : List (Option Closing)) → AreFrom clock waiting → due clock waiting ≡ []
none_due clock [] h = refl
none_due clock (None ∷ waiting) h = none_due clock waiting (from_tail clock None waiting h)
none_due clock (Some p ∷ waiting) h =
    ap (λ l. l ++ due clock waiting) (gone_none clock p (h 0 p refl)) ∙ none_due clock waiting (from_tail clock (Some p) waiting h)

pub all_later : (clock : ℕ) (waiting : List (Option Closing)) → AreFrom clock waiting → later clock waiting ≡ waiting
all_later clock [] h = refl
all_later clock (None ∷ waiting) h = ap (λ l. None ∷ l) (all_later clock waiting (from_tail clock None waiting h))
all_later clock (Some p ∷ waiting) h =
    ap (λ o. o ∷ later clock waiting) (rest_none clock p (h 0 p refl)) ∙ ap (λ l. Some p ∷ l) (all_later clock waiting (from_tail clock (Some p) waiting h))

pub from_less : (a b : ℕ) (waiting : List (Option Closing)) → a ≤ b → AreFrom b waiting → AreFrom a waiting
from_less a b waiting h from i p e = let q = from i p e in omega (arith, h, q)

-- the table behind a clock, place by place
pub later_is : (clock : ℕ) (old new : List (Option Closing)) → length new ≡ length old → ((i : ℕ) → slice_index_or new i None ≡ rest clock (slice_index_or old i None)) → new ≡ later clock old
later_is clock old new size each =
    ext_get_or None new (later clock old) (size ∙ sym (length-map old (λ p. rest clock p)))
    (λ i h. each i ∙ sym (get_or-map (λ p. rest clock p) old i None None (omega (arith, h, size))))

-- what is still to come was to come before
rest_some : (clock : ℕ) (w : Option Closing) (p : Closing) → rest clock w ≡ Some p → w ≡ Some p
rest_some clock None p e = absurd cc
rest_some clock (Some q) p e = elim (cases_Bool (nat_le clock q.clock)) [
  | inl waits ↦ let same : rest clock (Some q) ≡ Some q = rw waits refl in sym same ∙ e
  | inr goes ↦ let away : rest clock (Some q) ≡ None = rw goes refl in absurd (let none : None ≡ Some p = sym away ∙ e in cc)
]

later_some : (clock : ℕ) (waiting : List (Option Closing)) (i : ℕ) (p : Closing) → slice_index_or (later clock waiting) i None ≡ Some p → slice_index_or waiting i None ≡ Some p
later_some clock [] i p e = absurd cc
later_some clock (w ∷ waiting) zero p e = rest_some clock w p e
later_some clock (w ∷ waiting) (suc i) p e = later_some clock waiting i p e

pub placed_later : (clock : ℕ) (g : Geometry) (waiting : List (Option Closing)) → ArePlaced g waiting → ArePlaced g (later clock waiting)
placed_later clock g waiting h i p e = h i p (later_some clock waiting i p e)

-- one more precharge
set_some : (waiting : List (Option Closing)) (k i : ℕ) (q p : Closing) → slice_index_or (slice_set waiting k (Some q)) i None ≡ Some p → (p ≡ q) ⊎ (slice_index_or waiting i None ≡ Some p)
set_some [] k i q p e = inr e
set_some (w ∷ waiting) zero zero q p e = inl (sym (same_Some q p e))
set_some (w ∷ waiting) zero (suc i) q p e = inr e
set_some (w ∷ waiting) (suc k) zero q p e = inr e
set_some (w ∷ waiting) (suc k) (suc i) q p e = set_some waiting k i q p e

pub placed_set : (g : Geometry) (waiting : List (Option Closing)) (k : ℕ) (q : Closing) → ArePlaced g waiting → HasBank g q.at → ArePlaced g (slice_set waiting k (Some q))
placed_set g waiting k q h at i p e = elim (set_some waiting k i q p e) [
  | inl same ↦ subst (λ (c : Closing). HasBank g c.at) (sym same) at
  | inr old ↦ h i p old
]

pub from_set : (clock : ℕ) (waiting : List (Option Closing)) (k : ℕ) (q : Closing) → AreFrom clock waiting → clock ≤ q.clock → AreFrom clock (slice_set waiting k (Some q))
from_set clock waiting k q h least i p e = elim (set_some waiting k i q p e) [
  | inl same ↦ subst (λ (c : Closing). clock ≤ c.clock) (sym same) least
  | inr old ↦ h i p old
]

-- one more place
pub due_more : (clock i : ℕ) (waiting : List (Option Closing)) → i < length waiting → due clock (take (i + 1) waiting) ≡ due clock (take i waiting) ++ gone clock (slice_index_or waiting i None)
due_more clock i waiting h =
    ap (λ l. due clock l) (take_more waiting i None h)
    ∙ flat_map-append (λ p. gone clock p) (take i waiting) (get_or waiting i None ∷ [])
    ∙ ap (λ l. due clock (take i waiting) ++ l) (append-nil (gone clock (get_or waiting i None)))

-- the lines of the precharges that go before a clock
pub no_lines : (clock : ℕ) (waiting : List (Option Closing)) → AreFrom clock waiting → due_lines clock waiting ≡ []
no_lines clock [] h = refl
no_lines clock (None ∷ waiting) h = no_lines clock waiting (from_tail clock None waiting h)
no_lines clock (Some p ∷ waiting) h =
    let test : nat_le clock p.clock ≡ true = let least = h 0 p refl in grind arith in
    let none : gone_line clock (Some p) ≡ [] = rw test refl in
    ap (λ l. l ++ due_lines clock waiting) none ∙ no_lines clock waiting (from_tail clock (Some p) waiting h)

pub lines_more : (clock i : ℕ) (waiting : List (Option Closing)) → i < length waiting → due_lines clock (take (i + 1) waiting) ≡ due_lines clock (take i waiting) ++ gone_line clock (slice_index_or waiting i None)
lines_more clock i waiting h =
    ap (λ l. due_lines clock l) (take_more waiting i None h)
    ∙ flat_map-append (λ p. gone_line clock p) (take i waiting) (get_or waiting i None ∷ [])
    ∙ ap (λ l. due_lines clock (take i waiting) ++ l) (append-nil (gone_line clock (get_or waiting i None)))

-- no precharge is to come before any command
abbrev pub nothing : Option Closing
nothing = None

pub none_waiting : (n i : ℕ) → slice_index_or (replicate n nothing) i None ≡ None
none_waiting zero i = refl
none_waiting (suc n) zero = refl
none_waiting (suc n) (suc i) = none_waiting n i

pub from_none : (clock n : ℕ) → AreFrom clock (replicate n nothing)
from_none clock n i p e = absurd (let no : None ≡ Some p = sym (none_waiting n i) ∙ e in cc)

pub placed_none : (g : Geometry) (n : ℕ) → ArePlaced g (replicate n nothing)
placed_none g n i p e = absurd (let no : None ≡ Some p = sym (none_waiting n i) ∙ e in cc)

-- where none is to come, none is behind a clock
pub none_later : (clock : ℕ) (waiting : List (Option Closing)) → NoneWaits waiting → NoneWaits (later clock waiting)
none_later clock [] h i = refl
none_later clock (w ∷ waiting) h zero = ap (λ (o : Option Closing). rest clock o) (h 0)
none_later clock (w ∷ waiting) h (suc i) = none_later clock waiting (λ j. h (suc j)) i

-- a state in which none is before the clock is settled up to it
pub settled_by_now : (r : CommandRules) (m : Unfolding) (u : Unfolded) (clock : ℕ) → clock ≤ m.soonest → Stands r m u → Stands r m (settled clock u)
settled_by_now r m u clock h s =
    let from : AreFrom clock u.waiting = from_less clock m.soonest u.waiting h s.from in
    let same : later clock u.waiting ≡ u.waiting = all_later clock u.waiting from in
    record {
      keeps = rw (none_due clock u.waiting from, append-nil u.list) s.keeps;
      closings = s.closings ∙ sym same;
      from = rw same s.from;
      placed = rw same s.placed;
      quiet = rw same s.quiet;
    }

-- a state whose precharges before the clock went
pub settled_behind : (r : CommandRules) (old new : Unfolding) (u : Unfolded) (clock : ℕ) → Keeps r.timing r.geometry new.state (u.list ++ due clock old.closings)
    → length new.closings ≡ length old.closings → ((i : ℕ) → slice_index_or new.closings i None ≡ rest clock (slice_index_or old.closings i None))
    → AreFrom new.soonest new.closings → new.waits ≡ old.waits → Stands r old u → Stands r new (settled clock u)
settled_behind r old new u clock keeps size each from waits s =
    let moved : new.closings ≡ later clock u.waiting = later_is clock old.closings new.closings size each ∙ ap (λ w. later clock w) s.closings in
    record {
      keeps = subst (λ (w : List (Option Closing)). Keeps r.timing r.geometry new.state (u.list ++ due clock w)) s.closings keeps;
      closings = moved;
      from = subst (λ (w : List (Option Closing)). AreFrom new.soonest w) moved from;
      placed = placed_later clock r.geometry u.waiting s.placed;
      quiet = λ none. none_later clock u.waiting (s.quiet (sym waits ∙ none));
    }

-- a place without a precharge
pub none_told : (o : Option Closing) (b : Bool) → is_some o ≡ not b → (IsTrue b ↔ (o ≡ None))
none_told None true e = (λ _. refl, λ _. refl)
none_told None false e = absurd cc
none_told (Some p) true e = absurd cc
none_told (Some p) false e = (λ h. absurd cc, λ h. absurd cc)

-- the bank of a RD or WR, and none of another command
abbrev pub column_bank : Command → Option BankAddress
column_bank x = if is_column x then Some (bank_of x) else None

pub some_column : (x : Command) (at : BankAddress) → Some at ≡ column_bank x → IsTrue (is_column x) × (at ≡ bank_of x)
some_column x at e = elim (cases_Bool (is_column x)) [
  | inl is ↦ let there : column_bank x ≡ Some (bank_of x) = rw is refl in (is, same_Some at (bank_of x) (e ∙ there))
  | inr other ↦ let nowhere : column_bank x ≡ None = rw other refl in absurd (let both : Some at ≡ None = e ∙ nowhere in cc)
]

pub none_column : (x : Command) → None ≡ column_bank x → is_column x ≡ false
none_column x e = elim (cases_Bool (is_column x)) [
  | inl is ↦ let there : column_bank x ≡ Some (bank_of x) = rw is refl in absurd (let both : None ≡ Some (bank_of x) = e ∙ there in cc)
  | inr other ↦ other
]

-- a command that brings a precharge with it
pub went_closing : (t : Timing) (u : Unfolded) (x : Issued) (at : BankAddress) → x.closes ≡ true → is_column x.command.cmd ≡ true → at ≡ bank_of x.command.cmd →
    went t u x ≡ record {
      list = u.list ++ x.command ∷ [];
      lines = u.lines ++ x.line ∷ [];
      waiting = slice_set u.waiting (bank_index at) (Some (record { at = at; clock = least_clock t (u.list ++ x.command ∷ []) (Pre at); line = x.line }));
    }
went_closing t u x at closes is same = rw (closes, is, same) refl

-- each command of a lawful list may follow those before it
may_from : (r : CommandRules) (u : Unfolded) (found : List Issued) (i : ℕ) (d : Issued) → i < length found → MayAllFollow r u found
    → MayFollow r (fold (λ v y. unfolded_with r.timing v y) u (take i found)) (get_or found i d).command
may_from r u [] i d h all = absurd (omega (arith, h))
may_from r u (x ∷ found) zero d h all = all.0
may_from r u (x ∷ found) (suc i) d h all = may_from r (unfolded_with r.timing u x) found i d (omega (arith, h)) all.1

pub may_at : (r : CommandRules) (found : List Issued) (i : ℕ) (d : Issued) → i < length found → IsLawfulTrace r found
    → MayFollow r (unfolded r.timing (take i found)) (get_or found i d).command
may_at r found i d h all = may_from r unfolded_none found i d h all

-- the bank of a RD or WR is one of the geometry
pub column_has_bank : (g : Geometry) (x : Command) → IsInGeometry g x → IsTrue (is_column x) → HasBank g (bank_of x)
column_has_bank g (Act at row) place e = absurd cc
column_has_bank g (Rd at column) place e = place.0
column_has_bank g (Wr at column) place e = place.0
column_has_bank g (Pre at) place e = absurd cc
column_has_bank g (PreAll rank) place e = absurd cc
column_has_bank g (Ref rank) place e = absurd cc
column_has_bank g (Sre rank) place e = absurd cc

-- a REF that may come next isn't early
pub not_early : (t : Timing) (g : Geometry) (before : List Stamped) (x : Stamped) → MayComeNext t g before x → IsNotEarly t before x
not_early t g before x next = ((next Refi (length before)).refresh refl refl).not_early

-- of a command that may come next the place lies in the geometry
pub place_of_next : (t : Timing) (g : Geometry) (before : List Stamped) (x : Stamped) → MayComeNext t g before x → IsInGeometry g x.cmd
place_of_next t g before x next = ((next Rows (length before)).rows refl refl).place
