-- A front tells whether its list is lawful, and goes on with each command.
use Rattle.std.proofs.Common.{◌≡◌, ◌↔◌, ℕ, ◌+◌, ◌-◌, ◌^◌, Bool, true, false, List, [], ◌∷◌, ◌++◌, length, IsTrue, refl, sym, ap, ◌∙◌, subst, inl, inr, ◌⊎◌, min, arith, length-append}
use Rattle.std.proofs.lemmas.List.{append_assoc, map-append}
use Rattle.ddr4_timing.specs.declared.timing.CommandRules.{CommandRules}
use Rattle.auto_precharge.specs.Unfolding.{IsLawfulTrace, MayFollow, unfolded, unfolded_none}
use Rattle.auto_precharge.specs.declared.issued.Issued.{Issued}
use Rattle.command_trace.specs.Following.{FollowsCommands, IsFirstFault, commands_in, issued_in, issued_of}
use Rattle.command_trace.specs.declared.entry.Located.{Located}
use Rattle.command_trace.specs.declared.front.CommandChecker.{CommandChecker}
use Rattle.auto_precharge.proofs.Settling.{follow_front, follow_more}

is_or_not : (b : Bool) → IsTrue b ⊎ (¬ IsTrue b)
is_or_not true = inl refl
is_or_not false = inr (λ e. absurd cc)

pub commands_in-append : (xs ys : List Located) → commands_in (xs ++ ys) ≡ commands_in xs ++ commands_in ys
commands_in-append xs ys = map-append (λ (l : Located). l.entry.command) xs ys

pub issued_in-append : (xs ys : List Located) → issued_in (xs ++ ys) ≡ issued_in xs ++ issued_in ys
issued_in-append xs ys = map-append (λ (l : Located). issued_of l) xs ys

pub not_lawful : (r : CommandRules) (found : List Located) (line : ℕ) → IsFirstFault r found line → ¬ IsLawfulTrace r (issued_in found)
not_lawful r found line f l =
    let before = issued_in f.before in
    let first = issued_of f.first in
    let after = issued_in f.after in
    let whole : issued_in found ≡ before ++ first ∷ after = ap (λ (xs : List Located). issued_in xs) f.found_is ∙ issued_in-append f.before (f.first ∷ f.after) in
    let parts : issued_in found ≡ (before ++ first ∷ []) ++ after = whole ∙ sym (append_assoc before (first ∷ []) after) in
    let front = follow_front r unfolded_none (before ++ first ∷ []) after (subst (λ (xs : List Issued). IsLawfulTrace r xs) parts l) in
    f.broken ((follow_more r unfolded_none before first).0 front).1

-- with one more command
pub follows_with : (r : CommandRules) (found : List Located) (x : Located) →
    IsLawfulTrace r (issued_in (found ++ x ∷ [])) ↔ (IsLawfulTrace r (issued_in found) × MayFollow r (unfolded r.timing (issued_in found)) x.entry.command)
follows_with r found x = rw (issued_in-append found (x ∷ [])) (follow_more r unfolded_none (issued_in found) (issued_of x))

-- a list with a fault stays one with that fault
pub faulty_more : (r : CommandRules) (found : List Located) (line : ℕ) (x : Located) → IsFirstFault r found line → IsFirstFault r (found ++ x ∷ []) line
faulty_more r found line x f = record {
  before = f.before;
  first = f.first;
  after = f.after ++ x ∷ [];
  found_is = ap (λ (l : List Located). l ++ x ∷ []) f.found_is ∙ append_assoc f.before (f.first ∷ f.after) (x ∷ []);
  lawful = f.lawful;
  broken = f.broken;
  line_is = f.line_is;
}

-- the command that makes a lawful list one with a fault
pub faulty_now : (r : CommandRules) (found : List Located) (x : Located) → IsLawfulTrace r (issued_in found) → (¬ MayFollow r (unfolded r.timing (issued_in found)) x.entry.command)
    → IsFirstFault r (found ++ x ∷ []) x.line
faulty_now r found x lawful broken = record {
  before = found;
  first = x;
  after = [];
  found_is = refl;
  lawful = lawful;
  broken = broken;
  line_is = refl;
}

pub tells_lawful : (r : CommandRules) (front : CommandChecker) (found : List Located) → FollowsCommands r front found → (IsTrue front.is_lawful ↔ IsLawfulTrace r (issued_in found))
tells_lawful r front found f = (
  λ h. f.lawful h,
  λ l. elim (is_or_not front.is_lawful) [ inl h ↦ h | inr broken ↦ absurd (not_lawful r found front.line (f.broken broken) l) ],
)

pub tells_fault : (r : CommandRules) (front : CommandChecker) (found : List Located) → FollowsCommands r front found → (¬ IsLawfulTrace r (issued_in found))
    → IsFirstFault r found front.line
tells_fault r front found f broken = f.broken (λ h. broken (f.lawful h))

pub counts_more : (found : List Located) (x : Located) (count : ℕ) → count ≡ min (length found) (2 ^ 64 - 1)
    → min (count + 1) (2 ^ 64 - 1) ≡ min (length (found ++ x ∷ [])) (2 ^ 64 - 1)
counts_more found x count e = let n = length-append found (x ∷ []) in grind arith
