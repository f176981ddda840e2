-- The answers to one line, one more at a time.
use Rattle.std.proofs.Common.{◌≡◌, ◌∙◌, ℕ, ◌+◌, ◌<◌, true, false, List, [], ◌∷◌, ◌++◌, Option, refl, sym, ap, subst, inl, inr, arith}
use Rattle.std.proofs.lemmas.List.Sums.{fold-append}
use Rattle.script_runner.proofs.Common.{All-append, All-cons, All-nil, Answer, AnswersLine, AnswersTruly, AnswersTurns}
use Rattle.script_runner.proofs.Common.{AnswersWhole, BearsOut, Ghosts, IsTrueOf, Ledger, ScriptLine, SessionAt}
use Rattle.script_runner.proofs.Common.{TellsTruly, append-nil, append_assoc, known_behind, length-append}
use Rattle.script_runner.specs.Story.{TakesTurns, AreTrueOf, known_behind_all, turns_of, is_busy}

-- one true answer more
pub true_push : (lines : ℕ) (known : Option Ledger) (asked : ScriptLine) (given : List Answer) (answer : Answer) → AreTrueOf lines known asked given
    → IsTrueOf lines (known_behind_all asked given known) asked answer → AreTrueOf lines known asked (given ++ answer ∷ [])
true_push lines known asked [] answer so_far next = (next, tt)
true_push lines known asked (first ∷ given) answer so_far next = (so_far.0, true_push lines (known_behind asked first known) asked given answer so_far.1 next)

pub known_push : (asked : ScriptLine) (given : List Answer) (answer : Answer) (known : Option Ledger)
    → known_behind_all asked (given ++ answer ∷ []) known ≡ known_behind asked answer (known_behind_all asked given known)
known_push asked given answer known = fold-append (λ (k : Option Ledger) (a : Answer). known_behind asked a k) known given (answer ∷ [])

module _ {K : Type 0} (L : Ghosts K) (lines : ℕ) (asked : ScriptLine) where
  abbrev pub line_grows : (answer : Answer) (old mid new : List Answer) (first last next : SessionAt L)
      → AnswersLine L lines asked old mid first last → AnswersTruly L lines asked answer last next → new ≡ mid ++ answer ∷ [] → AnswersLine L lines asked old new first next
  line_grows answer old mid new first last next line truly more =
      let given : List Answer = line.part.given in
      let then : (known : Option Ledger) → BearsOut L lines known first → TellsTruly L lines asked answer (known_behind_all asked given known) next =
      λ known bears. truly (known_behind_all asked given known) (line.keeps known bears) in
      record {
        part = record {
          given = given ++ answer ∷ [];
          grown_by = more ∙ ap (λ (list : List Answer). list ++ answer ∷ []) line.part.grown_by ∙ append_assoc old given (answer ∷ []);
          holds = λ known bears. true_push lines known asked given answer (line.part.holds known bears) (then known bears).holds;
        };
        keeps = λ known bears. subst (λ (k : Option Ledger). BearsOut L lines k next) (sym (known_push asked given answer known)) (then known bears).bears;
      }

  abbrev pub turns_begin : (old : List Answer) (at : SessionAt L) → AnswersTurns L lines 0 asked old old at at
  turns_begin old at = record {
    line = record {
      part = record { given = []; grown_by = sym (append-nil old); holds = λ known bears. tt };
      keeps = λ known bears. bears;
    };
    taken = record { busy = All-nil (λ (answer : Answer). is_busy answer ≡ true); count = refl };
  }

  abbrev pub turns_grow : (other : ℕ) → other ≡ lines → (turns : ℕ) (answer : Answer) (old mid new : List Answer) (first last next : SessionAt L)
      → AnswersTurns L lines turns asked old mid first last → AnswersTruly L other asked answer last next → new ≡ mid ++ answer ∷ [] → is_busy answer ≡ true
      → AnswersTurns L lines (turns + 1) asked old new first next
  turns_grow other same turns answer old mid new first last next so_far truly more busy =
      let given : List Answer = so_far.line.part.given in
      let IsBusy : Answer → Type 0 = λ answer. is_busy answer ≡ true in
      record {
        line = line_grows answer old mid new first last next so_far.line (subst (λ (n : ℕ). AnswersTruly L n asked answer last next) same truly) more;
        taken = record {
          busy = All-append IsBusy given (answer ∷ []) so_far.taken.busy (All-cons IsBusy answer [] busy (All-nil IsBusy));
          count = let size = length-append given (answer ∷ []) in omega (arith, size, so_far.taken.count);
        };
      }

  abbrev pub turns_end : (turns : ℕ) (old new : List Answer) (first last : SessionAt L) → AnswersTurns L lines turns asked old new first last → turns ≡ turns_of asked → AnswersWhole L lines asked old new first last
  turns_end turns old new first last so_far all = record {
    line = so_far.line;
    whole = inl (subst (λ (n : ℕ). TakesTurns n so_far.line.part.given) all so_far.taken);
  }

  abbrev pub turns_idle : (other : ℕ) → other ≡ lines → (turns : ℕ) (answer : Answer) (old mid new : List Answer) (first last next : SessionAt L)
      → AnswersTurns L lines turns asked old mid first last → AnswersTruly L other asked answer last next → new ≡ mid ++ answer ∷ [] → is_busy answer ≡ false
      → turns < turns_of asked → AnswersWhole L lines asked old new first next
  turns_idle other same turns answer old mid new first last next so_far truly more idle early = record {
    line = line_grows answer old mid new first last next so_far.line (subst (λ (n : ℕ). AnswersTruly L n asked answer last next) same truly) more;
    whole = inr (record {
      before = so_far.line.part.given;
      last = answer;
      is = refl;
      idle = idle;
      busy = so_far.taken.busy;
      early = omega (arith, so_far.taken.count, early);
    });
  }
