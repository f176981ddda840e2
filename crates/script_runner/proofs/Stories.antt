-- The answers to a script, one line more at a time.
use Rattle.std.proofs.Common.{◌≡◌, ◌∙◌, ℕ, ◌+◌, ◌-◌, ◌<◌, All, arith, List, [], ◌∷◌, ◌++◌, length, take, get_or, Option, None, refl, sym, ap, subst}
use Rattle.std.specs.List.{flat_map}
use Rattle.std.proofs.Math.Seq.{take-length, take-append_seam}
use Rattle.std.proofs.lemmas.Grind.{flat_map-append}
use Rattle.std.proofs.lemmas.List.Sums.{fold-append}
use Rattle.std.proofs.lemmas.Option.{none-some}
use Rattle.script_runner.proofs.Common.{All-append, All-cons, All-nil, Answer, AnswersPart, AnswersWhole, BearsOut}
use Rattle.script_runner.proofs.Common.{Ghosts, GoesThrough, Ledger, ScriptLine, SessionAt, append-nil, append_assoc}
use Rattle.script_runner.proofs.Common.{length-append, length-map, map-append, take_more}
use Rattle.script_runner.specs.Story.{Exchange, AreTrueOf, IsTrueStory, IsWhole, AreAnswered, AreAllAnswered, AreNearlyAnswered, AreCutShort, known_after, known_behind_all}

-- one true exchange more
pub story_push : (lines : ℕ) (known : Option Ledger) (story : List Exchange) (next : Exchange) → IsTrueStory lines known story → AreTrueOf lines (known_after known story) next.asked next.answers
    → IsTrueStory lines known (story ++ next ∷ [])
story_push lines known [] next so_far holds = (holds, tt)
story_push lines known (first ∷ story) next so_far holds = (so_far.0, story_push lines (known_behind_all first.asked first.answers known) story next so_far.1 holds)

pub after_push : (known : Option Ledger) (story : List Exchange) (next : Exchange) → known_after known (story ++ next ∷ []) ≡ known_behind_all next.asked next.answers (known_after known story)
after_push known story next = fold-append (λ (k : Option Ledger) (x : Exchange). known_behind_all x.asked x.answers k) known story (next ∷ [])

-- one line more was asked, and these answers followed
abbrev pub answered_push : (lines : ℕ) (asked : List ScriptLine) (old mid new : List Answer) (answered : AreAnswered lines asked old mid) (next : Exchange) → new ≡ mid ++ next.answers
    → AreTrueOf lines (known_after None answered.story) next.asked next.answers → AreAnswered lines (asked ++ next.asked ∷ []) old new
answered_push lines asked old mid new answered next grown holds =
    let said : Exchange → List Answer = λ exchange. exchange.answers in
    let story : List Exchange = answered.story in
    let more : flat_map said (story ++ next ∷ []) ≡ flat_map said story ++ next.answers =
    flat_map-append said story (next ∷ []) ∙ ap (λ (list : List Answer). flat_map said story ++ list) (append-nil next.answers) in
    record {
      story = story ++ next ∷ [];
      asked_are = map-append (λ (exchange : Exchange). exchange.asked) story (next ∷ []) ∙ ap (λ (ls : List ScriptLine). ls ++ next.asked ∷ []) answered.asked_are;
      answers_are = grown ∙ ap (λ (list : List Answer). list ++ next.answers) answered.answers_are ∙ append_assoc old (flat_map said story) next.answers ∙ ap (λ (list : List Answer). old ++ list) (sym more);
      holds = story_push lines None story next answered.holds holds;
    }

-- before the first line
abbrev pub none_answered : (lines : ℕ) (old new : List Answer) → new ≡ old → AreAnswered lines [] old new
none_answered lines old new same = record { story = []; asked_are = refl; answers_are = same ∙ sym (append-nil old); holds = tt }

pub cut_first : (lines : ℕ) (asked : List ScriptLine) (old new : List Answer) → new ≡ old → AreCutShort lines asked old new
cut_first lines asked old new same = record { run = 0; nearly = record { answered = none_answered lines old new same; whole = All-nil IsWhole } }

-- one line more, which may lack answers
nearly_push : (lines : ℕ) (asked : List ScriptLine) (old mid new : List Answer) (answered : AreAnswered lines asked old mid) (next : Exchange) → All IsWhole answered.story → new ≡ mid ++ next.answers
    → AreTrueOf lines (known_after None answered.story) next.asked next.answers → AreNearlyAnswered lines (asked ++ next.asked ∷ []) old new
nearly_push lines asked old mid new answered next whole grown holds =
    let story : List Exchange = answered.story in
    let each : length story ≡ length asked = sym (length-map story (λ (exchange : Exchange). exchange.asked)) ∙ ap length answered.asked_are in
    let size : length (asked ++ next.asked ∷ []) ≡ length asked + 1 = length-append asked (next.asked ∷ []) in
    let front : length (asked ++ next.asked ∷ []) - 1 ≡ length story = omega (arith, each, size) in
    let taken : take (length (asked ++ next.asked ∷ []) - 1) (story ++ next ∷ []) ≡ story =
    ap (λ (n : ℕ). take n (story ++ next ∷ [])) front ∙ take-append_seam story (next ∷ []) in
    record {
      answered = answered_push lines asked old mid new answered next grown holds;
      whole = subst (λ (list : List Exchange). All IsWhole list) (sym taken) whole;
    }

module _ {K : Type 0} (L : Ghosts K) (lines : ℕ) where
  abbrev pub through_begins : (old : List Answer) (at : SessionAt L) → GoesThrough L lines [] old old at
  through_begins old at = record {
    answered = none_answered lines old old refl;
    whole = All-nil IsWhole;
    bears = λ ledger is. absurd (none-some ledger is);
  }

  abbrev pub pushed : (asked : List ScriptLine) (line : ScriptLine) (old mid new : List Answer) (last next : SessionAt L) → GoesThrough L lines asked old mid last
      → AnswersWhole L lines line mid new last next → GoesThrough L lines (asked ++ line ∷ []) old new next
  pushed asked line old mid new last next through whole =
      let exchange : Exchange = record { asked = line; answers = whole.line.part.given } in
      let story : List Exchange = through.answered.story in
      record {
        answered = answered_push lines asked old mid new through.answered exchange whole.line.part.grown_by (whole.line.part.holds (known_after None story) through.bears);
        whole = All-append IsWhole story (exchange ∷ []) through.whole (All-cons IsWhole exchange [] whole.whole (All-nil IsWhole));
        bears = subst (λ (k : Option Ledger). BearsOut L lines k next) (sym (after_push None story exchange)) (whole.line.keeps (known_after None story) through.bears);
      }

  -- the next of the lines
  pub through_grows : (other : ℕ) → other ≡ lines → (script : List ScriptLine) (i : ℕ) (none : ScriptLine) (old mid new : List Answer) (last next : SessionAt L) → i < length script
      → GoesThrough L lines (take i script) old mid last → AnswersWhole L other (get_or script i none) mid new last next → GoesThrough L lines (take (i + 1) script) old new next
  through_grows other same script i none old mid new last next inside through whole =
      subst (λ (ls : List ScriptLine). GoesThrough L lines ls old new next) (sym (take_more script i none inside))
      (pushed (take i script) (get_or script i none) old mid new last next through
      (subst (λ (n : ℕ). AnswersWhole L n (get_or script i none) mid new last next) same whole))

  pub through_cut : (other : ℕ) → other ≡ lines → (script : List ScriptLine) (i : ℕ) (none : ScriptLine) (old mid new : List Answer) (last : SessionAt L) → i < length script
      → GoesThrough L lines (take i script) old mid last → AnswersPart L other (get_or script i none) mid new last → AreCutShort lines script old new
  through_cut other same script i none old mid new last inside through cut =
      let part : AnswersPart L lines (get_or script i none) mid new last = subst (λ (n : ℕ). AnswersPart L n (get_or script i none) mid new last) same cut in
      let exchange : Exchange = record { asked = get_or script i none; answers = part.given } in
      record {
        run = i + 1;
        nearly = subst (λ (ls : List ScriptLine). AreNearlyAnswered lines ls old new) (sym (take_more script i none inside))
            (nearly_push lines (take i script) old mid new through.answered exchange through.whole part.grown_by (part.holds (known_after None through.answered.story) through.bears));
      }

  pub through_ends : (script : List ScriptLine) (i : ℕ) (old new : List Answer) (last : SessionAt L) → i ≡ length script → GoesThrough L lines (take i script) old new last → AreAllAnswered lines script old new
  through_ends script i old new last all so_far =
      let taken : take i script ≡ script = ap (λ (n : ℕ). take n script) all ∙ take-length script in
      let through : GoesThrough L lines script old new last = subst (λ (ls : List ScriptLine). GoesThrough L lines ls old new last) taken so_far in
      record { answered = through.answered; whole = through.whole }
