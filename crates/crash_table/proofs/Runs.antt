-- Runs of lines of which the last is a restore.
use Rattle.std.proofs.Common.{◌≡◌, ◌∙◌, inl, inr, ℕ, ◌-◌, true, List, [], ◌∷◌, ◌++◌, length, map, All, Option, Some, None, refl, sym, ap, subst, arith}
use Rattle.std.specs.Option.{unwrap_or}
use Rattle.std.proofs.lemmas.List.{append-nil, get_or_append_left, get_or_at, length-append, same_from_push}
use Rattle.std.proofs.lemmas.List.Elements.{All-append, All-cons, All-nil, All-from_get_or}
use Rattle.std.proofs.lemmas.Grind.{flat_map-append}
use Rattle.ddr4_timing.specs.declared.timing.Geometry.{Geometry}
use Rattle.save_device.specs.declared.memory.Pick.{Pick}
use Rattle.slot_store.specs.declared.restoring.Verdict.TheVariants.{Complete, PossibleLoss}
use Rattle.nv_script.specs.Line.{NamesChannelOf}
use Rattle.nv_script.specs.declared.line.ScriptLine.{ScriptLine}
use Rattle.nv_script.specs.declared.line.ScriptLine.TheVariants as line
use Rattle.nv_script.specs.declared.answer.Answer.{Answer}
use Rattle.nv_script.specs.declared.answer.Answer.TheVariants as answer
use Rattle.script_runner.specs.Ledger.{Ledger, IsTrueBy, IsTrueOf}
use Rattle.script_runner.specs.Story.{Exchange, AreAllAnswered, AreTrueOf, FillTurns, IsTrueStory, IsWhole, known_after, known_behind_all, turns_of}
use Rattle.crash_table.specs.declared.outcome.Outcome.{Outcome}
use Rattle.crash_table.specs.Counting.{writes_found, is_complete, missing}
use Rattle.crash_table.specs.Outcomes.{IsOutcomeOf, found_by, told_of}
use Rattle.crash_table.proofs.Told.{answers_in, told_all, told_is}

abbrev lines_in : List Exchange → List ScriptLine
lines_in story = map (λ exchange. exchange.asked) story

-- a story of lines and a last one is a story of the lines, and of that one
record EndsWith (story : List Exchange) (lines : List ScriptLine) (last : ScriptLine) : Type 0 where
  before : List Exchange
  end : Exchange
  is : story ≡ before ++ end ∷ []
  asked : lines_in before ≡ lines
  last_is : end.asked ≡ last

ends_with : (story : List Exchange) (lines : List ScriptLine) (last : ScriptLine) → lines_in story ≡ lines ++ last ∷ [] → EndsWith story lines last
ends_with [] [] last e = absurd cc
ends_with [] (first ∷ lines) last e = absurd cc
ends_with (end ∷ []) [] last e = record { before = []; end = end; is = refl; asked = refl; last_is = cc }
ends_with (end ∷ next ∷ story) [] last e = absurd cc
ends_with (exchange ∷ story) (first ∷ lines) last e =
    let rest : lines_in story ≡ lines ++ last ∷ [] = cc in
    let head : exchange.asked ≡ first = cc in
    let it : EndsWith story lines last = ends_with story lines last rest in
    record {
      before = exchange ∷ it.before;
      end = it.end;
      is = ap (λ (s : List Exchange). exchange ∷ s) it.is;
      asked = ap (λ (l : ScriptLine). l ∷ lines_in it.before) head ∙ ap (λ (ls : List ScriptLine). first ∷ ls) it.asked;
      last_is = it.last_is;
    }

-- it is true as far as the last one, and so is what that one was answered
record TrueAsFar (size : ℕ) (known : Option Ledger) (before : List Exchange) (end : Exchange) : Type 0 where
  front : IsTrueStory size known before
  last : AreTrueOf size (known_after known before) end.asked end.answers

true_as_far : (size : ℕ) (known : Option Ledger) (before : List Exchange) (end : Exchange) → IsTrueStory size known (before ++ end ∷ []) → TrueAsFar size known before end
true_as_far size known [] end holds = record { front = tt; last = holds.0 }
true_as_far size known (first ∷ before) end holds =
    let it : TrueAsFar size (known_behind_all first.asked first.answers known) before end = true_as_far size (known_behind_all first.asked first.answers known) before end holds.1 in
    record { front = (holds.0, it.front); last = it.last }

whole_front : (before : List Exchange) (end : Exchange) → All IsWhole (before ++ end ∷ []) → All IsWhole before
whole_front before end whole = All-from_get_or IsWhole before end
    (λ i below. subst IsWhole (get_or_append_left before (end ∷ []) end i below) (whole i end (omega (arith, length-append before (end ∷ [])))))

whole_last : (before : List Exchange) (end : Exchange) → All IsWhole (before ++ end ∷ []) → IsWhole end
whole_last before end whole = subst IsWhole (get_or_at before end [] end (length before) refl) (whole (length before) end (omega (arith, length-append before (end ∷ []))))

-- a line of one turn has one answer
pub fills_one : (answers : List Answer) → FillTurns 1 answers → length answers ≡ 1
fills_one answers (inl takes) = takes.count
fills_one answers (inr ends) = ap length ends.is ∙ length-append ends.before (ends.last ∷ []) ∙ omega (arith, ends.early)

pub record OneAnswer (size : ℕ) (known : Option Ledger) (asked : ScriptLine) (answers : List Answer) : Type 0 where
  pub given : Answer
  pub is : answers ≡ given ∷ []
  pub holds : IsTrueOf size known asked given

pub one_answer : (size : ℕ) (known : Option Ledger) (asked : ScriptLine) (answers : List Answer) → length answers ≡ 1 → AreTrueOf size known asked answers → OneAnswer size known asked answers
one_answer size known asked [] e holds = absurd cc
one_answer size known asked (given ∷ []) e holds = record { given = given; is = refl; holds = holds.0 }
one_answer size known asked (given ∷ next ∷ answers) e holds = absurd (omega arith)

abbrev pub restore_by : Pick → ScriptLine
restore_by pick = line.Restore (Some pick) None

-- what the last answer of a run tells is what a restore found behind its lines
pub restored_by : (size : ℕ) (lines : List ScriptLine) (pick : Pick) (answers : List Answer) → AreAllAnswered size (lines ++ restore_by pick ∷ []) [] answers
    → (before : List Answer) (given : Answer) → answers ≡ before ++ given ∷ []
    → (outcome : Outcome) → outcome.found ≡ found_by given → outcome.told ≡ unwrap_or (told_all None before) 0 → IsOutcomeOf size lines pick outcome
restored_by size lines pick answers all before given split outcome found told =
    let it : EndsWith all.answered.story lines (restore_by pick) = ends_with all.answered.story lines (restore_by pick) all.answered.asked_are in
    let far : TrueAsFar size None it.before it.end = true_as_far size None it.before it.end (subst (IsTrueStory size None) it.is all.answered.holds) in
    let whole : All IsWhole (it.before ++ it.end ∷ []) = subst (All IsWhole) it.is all.whole in
    let known : Option Ledger = known_after None it.before in
    let fills : FillTurns 1 it.end.answers = subst (λ (asked : ScriptLine). FillTurns (turns_of asked) it.end.answers) it.last_is (whole_last it.before it.end whole) in
    let true_of : AreTrueOf size known (restore_by pick) it.end.answers = subst (λ (asked : ScriptLine). AreTrueOf size known asked it.end.answers) it.last_is far.last in
    let one : OneAnswer size known (restore_by pick) it.end.answers = one_answer size known (restore_by pick) it.end.answers (fills_one it.end.answers fills) true_of in
    let said : Exchange → List Answer = λ exchange. exchange.answers in
    let parts : answers_in (it.before ++ it.end ∷ []) ≡ answers_in it.before ++ one.given ∷ [] =
    flat_map-append said it.before (it.end ∷ []) ∙ ap (λ (more : List Answer). answers_in it.before ++ more) (append-nil it.end.answers ∙ one.is) in
    let same : before ++ given ∷ [] ≡ answers_in it.before ++ one.given ∷ [] = sym split ∙ all.answered.answers_are ∙ ap answers_in it.is ∙ parts in
    let ends = same_from_push before (answers_in it.before) given one.given same in
    record {
      story = it.before;
      run = record { asked = it.asked; holds = far.front; whole = whole_front it.before it.end whole };
      told = told ∙ ap (λ (some : List Answer). unwrap_or (told_all None some) 0) ends.0 ∙ told_is it.before;
      given = one.given;
      holds = one.holds;
      found = found ∙ ap found_by ends.1;
    }

lacks_none : (size : ℕ) (known : Option Ledger) (given : Answer) → ((ledger : Ledger) → known ≡ Some ledger → IsTrueBy size given ledger)
    → is_complete (found_by given) ≡ true → told_of known - writes_found (found_by given) ≡ 0
lacks_none size None given holds complete = omega arith
lacks_none size (Some ledger) (answer.Restored generation count Complete) holds complete =
    let within = (holds ledger refl).1 refl in omega (arith, within)
lacks_none size (Some ledger) (answer.Restored generation count (PossibleLoss after)) holds complete = absurd cc
lacks_none size (Some ledger) given holds complete = absurd cc

-- a restore that is told Complete lacks no write that was told to be persistent
pub complete_lacks_none : (size : ℕ) (lines : List ScriptLine) (pick : Pick) (outcome : Outcome) → IsOutcomeOf size lines pick outcome → is_complete outcome.found ≡ true → missing outcome ≡ 0
complete_lacks_none size lines pick outcome restored complete =
    let known : Option Ledger = known_after None restored.story in
    let same : missing outcome ≡ told_of known - writes_found (found_by restored.given) =
    ap (λ (n : ℕ). n - writes_found outcome.found) restored.told ∙ ap (λ found. told_of known - writes_found found) restored.found in
    same ∙ lacks_none size known restored.given restored.holds.holds (sym (ap is_complete restored.found) ∙ complete)

-- the lines that are run name channels that are there
pub names_restored : (geometry : Geometry) (lines : List ScriptLine) (pick : Pick) → All (NamesChannelOf geometry) lines → All (NamesChannelOf geometry) (lines ++ restore_by pick ∷ [])
names_restored geometry lines pick names =
    let P : ScriptLine → Type 0 = NamesChannelOf geometry in All-append P lines (restore_by pick ∷ []) names (All-cons P (restore_by pick) [] tt (All-nil P))
