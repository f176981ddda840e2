-- How many writes are told to be persistent: by the answers, and by the story that they are told in.
use Rattle.std.proofs.Common.{◌≡◌, ◌∙◌, ℕ, List, [], ◌∷◌, Option, Some, None, refl, ap, fold}
use Rattle.std.specs.List.{flat_map}
use Rattle.std.specs.Option.{option_map, unwrap_or}
use Rattle.std.proofs.lemmas.List.Sums.{fold-append}
use Rattle.nv_script.specs.declared.line.ScriptLine.{ScriptLine}
use Rattle.nv_script.specs.declared.answer.Answer.{Answer}
use Rattle.nv_script.specs.declared.answer.Answer.TheVariants as answer
use Rattle.script_runner.specs.Ledger.{Ledger, known_behind}
use Rattle.script_runner.specs.Story.{Exchange, known_behind_all, known_after}
use Rattle.crash_table.specs.Outcomes.{told_behind, told_of}

abbrev pub told_all : Option ℕ → List Answer → Option ℕ
told_all told answers = fold (λ told given. told_behind given told) told answers

abbrev pub answers_in : List Exchange → List Answer
answers_in story = flat_map (λ exchange. exchange.answers) story

abbrev told_if : Option Ledger → Option ℕ
told_if known = option_map (λ ledger. ledger.told) known

told_step : (asked : ScriptLine) (given : Answer) (known : Option Ledger) → told_behind given (told_if known) ≡ told_if (known_behind asked given known)
told_step asked answer.Formatted known = refl
told_step asked answer.FormatFault known = refl
told_step asked (answer.Restored generation count verdict) None = refl
told_step asked (answer.Restored generation count verdict) (Some ledger) = refl
told_step asked (answer.RestoreRefused error) None = refl
told_step asked (answer.RestoreRefused error) (Some ledger) = refl
told_step asked given None = refl
told_step asked given (Some ledger) = refl

told_answers : (asked : ScriptLine) (answers : List Answer) (known : Option Ledger) → told_all (told_if known) answers ≡ told_if (known_behind_all asked answers known)
told_answers asked [] known = refl
told_answers asked (given ∷ answers) known =
    ap (λ (told : Option ℕ). told_all told answers) (told_step asked given known) ∙ told_answers asked answers (known_behind asked given known)

told_story : (story : List Exchange) (known : Option Ledger) → told_all (told_if known) (answers_in story) ≡ told_if (known_after known story)
told_story [] known = refl
told_story (exchange ∷ story) known =
    fold-append (λ (told : Option ℕ) (given : Answer). told_behind given told) (told_if known) exchange.answers (answers_in story)
    ∙ ap (λ (told : Option ℕ). told_all told (answers_in story)) (told_answers exchange.asked exchange.answers known)
    ∙ told_story story (known_behind_all exchange.asked exchange.answers known)

told_where_known : (known : Option Ledger) → unwrap_or (told_if known) 0 ≡ told_of known
told_where_known None = refl
told_where_known (Some ledger) = refl

-- the answers of a device's first lines tell what their story does
pub told_is : (story : List Exchange) → unwrap_or (told_all None (answers_in story)) 0 ≡ told_of (known_after None story)
told_is story = ap (λ (told : Option ℕ). unwrap_or told 0) (told_story story None) ∙ told_where_known (known_after None story)
