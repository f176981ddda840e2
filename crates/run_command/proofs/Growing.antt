-- What a writer holds, as its printer takes answers.
use Rattle.std.proofs.Common.{◌≡◌, ◌∙◌, ℕ, Bool, true, false, List, [], ◌∷◌, ◌++◌, Option, Result, Ok, Err, IfOk, ap, append_assoc, append-nil, refl, subst, sym}
use Rattle.std.specs.Io.KnownBytes.{Appends, Keeps}
use Rattle.std.proofs.KnownBytes.{Appends-kept, Appends-nil, Appends-trans}
use Rattle.std.proofs.lemmas.List.Concat.{flat_map-append, flat_map-cons}
use Rattle.nv_profile.specs.declared.profile.Profile.{Profile}
use Rattle.nv_script.specs.declared.answer.Answer.{Answer}
use Rattle.run_command.specs.Forms.{WritesMore, line_in, lines_in}
use Rattle.run_command.specs.Whole.{IsRunTold, RunsWhole, WritesBehind, WritesRun}

-- the lines of answers and of one more
pub lines_more : (is_json : Bool) (answers : List Answer) (answer : Answer) → lines_in is_json (answers ++ answer ∷ []) ≡ lines_in is_json answers ++ (line_in is_json answer ++ 10 ∷ [])
lines_more is_json answers answer =
    let line : Answer → List ℕ = λ (a : Answer). line_in is_json a ++ 10 ∷ [] in
    flat_map-append line answers (answer ∷ []) ∙ ap (λ (text : List ℕ). lines_in is_json answers ++ text) (flat_map-cons line answer [] ∙ append-nil (line answer))

-- none was taken yet
pub writes_none : (is_json : Bool) (taken : List Answer) (held : Option (List ℕ)) → WritesMore is_json taken taken held held
writes_none is_json taken held = record { more = []; now_are = sym (append-nil taken); written = Appends-nil held }

module _ (is_json : Bool) (taken now later : List Answer) (first old new : Option (List ℕ)) (before : WritesMore is_json taken now first old) where
  -- one more was taken
  pub writes_one : (form : Bool) (answer : Answer) → form ≡ is_json → later ≡ now ++ answer ∷ [] → Appends old new (line_in form answer ++ 10 ∷ []) → WritesMore is_json taken later first new
  writes_one form answer is grown line = record {
    more = before.more ++ answer ∷ [];
    now_are = grown ∙ ap (λ (answers : List Answer). answers ++ answer ∷ []) before.now_are ∙ append_assoc taken before.more (answer ∷ []);
    written = subst (λ (text : List ℕ). Appends first new text) (sym (lines_more is_json before.more answer))
        (Appends-trans first old new (lines_in is_json before.more) (line_in is_json answer ++ 10 ∷ []) before.written
        (subst (λ (b : Bool). Appends old new (line_in b answer ++ 10 ∷ [])) is line));
  }

  -- what it holds stays
  pub writes_kept : later ≡ now → Keeps old new → WritesMore is_json taken later first new
  writes_kept same kept = record { more = before.more; now_are = same ∙ before.now_are; written = Appends-kept first old new (lines_in is_json before.more) before.written kept }

module _ (profile : Profile) (text : List ℕ) where
  -- the answers of a run, of which none was taken before
  pub run_written : (is_json form : Bool) (taken answers : List Answer) (old new : Option (List ℕ)) → form ≡ is_json → taken ≡ [] → RunsWhole profile text taken answers
      → WritesMore form taken answers old new → WritesRun is_json old new profile text
  run_written is_json form taken answers old new is none whole told =
      let all : told.more ≡ answers = sym (told.now_are ∙ ap (λ (before : List Answer). before ++ told.more) none) in
      record {
        answers = answers;
        whole = subst (λ (before : List Answer). RunsWhole profile text before answers) none whole;
        written = subst (λ (b : Bool). Appends old new (lines_in b answers)) is (subst (λ (more : List Answer). Appends old new (lines_in form more)) all told.written);
      }

  pub told_alone : (is_json stats : Bool) (old new : Option (List ℕ)) → WritesRun is_json old new profile text → IsRunTold is_json stats old new profile text
  told_alone is_json stats old new run = record {
    answers = run.answers;
    whole = run.whole;
    behind = [];
    alone = λ none. refl;
    written = subst (λ (told : List ℕ). Appends old new told) (sym (append-nil (lines_in is_json run.answers))) run.written;
  }

  -- a text behind them
  pub told_behind : (is_json stats alone : Bool) (old mid new : Option (List ℕ)) → (stats ≡ false → alone ≡ true) → WritesRun is_json old mid profile text → WritesBehind alone mid new
      → IsRunTold is_json stats old new profile text
  told_behind is_json stats alone old mid new unless run more = record {
    answers = run.answers;
    whole = run.whole;
    behind = more.behind;
    alone = λ none. more.none (unless none);
    written = Appends-trans old mid new (lines_in is_json run.answers) more.behind run.written more.written;
  }

-- the same, where the writer was lent to the printer and came back as that left it
pub run_back : {E : Type 0} (contents : E → Option (List ℕ)) (profile : Profile) (text : List ℕ) (is_json form : Bool) (taken answers : List Answer) (first old new back : E) → form ≡ is_json → taken ≡ [] → old ≡ first
    → RunsWhole profile text taken answers → WritesMore form taken answers (contents old) (contents new) → back ≡ new → WritesRun is_json (contents first) (contents back) profile text
run_back {E = E} contents profile text is_json form taken answers first old new back is none begun whole told comes =
    run_written profile text is_json form taken answers (contents first) (contents back) is none whole
    (subst (λ (from : E). WritesMore form taken answers (contents from) (contents back)) begun (subst (λ (to : E). WritesMore form taken answers (contents old) (contents to)) (sym comes) told))

-- what is so is so of each value of a call
pub if_ok_so : {A E P : Type 0} (result : Result A E) → P → IfOk result (λ value. P)
if_ok_so (Ok value) is = is
if_ok_so (Err fault) is = tt
