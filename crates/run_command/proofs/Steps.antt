-- Steps of the loops over a script's lines, over those of a life, and over lives.
use Rattle.std.proofs.Common.{◌≡◌, ◌∙◌, ℕ, ◌+◌, ◌-◌, ◌^◌, ◌<◌, ◌≤◌, min, Bool, true, false, if◌then◌else◌, List, [], ◌∷◌, ◌++◌, take, drop, get_or, length, Some, None, ap, append_assoc, append-nil, arith, length-take, refl, subst, sym, count_by}
use Rattle.std.specs.List.{flat_map, slice_get}
use Rattle.std.proofs.lemmas.List.{at_drop_more, drop_all, drop_more, flat_map_more, length_push, take_all, take_more}
use Rattle.std.proofs.lemmas.List.Sums.{count_by-le-length, count_by_more_no, count_by_more_yes}
use Rattle.interleave_map.specs.declared.ready.ReadyMap.{ReadyMap}
use Rattle.nv_profile.specs.declared.profile.Profile.{Profile}
use Rattle.nv_script.specs.declared.answer.Answer.{Answer}
use Rattle.nv_script.specs.declared.line.ScriptLine.{ScriptLine}
use Rattle.request_waits.specs.declared.writes.AcceptedWrite.{AcceptedWrite}
use Rattle.run_command.specs.Answered.{answered, answered_lines, count_to, map_begun}
use Rattle.run_command.specs.Requests.{AreRequests, Scene, TellsLife, TellsLives, TellsWaits, before_begin, count_before_begin, lists_of, more_waiting, reads_told, scene_of, tells_waiting, writes_told}
use Rattle.run_command.specs.declared.answered.AnsweredLine.{AnsweredLine}
use Rattle.run_command.specs.declared.requests.LifeWaits.{LifeWaits}
use Rattle.run_command.specs.declared.requests.Requests.{Requests}
use Rattle.script_runner.specs.Ended.{Kept}

-- a line whose own answers have a first one, and one that has none
pub first_answered : (number : ℕ) (asked : ScriptLine) (own : List Answer) (first : Answer) → Some first ≡ slice_get own 0
    → answered number asked own ≡ record { number = number; line = asked; answer = first } ∷ []
first_answered number asked [] first is = absurd (let no : Some first ≡ None = is in cc)
first_answered number asked (x ∷ later) first is = let same : first ≡ x = (let some : Some first ≡ Some x = is in cc) in rw same refl

pub none_answered : (number : ℕ) (asked : ScriptLine) (own : List Answer) → None ≡ slice_get own 0 → answered number asked own ≡ []
none_answered number asked [] is = refl
none_answered number asked (x ∷ later) is = absurd (let no : None ≡ Some x = is in cc)

-- one line more of a script
pub line_answered : (number : ℕ) (lines : List ScriptLine) (left : List Answer) (i : ℕ) (d : ScriptLine) → i < length lines
    → answered_lines number (drop i lines) left
    ≡ answered number (get_or lines i d) (take (count_to (get_or lines i d) left) left) ++ answered_lines (number + 1) (drop (i + 1) lines) (drop (count_to (get_or lines i d) left) left)
line_answered number lines left i d inside = at_drop_more (λ rest. answered_lines number rest left) lines i d inside

-- and with it
module _ (lines : List ScriptLine) (answers left : List Answer) (told : List AnsweredLine) (i : ℕ) (d : ScriptLine) (inside : i < length lines) where
  pub line_taken : (count : ℕ) (own later : List Answer) (here : List AnsweredLine) → count ≡ count_to (get_or lines i d) left → own ≡ take count left → later ≡ drop count left
      → answered (i + 1) (get_or lines i d) own ≡ here → answered_lines 1 lines answers ≡ told ++ answered_lines (i + 1) (drop i lines) left
      → answered_lines 1 lines answers ≡ (told ++ here) ++ answered_lines (i + 1 + 1) (drop (i + 1) lines) later
  line_taken count own later here count_is own_is later_is here_is before =
      let line = get_or lines i d in
      let all = answered_lines (i + 1 + 1) (drop (i + 1) lines) in
      let front : take (count_to line left) left ≡ own = ap (λ (n : ℕ). take n left) (sym count_is) ∙ sym own_is in
      let behind : drop (count_to line left) left ≡ later = ap (λ (n : ℕ). drop n left) (sym count_is) ∙ sym later_is in
      before ∙ (ap (λ (rest : List AnsweredLine). told ++ rest) (line_answered (i + 1) lines left i d inside)
      ∙ (ap (λ (its : List Answer). told ++ (answered (i + 1) line its ++ all (drop (count_to line left) left))) front
      ∙ (ap (λ (rest : List Answer). told ++ (answered (i + 1) line own ++ all rest)) behind
      ∙ (ap (λ (first : List AnsweredLine). told ++ (first ++ all later)) here_is ∙ sym (append_assoc told here (all later))))))

-- what one line more of a life tells
told_more : {A : Type 0} (told : AnsweredLine → List A) (lines : List AnsweredLine) (i : ℕ) (d : AnsweredLine) → i < length lines
    → flat_map told (take (i + 1) lines) ≡ flat_map told (take i lines) ++ told (get_or lines i d)
told_more told lines i d inside = ap (λ front. flat_map told front) (take_more lines i d inside) ∙ sym (flat_map_more told [] (take i lines) (get_or lines i d))

-- and how many reads wait behind it
counted : (waits : Bool) (n m : ℕ) → n + 1 < 2 ^ 64 → (waits ≡ true → m ≡ n + 1) → (waits ≡ false → m ≡ n) → (if waits then min (n + 1) (2 ^ 64 - 1) else n) ≡ m
counted true n m few is isnt = omega (arith, is refl)
counted false n m few is isnt = sym (isnt refl)

waiting_more : (n : ℕ) (lines : List AnsweredLine) (i : ℕ) (d : AnsweredLine) → i < length lines → n + 1 < 2 ^ 64 → n ≡ count_by tells_waiting (take i lines)
    → more_waiting n (get_or lines i d) ≡ count_by tells_waiting (take (i + 1) lines)
waiting_more n lines i d inside few is =
    counted (tells_waiting (get_or lines i d)) n (count_by tells_waiting (take (i + 1) lines)) few
    (λ waits. count_by_more_yes tells_waiting lines i d inside waits ∙ ap (λ (m : ℕ). m + 1) (sym is))
    (λ none. count_by_more_no tells_waiting lines i d inside none ∙ sym is)

-- the requests that these lines of a life tell of
abbrev pub HasTaken : Scene → List AnsweredLine → Requests → Type 0
HasTaken scene lines r = AreRequests scene (flat_map (writes_told scene) lines) (flat_map (reads_told scene) lines) (count_by tells_waiting lines) r

module _ (scene : Scene) (lines : List AnsweredLine) (i : ℕ) (d : AnsweredLine) (inside : i < length lines) (few : i + 1 < 2 ^ 64) where
  pub one_taken : (old new : Requests) → HasTaken scene (take i lines) old
      → AreRequests (scene_of old) (old.writes.items ++ writes_told (scene_of old) (get_or lines i d)) (old.reads.items ++ reads_told (scene_of old) (get_or lines i d))
      (more_waiting old.unanswered (get_or lines i d)) new → HasTaken scene (take (i + 1) lines) new
  one_taken old new before taken =
      let line = get_or lines i d in
      let writes = flat_map (writes_told scene) (take i lines) in
      let reads = flat_map (reads_told scene) (take i lines) in
      let few_wait : old.unanswered + 1 < 2 ^ 64 = omega (arith, before.unanswered_are, count_by-le-length tells_waiting (take i lines), length-take i lines, few) in
      record {
        scene_is = taken.scene_is ∙ before.scene_is;
        writes_are = taken.writes_are ∙ (ap (λ (row : List AcceptedWrite). row ++ writes_told (scene_of old) line) before.writes_are
            ∙ (ap (λ (s : Scene). writes ++ writes_told s line) before.scene_is ∙ sym (told_more (writes_told scene) lines i d inside)));
        reads_are = taken.reads_are ∙ (ap (λ (row : List ℕ). row ++ reads_told (scene_of old) line) before.reads_are
            ∙ (ap (λ (s : Scene). reads ++ reads_told s line) before.scene_is ∙ sym (told_more (reads_told scene) lines i d inside)));
        unanswered_are = taken.unanswered_are ∙ waiting_more old.unanswered lines i d inside few_wait before.unanswered_are;
      }

-- and with all lines
pub all_taken : (run : Kept) (life : ℕ) (over : ReadyMap) (lines : List AnsweredLine) (i : ℕ) (r : Requests) (told : LifeWaits) → length lines ≤ i
    → HasTaken (record { run = run; life = life; map = over }) (take i lines) r
    → TellsWaits (lists_of r.run.now r.life) r.writes.items r.reads.items r.unanswered told → TellsLife run life over lines told
all_taken run life over lines i r told past taken tells =
    let scene : Scene = record { run = run; life = life; map = over } in
    let all : take i lines ≡ lines = take_all i lines past in
    subst (λ (front : List AnsweredLine). TellsWaits (lists_of run life) (flat_map (writes_told scene) front) (flat_map (reads_told scene) front) (count_by tells_waiting front) told) all
    (subst (λ (s : Scene). TellsWaits (lists_of s.run s.life) (flat_map (writes_told scene) (take i lines)) (flat_map (reads_told scene) (take i lines)) (count_by tells_waiting (take i lines)) told) taken.scene_is
    (subst (λ (n : ℕ). TellsWaits (lists_of r.run.now r.life) (flat_map (writes_told scene) (take i lines)) (flat_map (reads_told scene) (take i lines)) n told) taken.unanswered_are
    (subst (λ (reads : List ℕ). TellsWaits (lists_of r.run.now r.life) (flat_map (writes_told scene) (take i lines)) reads r.unanswered told) taken.reads_are
    (subst (λ (writes : List AcceptedWrite). TellsWaits (lists_of r.run.now r.life) writes r.reads.items r.unanswered told) taken.writes_are tells))))

-- what is told of the lives so far is the beginning of what is told of all
abbrev pub Begins : Profile → Kept → List AnsweredLine → List AnsweredLine → List LifeWaits → Type 0
Begins profile run all left lives = (others : List LifeWaits) → TellsLives profile run (length lives) left others → TellsLives profile run 0 all (lives ++ others)

-- a line that begins no life, and one that does
no_begin : (profile : Profile) (run : Kept) (life : ℕ) (l : AnsweredLine) (later : List AnsweredLine) (told : List LifeWaits) → map_begun profile l ≡ None
    → TellsLives profile run life later told → TellsLives profile run life (l ∷ later) told
no_begin profile run life l later told isnt tells = rw isnt tells

one_begin : (profile : Profile) (run : Kept) (life : ℕ) (l : AnsweredLine) (later : List AnsweredLine) (over : ReadyMap) (first : LifeWaits) (others : List LifeWaits)
    → map_begun profile l ≡ Some over → TellsLife run life over (before_begin profile later) first → TellsLives profile run (life + 1) later others
    → TellsLives profile run life (l ∷ later) (first ∷ others)
one_begin profile run life l later over first others is tells told = rw is (first, others, tells, told, refl)

module _ (profile : Profile) (run : Kept) (all : List AnsweredLine) where
  pub begins_nothing : (lives : List LifeWaits) → lives ≡ [] → Begins profile run all all lives
  begins_nothing lives none = subst (Begins profile run all all) (sym none) (λ others told. told)

  pub all_lives : (i : ℕ) (lives : List LifeWaits) → length all ≤ i → Begins profile run all (drop i all) lives → TellsLives profile run 0 all lives
  all_lives i lives past before =
      subst (λ (told : List LifeWaits). TellsLives profile run 0 all told) (append-nil lives)
      (before [] (subst (λ (left : List AnsweredLine). TellsLives profile run (length lives) left []) (sym (drop_all i all past)) refl))

  module _ (i : ℕ) (l : AnsweredLine) (inside : i < length all) (is : l ≡ get_or all i l) where
    one_line : drop i all ≡ l ∷ drop (i + 1) all
    one_line = drop_more all i l inside ∙ ap (λ (first : AnsweredLine). first ∷ drop (i + 1) all) (sym is)

    pub life_begins : (lives new : List LifeWaits) (over : ReadyMap) (first : LifeWaits) → map_begun profile l ≡ Some over
        → TellsLife run (length lives) over (before_begin profile (drop (i + 1) all)) first → new ≡ lives ++ first ∷ []
        → Begins profile run all (drop i all) lives → Begins profile run all (drop (i + 1) all) new
    life_begins lives new over first begun tells new_is before =
        subst (Begins profile run all (drop (i + 1) all)) (sym new_is) (λ others told.
        subst (λ (whole : List LifeWaits). TellsLives profile run 0 all whole) (sym (append_assoc lives (first ∷ []) others))
        (before (first ∷ others) (subst (λ (left : List AnsweredLine). TellsLives profile run (length lives) left (first ∷ others)) (sym one_line)
        (one_begin profile run (length lives) l (drop (i + 1) all) over first others begun tells
        (subst (λ (n : ℕ). TellsLives profile run n (drop (i + 1) all) others) (length_push lives first) told)))))

    pub nothing_begins : (lives new : List LifeWaits) → map_begun profile l ≡ None → new ≡ lives
        → Begins profile run all (drop i all) lives → Begins profile run all (drop (i + 1) all) new
    nothing_begins lives new isnt new_is before =
        subst (Begins profile run all (drop (i + 1) all)) (sym new_is) (λ others told.
        before others (subst (λ (left : List AnsweredLine). TellsLives profile run (length lives) left others) (sym one_line)
        (no_begin profile run (length lives) l (drop (i + 1) all) others isnt told)))

-- the lines of a life, as they are cut out of those behind its first one
pub own_lines : (profile : Profile) (run : Kept) (later cut : List AnsweredLine) (n life len : ℕ) (over : ReadyMap) (told : LifeWaits) → cut ≡ later
    → n ≡ count_before_begin profile cut → len ≡ life → TellsLife run len over (take n cut) told → TellsLife run life over (before_begin profile later) told
own_lines profile run later cut n life len over told cut_is n_is len_is tells =
    subst (λ (m : ℕ). TellsLife run m over (before_begin profile later) told) len_is
    (subst (λ (r : List AnsweredLine). TellsLife run len over (before_begin profile r) told) cut_is
    (subst (λ (m : ℕ). TellsLife run len over (take m cut) told) n_is tells))
