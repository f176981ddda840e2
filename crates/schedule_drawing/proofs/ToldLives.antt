-- Lives of a script that are drawn one behind another.
use Rattle.std.proofs.Common.{◌≡◌, ◌≢◌, ◌⊎◌, inl, inr, ℕ, zero, suc, ◌+◌, ◌-◌, ◌<◌, ◌≤◌, false, List, [], ◌∷◌, ◌++◌, append_assoc, append-nil, length, take, drop, arith, refl, sym, ap, subst, ◌∙◌}
use Rattle.std.specs.Prelude.{filter_map, map, All}
use Rattle.std.specs.List.{flat_map}
use Rattle.std.proofs.Math.Seq.{drop-append_seam, take-append_seam}
use Rattle.std.proofs.lemmas.Grind.{flat_map-append}
use Rattle.std.proofs.lemmas.List.{drop-drop, drop-take, length-drop, map-append, take-append-drop, take_all}
use Rattle.std.proofs.lemmas.List.Elements.{All-append, All-cons, All-drop, All-nil, All-take}
use Rattle.std.proofs.lemmas.List.Quantifiers.{all_pairs_push}
use Rattle.ddr4_timing.specs.declared.timing.Timing.{Timing}
use Rattle.nv_script.specs.declared.answer.Answer.{Answer}
use Rattle.schedule_drawing.specs.declared.schedule.Schedule.{Schedule}
use Rattle.schedule_drawing.specs.declared.shapes.Shape.{Shape}
use Rattle.schedule_drawing.specs.Drawing.{shape_to}
use Rattle.schedule_drawing.specs.Events.{entry_told, event_place, events_told}
use Rattle.schedule_drawing.specs.Lives.{EndBy}
use Rattle.schedule_drawing.specs.Schedules.{AddsLife, IsShownWhole, ShowsSame}
use Rattle.schedule_drawing.specs.Telling.{BeginsBehind, IsOneLife, StartsLife, TellsAll, ToldLife, begins_life, life_drawn, life_events}

-- the schedule tells the answers that stand before those that are left
abbrev pub TellsBefore : Timing → List Answer → List Answer → Schedule → Type 0
TellsBefore t answers left schedule =
    (done : List Answer) × (tells : TellsAll t done schedule)
    × (done ++ left ≡ answers) × ((tells.lives ≡ []) ⊎ StartsLife left)

pub tells-none : (t : Timing) (answers : List Answer) (schedule : Schedule)
    → schedule.shapes.items ≡ [] → schedule.begins.items ≡ [] → schedule.events.items ≡ [] → schedule.flaws.items ≡ []
    → IsShownWhole schedule → TellsBefore t answers answers schedule
tells-none t answers schedule shapes begins events flaws whole = (
  [],
  record {
    lives = [];
    answers_are = refl;
    one = All-nil (λ (life : ToldLife). IsOneLife life.answers);
    started = All-nil (λ (life : ToldLife). StartsLife life.answers);
    first = All-nil (λ (life : ToldLife). life.begin ≡ 0);
    behind = λ i j d less within. absurd (omega (arith, within));
    begins = begins;
    shapes = shapes;
    events = ap (λ l. map event_place l) events;
    flaws = flaws;
    whole = whole;
  },
  refl,
  inl refl,
)

starts-front : (n : ℕ) (left : List Answer) → 0 < n → StartsLife left → StartsLife (take n left)
starts-front zero left some starts = absurd (omega (arith, some))
starts-front (suc m) [] some starts = tt
starts-front (suc m) (first ∷ others) some starts = starts

first-front : (lives : List ToldLife) (n : ℕ) (left life : List Answer) → 0 < n → life ≡ take n left
    → ((lives ≡ []) ⊎ StartsLife left) → ((lives ≡ []) ⊎ StartsLife life)
first-front lives n left life some is (inl none) = inl none
first-front lives n left life some is (inr starts) = inr (rw is (starts-front n left some starts))

started-more : (lives : List ToldLife) (next : ToldLife) → ((lives ≡ []) ⊎ StartsLife next.answers)
    → All (λ (life : ToldLife). StartsLife life.answers) (drop 1 lives)
    → All (λ (life : ToldLife). StartsLife life.answers) (drop 1 (lives ++ next ∷ []))
started-more [] next first old = All-nil (λ (life : ToldLife). StartsLife life.answers)
started-more (life ∷ more) next (inl none) old = absurd (cc)
started-more (life ∷ more) next (inr starts) old =
    All-append (λ (life : ToldLife). StartsLife life.answers) more (next ∷ []) old
    (All-cons (λ (life : ToldLife). StartsLife life.answers) next [] starts (All-nil (λ (life : ToldLife). StartsLife life.answers)))

-- the first of lives, and of one more
first-more : (lives : List ToldLife) (next : ToldLife) (begins : List ℕ) → begins ≡ map (λ (life : ToldLife). life.begin) lives
    → (begins ≡ [] → next.begin ≡ 0) → All (λ (life : ToldLife). life.begin ≡ 0) (take 1 lives)
    → All (λ (life : ToldLife). life.begin ≡ 0) (take 1 (lives ++ next ∷ []))
first-more [] next begins are zero_at old =
    All-cons (λ (life : ToldLife). life.begin ≡ 0) next [] (zero_at are) (All-nil (λ (life : ToldLife). life.begin ≡ 0))
first-more (life ∷ more) next begins are zero_at old = old

ends-front : (end : ℕ) (front back : List Shape) → EndBy end (front ++ back) → EndBy end front
ends-front end front back ended =
    subst (λ (l : List Shape). EndBy end l) (take-append_seam front back)
    (All-take {X = Shape} (λ (shape : Shape). shape_to shape ≤ end) (length front) (front ++ back) ended)

ends-back : (end : ℕ) (front back : List Shape) → EndBy end (front ++ back) → EndBy end back
ends-back end front back ended =
    subst (λ (l : List Shape). EndBy end l) (drop-append_seam front back)
    (All-drop {X = Shape} (λ (shape : Shape). shape_to shape ≤ end) (length front) (front ++ back) ended)

-- a clock behind all that is drawn of lives is behind each of them
each-ended : (t : Timing) (end : ℕ) (lives : List ToldLife) → EndBy end (flat_map (life_drawn t) lives)
    → All (λ (life : ToldLife). EndBy end (life_drawn t life)) lives
each-ended t end [] ended = All-nil (λ (life : ToldLife). EndBy end (life_drawn t life))
each-ended t end (life ∷ more) ended =
    All-cons (λ (life : ToldLife). EndBy end (life_drawn t life)) life more
    (ends-front end (life_drawn t life) (flat_map (life_drawn t) more) ended)
    (each-ended t end more (ends-back end (life_drawn t life) (flat_map (life_drawn t) more) ended))

-- the next life begins behind each of those that the schedule has
behind-each : (t : Timing) (lives : List ToldLife) (begins : List ℕ) (shapes : List Shape) (begin : ℕ)
    → begins ≡ map (λ (life : ToldLife). life.begin) lives → shapes ≡ flat_map (life_drawn t) lives
    → (begins ≢ [] → EndBy begin shapes) → All (λ (life : ToldLife). EndBy begin (life_drawn t life)) lives
behind-each t [] begins shapes begin are drawn behind = All-nil (λ (life : ToldLife). EndBy begin (life_drawn t life))
behind-each t (life ∷ more) begins shapes begin are drawn behind =
    each-ended t begin (life ∷ more) (rw drawn at behind (λ none. cc))

-- what lives have, and one more
one-more : {A : Type 0} (f : ToldLife → List A) (lives : List ToldLife) (next : ToldLife)
    → flat_map f lives ++ f next ≡ flat_map f (lives ++ next ∷ [])
one-more f lives next =
    ap (λ l. flat_map f lives ++ l) (sym (append-nil (f next))) ∙ sym (flat_map-append f lives (next ∷ []))

-- a life more is told
told-more : (t : Timing) (done : List Answer) (old new : Schedule) (next : ToldLife) (tells : TellsAll t done old)
    → ((tells.lives ≡ []) ⊎ StartsLife next.answers) → IsOneLife next.answers
    → AddsLife t next.begin (filter_map (entry_told next.begin) next.answers) old new
    → map event_place new.events.items ≡ map event_place old.events.items ++ life_events next
    → new.flaws ≡ old.flaws → ShowsSame old new
    → (old.begins.items ≡ [] → next.begin ≡ 0) → (old.begins.items ≢ [] → EndBy next.begin old.shapes.items)
    → TellsAll t (done ++ next.answers) new
told-more t done old new next tells first one adds events flaws shown zero_at behind = record {
  lives = tells.lives ++ next ∷ [];
  answers_are =
      ap (λ l. l ++ next.answers) tells.answers_are ∙ one-more (λ (life : ToldLife). life.answers) tells.lives next;
  one =
      All-append (λ (life : ToldLife). IsOneLife life.answers) tells.lives (next ∷ []) tells.one
      (All-cons (λ (life : ToldLife). IsOneLife life.answers) next [] one (All-nil (λ (life : ToldLife). IsOneLife life.answers)));
  started = started-more tells.lives next first tells.started;
  first = first-more tells.lives next old.begins.items tells.begins zero_at tells.first;
  behind =
      all_pairs_push (BeginsBehind t) tells.lives next tells.behind
      (behind-each t tells.lives old.begins.items old.shapes.items next.begin tells.begins tells.shapes behind);
  begins =
      adds.begins ∙ ap (λ l. l ++ next.begin ∷ []) tells.begins
      ∙ sym (map-append (λ (life : ToldLife). life.begin) tells.lives (next ∷ []));
  shapes = adds.shapes ∙ ap (λ l. l ++ life_drawn t next) tells.shapes ∙ one-more (life_drawn t) tells.lives next;
  events = events ∙ ap (λ l. l ++ life_events next) tells.events ∙ one-more life_events tells.lives next;
  flaws = ap (λ l. l.items) flaws ∙ tells.flaws;
  whole = record { first = shown.first ∙ tells.whole.first; last = shown.last ∙ tells.whole.last };
}

-- the life and the rest are the first answers of those that are left, and those behind them
pub tells-more : (t : Timing) (answers left life rest : List Answer) (n begin : ℕ) (old new : Schedule)
    → TellsBefore t answers left old → 0 < n → life ≡ take n left → rest ≡ drop n left
    → IsOneLife (take n left) → StartsLife (drop n left)
    → AddsLife t begin (filter_map (entry_told begin) life) old new
    → map event_place new.events.items ≡ map event_place old.events.items ++ events_told begin begin life
    → new.flaws ≡ old.flaws → ShowsSame old new
    → (old.begins.items ≡ [] → begin ≡ 0) → (old.begins.items ≢ [] → EndBy begin old.shapes.items)
    → TellsBefore t answers rest new
tells-more t answers left life rest n begin old new (done, tells, whole, first) some life_is rest_is one next adds events flaws shown zero_at behind =
    let joined : life ++ rest ≡ left = rw life_is (rw rest_is (take-append-drop n left)) in (
      done ++ life,
      told-more t done old new (record { begin = begin; answers = life }) tells (first-front tells.lives n left life some life_is first)
          (rw life_is one) adds events flaws shown zero_at behind,
      append_assoc done life rest ∙ ap (λ l. done ++ l) joined ∙ whole,
      inr (rw rest_is next),
    )

-- all but the first
behind-first : (answers : List Answer) → take (length answers - 1) (drop 1 answers) ≡ drop 1 answers
behind-first answers = take_all _ _ (simp length-drop (omega arith))

-- the first answer, and those of its life behind it
pub life-front : (answers : List Answer) (m : ℕ)
    → All (λ (answer : Answer). begins_life answer ≡ false) (take m (take (length answers - 1) (drop 1 answers)))
    → IsOneLife (take (1 + m) answers)
life-front answers m others = rw (drop-take 1 m answers) (rw (behind-first answers) at others)

pub life-next : (answers : List Answer) (m : ℕ) → StartsLife (drop m (take (length answers - 1) (drop 1 answers))) → StartsLife (drop (1 + m) answers)
life-next answers m starts =
    let next : StartsLife (drop m (drop 1 answers)) = rw (behind-first answers) at starts in
    subst (λ (l : List Answer). StartsLife l) (drop-drop m 1 answers) next
