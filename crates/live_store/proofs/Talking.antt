-- What was said, behind what was said before.
use Rattle.std.proofs.Common.{◌≡◌, ◌∙◌, ◌⊎◌, inl, inr, ℕ, ◌+◌, ◌<◌, Bool, true, false, List, [], ◌∷◌, ◌++◌, length, map, arith, refl, sym, ap, subst}
use Rattle.std.specs.Prelude.{if◌then◌else◌}
use Rattle.std.proofs.lemmas.List.{append-nil, append_assoc, length-append, map-append}
use Rattle.std.proofs.lemmas.List.Elements.{All-append, All-cons, All-nil, filter_map-append}
use Rattle.ddr4_timing.specs.declared.timing.Geometry.{Geometry}
use Rattle.nv_session.proofs.Common.{Assembly, Ghosts}
use Rattle.nv_script.specs.declared.answer.Answer.{Answer}
use Rattle.nv_script.specs.declared.line.ScriptLine.{ScriptLine}
use Rattle.nv_script.specs.declared.line.ScriptLine.TheVariants as line
use Rattle.script_runner.specs.Story.{TakesTurns as takes_turns, is_busy, turns_of}
use Rattle.live_store.specs.declared.talk.LineRefusal.{LineRefusal}
use Rattle.live_store.specs.declared.talk.LineRefusal.TheVariants.{ScriptsAlone}
use Rattle.live_store.specs.declared.talk.Said.{Said}
use Rattle.live_store.specs.declared.talk.Said.TheVariants as said
use Rattle.live_store.specs.declared.talk.Turn.{Turn}
use Rattle.live_store.specs.Lives.{TakesTurn, TakesTurns, is_for_lives}
use Rattle.live_store.specs.Talks.{AreSaidToHeard, AreSaidToLine, AreSaidToLines, AreSaidToText, AreSaidToTexts, TellsAll, TellsNearly, answered, turn_of, turns_in}
use Rattle.live_store.proofs.Turns.{one_turn, turns_joined}

-- so many answers to a line, none of which is its last
pub record AnswersPart (asked : ScriptLine) (turns : ℕ) (told : List Said) : Type 0 where
  pub asks : (turns ≡ 0) ⊎ (is_for_lives asked ≡ true)
  pub answers : List Answer
  pub told_are : told ≡ map (answered asked) answers
  pub taken : takes_turns turns answers

pub none_yet : (asked : ScriptLine) → AnswersPart asked 0 []
none_yet asked = record { asks = inl refl; answers = []; told_are = refl; taken = record { busy = All-nil (λ (given : Answer). is_busy given ≡ true); count = refl } }

pub one_more : (asked : ScriptLine) (turns : ℕ) (given : Answer) (told : List Said) → AnswersPart asked turns told → is_for_lives asked ≡ true → is_busy given ≡ true
    → AnswersPart asked (turns + 1) (told ++ answered asked given ∷ [])
one_more asked turns given told part asks busy =
    let IsBusy : Answer → Type 0 = λ given. is_busy given ≡ true in
    record {
      asks = inr asks;
      answers = part.answers ++ given ∷ [];
      told_are = ap (λ (list : List Said). list ++ answered asked given ∷ []) part.told_are ∙ sym (map-append (answered asked) part.answers (given ∷ []));
      taken = record {
        busy = All-append IsBusy part.answers (given ∷ []) part.taken.busy (All-cons IsBusy given [] busy (All-nil IsBusy));
        count = let size = length-append part.answers (given ∷ []) in omega (arith, size, part.taken.count);
      };
    }

-- a channel is idle
pub idle_last : (asked : ScriptLine) (turns : ℕ) (given : Answer) (told : List Said) → AnswersPart asked turns told → is_for_lives asked ≡ true → is_busy given ≡ false → turns < turns_of asked
    → AreSaidToLine asked (told ++ answered asked given ∷ [])
idle_last asked turns given told part asks idle early = inl (record {
  asks = asks;
  answers = part.answers ++ given ∷ [];
  told_are = ap (λ (list : List Said). list ++ answered asked given ∷ []) part.told_are ∙ sym (map-append (answered asked) part.answers (given ∷ []));
  whole = inr (record { before = part.answers; last = given; is = refl; idle = idle; busy = part.taken.busy; early = omega (arith, part.taken.count, early) });
})

-- a line with no turn is a work, which a life does
no_turn_asks : (asked : ScriptLine) → turns_of asked ≡ 0 → is_for_lives asked ≡ true
no_turn_asks (line.Work channel most) none = refl
no_turn_asks (line.Write write) none = refl
no_turn_asks (line.Read at) none = refl
no_turn_asks (line.Sense level) none = refl
no_turn_asks line.Arm none = refl
no_turn_asks line.Disarm none = refl
no_turn_asks line.Save none = refl
no_turn_asks line.Step none = refl
no_turn_asks line.Lose none = refl
no_turn_asks line.Mark none = refl
no_turn_asks line.Format none = absurd (let bad : ⊥ = omega (arith, none) in bad)
no_turn_asks (line.Lie units) none = absurd (let bad : ⊥ = omega (arith, none) in bad)
no_turn_asks (line.Fuse calls) none = absurd (let bad : ⊥ = omega (arith, none) in bad)
no_turn_asks (line.OneFault call) none = absurd (let bad : ⊥ = omega (arith, none) in bad)
no_turn_asks (line.Restore pick map) none = absurd (let bad : ⊥ = omega (arith, none) in bad)

-- all turns were taken
pub all_taken : (asked : ScriptLine) (turns : ℕ) (told : List Said) → AnswersPart asked turns told → turns ≡ turns_of asked → AreSaidToLine asked told
all_taken asked turns told part all = by_asks part.asks
  where
    so : is_for_lives asked ≡ true → AreSaidToLine asked told
    so asks = inl (record { asks = asks; answers = part.answers; told_are = part.told_are; whole = inl (subst (λ (n : ℕ). takes_turns n part.answers) all part.taken) })

    by_asks : (turns ≡ 0) ⊎ (is_for_lives asked ≡ true) → AreSaidToLine asked told
    by_asks (inl none) = so (no_turn_asks asked (sym all ∙ none))
    by_asks (inr asks) = so asks

no_answer : (answers : List Answer) → length answers ≡ 0 → answers ≡ []
no_answer [] none = refl
no_answer (given ∷ answers) none = absurd (let bad : ⊥ = omega (arith, none) in bad)

-- a line that asks for what no life does is refused at once
pub refused_at_once : (asked : ScriptLine) (turns : ℕ) (told : List Said) → AnswersPart asked turns told → is_for_lives asked ≡ false → AreSaidToLine asked (told ++ said.Refused ScriptsAlone ∷ [])
refused_at_once asked turns told part foreign = by_asks part.asks
  where
    by_asks : (turns ≡ 0) ⊎ (is_for_lives asked ≡ true) → AreSaidToLine asked (told ++ said.Refused ScriptsAlone ∷ [])
    by_asks (inl none) =
        let empty : told ≡ [] = part.told_are ∙ ap (map (answered asked)) (no_answer part.answers (part.taken.count ∙ none)) in
        inr (foreign, ap (λ (list : List Said). list ++ said.Refused ScriptsAlone ∷ []) empty)
    by_asks (inr asks) = absurd (let bad : ⊥ = cc in bad)

-- a line more
pub line_more : (lines : List ScriptLine) (next : ScriptLine) (told more : List Said) → AreSaidToLines lines told → AreSaidToLine next more → AreSaidToLines (lines ++ next ∷ []) (told ++ more)
line_more [] next told more so_far to = (more, [], to, refl, ap (λ (list : List Said). list ++ more) so_far ∙ sym (append-nil more))
line_more (line ∷ lines) next told more so_far to =
    (so_far.0, so_far.1 ++ more, so_far.2, line_more lines next so_far.1 more so_far.3 to, ap (λ (list : List Said). list ++ more) so_far.4 ∙ append_assoc so_far.0 so_far.1 more)

-- a line was heard
pub heard_one : (some : Bool) (before after : List (List ℕ)) (text : List ℕ) → some ≡ true → after ≡ before ++ (if some then text ∷ [] else []) → after ≡ before ++ text ∷ []
heard_one true before after text is heard = heard
heard_one false before after text is heard = absurd (let bad : ⊥ = cc in bad)

-- a text more
text_more : (geometry : Geometry) (texts : List (List ℕ)) (next : List ℕ) (told more : List Said) → AreSaidToTexts geometry texts told → AreSaidToText geometry next more
    → AreSaidToTexts geometry (texts ++ next ∷ []) (told ++ more)
text_more geometry [] next told more so_far to = (more, [], to, refl, ap (λ (list : List Said). list ++ more) so_far ∙ sym (append-nil more))
text_more geometry (text ∷ texts) next told more so_far to =
    (so_far.0, so_far.1 ++ more, so_far.2, text_more geometry texts next so_far.1 more so_far.3 to, ap (λ (list : List Said). list ++ more) so_far.4 ∙ append_assoc so_far.0 so_far.1 more)

pub heard_none : (geometry : Geometry) (before after : List (List ℕ)) → after ≡ before → AreSaidToHeard geometry before after []
heard_none geometry before after same = record { texts = []; heard = same ∙ sym (append-nil before); to = refl }

pub heard_more : (geometry : Geometry) (before mid after : List (List ℕ)) (next : List ℕ) (told more : List Said) → AreSaidToHeard geometry before mid told → after ≡ mid ++ next ∷ []
    → AreSaidToText geometry next more → AreSaidToHeard geometry before after (told ++ more)
heard_more geometry before mid after next told more so_far is to = record {
  texts = so_far.texts ++ next ∷ [];
  heard = is ∙ ap (λ (list : List (List ℕ)). list ++ next ∷ []) so_far.heard ∙ append_assoc before so_far.texts (next ∷ []);
  to = text_more geometry so_far.texts next told more so_far.to to;
}

module _ {K : Type 0} (L : Ghosts K) where
  -- nothing was said, and nothing happened
  pub tells_none : (To : List Said → Type 0) (before after : List Said) (old new : Assembly L) → after ≡ before → new ≡ old → To [] → TellsAll L To before after old new
  tells_none To before after old new same rests to = record { more = []; told = same ∙ sym (append-nil before); takes = rests; to = to }

  -- more was said behind it
  pub tells_on : (A B C : List Said → Type 0) (before mid after : List Said) (old at new : Assembly L) → TellsAll L A before mid old at → TellsAll L B mid after at new
      → ((told more : List Said) → A told → B more → C (told ++ more)) → TellsAll L C before after old new
  tells_on A B C before mid after old at new first more so = record {
    more = first.more ++ more.more;
    told = more.told ∙ ap (λ (told : List Said). told ++ more.more) first.told ∙ append_assoc before first.more more.more;
    takes = subst (λ (turns : List Turn). TakesTurns L turns old new) (sym (filter_map-append turn_of first.more more.more))
        (turns_joined L (turns_in first.more) (turns_in more.more) old at new first.takes more.takes);
    to = so first.more more.more first.to more.to;
  }

  -- one thing was said: a turn, or a refusal
  pub tells_turn : (asked : ScriptLine) (given : Answer) (before after : List Said) (old new : Assembly L) → TakesTurn L asked given old new → after ≡ before ++ answered asked given ∷ []
      → TellsAll L (λ more. more ≡ answered asked given ∷ []) before after old new
  tells_turn asked given before after old new takes told = record {
    more = answered asked given ∷ [];
    told = told;
    takes = one_turn L (record { asked = asked; answer = given }) old new takes;
    to = refl;
  }

  pub tells_refusal : (refusal : LineRefusal) (before after : List Said) (old new : Assembly L) → new ≡ old → after ≡ before ++ said.Refused refusal ∷ []
      → TellsAll L (λ more. more ≡ said.Refused refusal ∷ []) before after old new
  tells_refusal refusal before after old new rests told = record { more = said.Refused refusal ∷ []; told = told; takes = rests; to = refl }

  -- the same, of which something holds then
  pub turn_on : (A C : List Said → Type 0) (asked : ScriptLine) (given : Answer) (before mid after : List Said) (old at new : Assembly L) → TellsAll L A before mid old at
      → TakesTurn L asked given at new → after ≡ mid ++ answered asked given ∷ [] → ((told : List Said) → A told → C (told ++ answered asked given ∷ [])) → TellsAll L C before after old new
  turn_on A C asked given before mid after old at new so_far takes told so =
      tells_on A (λ more. more ≡ answered asked given ∷ []) C before mid after old at new so_far (tells_turn asked given mid after at new takes told)
      (λ told more a is. subst (λ (list : List Said). C (told ++ list)) (sym is) (so told a))

  pub refusal_on : (A C : List Said → Type 0) (refusal : LineRefusal) (before mid after : List Said) (old at new : Assembly L) → TellsAll L A before mid old at
      → new ≡ at → after ≡ mid ++ said.Refused refusal ∷ [] → ((told : List Said) → A told → C (told ++ said.Refused refusal ∷ [])) → TellsAll L C before after old new
  refusal_on A C refusal before mid after old at new so_far rests told so =
      tells_on A (λ more. more ≡ said.Refused refusal ∷ []) C before mid after old at new so_far (tells_refusal refusal mid after at new rests told)
      (λ told more a is. subst (λ (list : List Said). C (told ++ list)) (sym is) (so told a))

  pub tells_so : (A C : List Said → Type 0) (before after : List Said) (old new : Assembly L) → TellsAll L A before after old new → ((told : List Said) → A told → C told) → TellsAll L C before after old new
  tells_so A C before after old new tells so = record { more = tells.more; told = tells.told; takes = tells.takes; to = so tells.more tells.to }

  -- what was said stays so
  pub tells_at : (A : List Said → Type 0) (before mid after : List Said) (old new : Assembly L) → TellsAll L A before mid old new → after ≡ mid → TellsAll L A before after old new
  tells_at A before mid after old new tells same = record { more = tells.more; told = same ∙ tells.told; takes = tells.takes; to = tells.to }

  -- all is nearly all, also where nothing happened since
  pub nearly : (A : List Said → Type 0) (before mid after : List Said) (old at new : Assembly L) → TellsAll L A before mid old at → new ≡ at → after ≡ mid → TellsNearly L before after old new
  nearly A before mid after old at new tells rests same = record {
    more = tells.more;
    told = same ∙ tells.told;
    untold = [];
    few = omega arith;
    takes = subst (λ (turns : List Turn). TakesTurns L turns old new) (sym (append-nil (turns_in tells.more)))
        (subst (λ (there : Assembly L). TakesTurns L (turns_in tells.more) old there) (sym rests) tells.takes);
  }

  pub nearly_none : (before after : List Said) (at : Assembly L) → after ≡ before → TellsNearly L before after at at
  nearly_none before after at same =
      let Any = λ (told : List Said). Unit {0} in
      nearly Any before before after at at at (tells_none Any before before at at refl refl tt) refl same

  -- a turn was taken then, and wasn't told
  pub untold_turn : (A : List Said → Type 0) (asked : ScriptLine) (given : Answer) (before mid after : List Said) (old at new : Assembly L) → TellsAll L A before mid old at
      → TakesTurn L asked given at new → after ≡ mid → TellsNearly L before after old new
  untold_turn A asked given before mid after old at new tells takes same =
      let turn : Turn = record { asked = asked; answer = given } in
      record {
        more = tells.more;
        told = same ∙ tells.told;
        untold = turn ∷ [];
        few = omega arith;
        takes = turns_joined L (turns_in tells.more) (turn ∷ []) old at new tells.takes (one_turn L turn at new takes);
      }

  pub nearly_on : (A : List Said → Type 0) (before mid after : List Said) (old at new : Assembly L) → TellsAll L A before mid old at → TellsNearly L mid after at new → TellsNearly L before after old new
  nearly_on A before mid after old at new first more = record {
    more = first.more ++ more.more;
    told = more.told ∙ ap (λ (told : List Said). told ++ more.more) first.told ∙ append_assoc before first.more more.more;
    untold = more.untold;
    few = more.few;
    takes = subst (λ (turns : List Turn). TakesTurns L turns old new)
        (sym (ap (λ (turns : List Turn). turns ++ more.untold) (filter_map-append turn_of first.more more.more) ∙ append_assoc (turns_in first.more) (turns_in more.more) more.untold))
        (turns_joined L (turns_in first.more) (turns_in more.more ++ more.untold) old at new first.takes more.takes);
  }
