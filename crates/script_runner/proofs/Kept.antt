-- What is kept of a run is as much as its answers tell.
use Rattle.std.proofs.Common.{◌≡◌, ◌∙◌, ℕ, ◌+◌, suc, Bool, true, false, if◌then◌else◌, List, [], ◌∷◌, ◌++◌, Option, Some, None, Result, Ok, Err, All, inl, inr, length, refl, sym, ap, subst, arith}
use Rattle.std.proofs.lemmas.List.Elements.{All-head, All-tail}
use Rattle.std.specs.Prelude.{IfErr, IfOk, IfSome}
use Rattle.nv_profile.specs.declared.profile.Profile.{Profile}
use Rattle.save_device.specs.declared.memory.MemoryDevice.{MemoryDevice}
use Rattle.slot_store.specs.Outcomes.{Outcome}
use Rattle.slot_store.specs.declared.head.Head.{Head}
use Rattle.slot_store.specs.declared.restoring.RestoreError.{RestoreError}
use Rattle.nv_session.specs.Restoring.{Revives}
use Rattle.nv_session.specs.declared.session.Session.{Session}
use Rattle.nv_session.specs.declared.wires.Wires as wires
use Rattle.nv_script.specs.declared.line.ScriptLine.TheVariants as line
use Rattle.nv_script.specs.declared.answer.Answer.TheVariants as answer
use Rattle.script_runner.specs.Doing.{AreEventsOf, Does, DoesEach, Formats, set_by}
use Rattle.script_runner.specs.Ended.{AreLives, EndLives, IsKeptOf, Kept, begun_by, ended_by, kept_last, lists_if, lists_in, lives_told}
use Rattle.script_runner.specs.Issued.{answers_in, begins_life}
use Rattle.script_runner.specs.Replies.{restore_told}
use Rattle.script_runner.specs.Runs.{IsKeptRunOn}
use Rattle.script_runner.specs.Story.{AreAllAnswered, AreTrueOf, Exchange, FillTurns, IsTrueStory, IsWhole, known_behind_all, turns_of}
use Rattle.script_runner.proofs.Common.{Answer, Ghosts, GoesOnBy, IsOfLine, Ledger, LivesOn, MatchOption, Module, RunsWith, ScriptLine, SessionAt, Setup, Tale}
use Rattle.script_runner.proofs.Common.{append-nil, device_state, known_behind, length-append, length-map, moment_in}
use Rattle.script_runner.proofs.Doing.{none_begins}

lives-both : (first later : List Answer) → lives_told (first ++ later) ≡ lives_told first + lives_told later
lives-both [] later = omega arith
lives-both (given ∷ first) later = let rest = lives-both first later in omega (arith, rest)

-- an answer to a line that begins no life tells of none
begins-none : (asked : ScriptLine) (given : Answer) → begins_life asked ≡ false → IsOfLine asked given → begun_by given ≡ 0
begins-none line.Format given none of = absurd (let bad : ⊥ = cc in bad)
begins-none (line.Restore pick map) given none of = absurd (let bad : ⊥ = cc in bad)
begins-none asked answer.Formatted none of = absurd of
begins-none asked (answer.Restored generation count verdict) none of = absurd of
begins-none asked given none of = refl

-- a line that begins a life has one answer
one-turn : (asked : ScriptLine) → begins_life asked ≡ true → turns_of asked ≡ 1
one-turn line.Format begins = refl
one-turn (line.Restore pick map) begins = refl
one-turn asked begins = absurd (let bad : ⊥ = cc in bad)

one-answer : (answers : List Answer) → FillTurns 1 answers → length answers ≡ 1
one-answer answers (inl takes) = takes.count
one-answer answers (inr ends) = let size : length answers ≡ length ends.before + 1 = ap length ends.is ∙ length-append ends.before (ends.last ∷ []) in omega (arith, size, ends.early)

module _ {K : Type 0} {L : Ghosts K} where
  abbrev runs_in : Option (Module K L) → ℕ
  runs_in None = 0
  runs_in (Some it) = 1

  lists-run : (life : Option (Module K L)) → length (lists_if L life) ≡ runs_in life
  lists-run None = refl
  lists-run (Some it) = refl

  -- a life goes on, or none does
  goes-on : (Told : Setup → Tale) (old new : SessionAt L) → GoesOnBy L Told old new → runs_in new.life ≡ runs_in old.life
  goes-on Told old new goes = by_life old.life refl
    where
      by_life : (life : Option (Module K L)) → old.life ≡ life → runs_in new.life ≡ runs_in old.life
      by_life None is = ap runs_in (none_begins L Told old new goes is ∙ sym is)
      by_life (Some it) is =
          let lives : LivesOn L Told it old new = subst (λ (life : Option (Module K L)). MatchOption life (new ≡ old) (λ it. LivesOn L Told it old new)) is goes in
          ap runs_in lives.runs ∙ sym (ap runs_in is)

module _ {K A : Type 0} {L : Ghosts K} {W : wires.Ghosts A K} where
  -- a line that begins no life
  line-goes : (asked : ScriptLine) (given : Answer) (old new : Session K A L W) → begins_life asked ≡ false → Does asked given old new → runs_in new.life ≡ runs_in old.life
  line-goes (line.Write write) given old new none does = goes-on (AreEventsOf (line.Write write) given) (moment_in old) (moment_in new) does.0.comes
  line-goes (line.Read at) given old new none does = goes-on (AreEventsOf (line.Read at) given) (moment_in old) (moment_in new) does.0.comes
  line-goes (line.Work channel most) given old new none does = goes-on (AreEventsOf (line.Work channel most) given) (moment_in old) (moment_in new) does.0.comes
  line-goes line.Save given old new none does = goes-on (AreEventsOf line.Save given) (moment_in old) (moment_in new) does.0.comes
  line-goes line.Step given old new none does = goes-on (AreEventsOf line.Step given) (moment_in old) (moment_in new) does.0.comes
  line-goes (line.Sense level) given old new none does = goes-on (AreEventsOf (line.Sense level) given) (set_by (line.Sense level) (moment_in old)) (moment_in new) does.0.comes
  line-goes line.Arm given old new none does = goes-on (AreEventsOf line.Arm given) (moment_in old) (moment_in new) does.0.comes
  line-goes line.Disarm given old new none does = goes-on (AreEventsOf line.Disarm given) (moment_in old) (moment_in new) does.0.comes
  line-goes line.Lose given old new none does = goes-on (AreEventsOf line.Lose given) (moment_in old) (moment_in new) does.0.comes
  line-goes (line.Lie units) given old new none does = ap runs_in does.life
  line-goes (line.Fuse calls) given old new none does = ap runs_in does.life
  line-goes (line.OneFault call) given old new none does = ap runs_in does.life
  line-goes line.Mark given old new none does = ap (λ (s : Session K A L W). runs_in s.life) does.same
  line-goes line.Format given old new none does = absurd (let bad : ⊥ = cc in bad)
  line-goes (line.Restore pick map) given old new none does = absurd (let bad : ⊥ = cc in bad)

  answers-go : (lines : ℕ) (known : Option Ledger) (asked : ScriptLine) (answers : List Answer) (old new : Session K A L W) → begins_life asked ≡ false → AreTrueOf lines known asked answers
      → DoesEach asked answers old new → runs_in new.life ≡ runs_in old.life + lives_told answers
  answers-go lines known asked [] old new none holds same = let stays = ap (λ (s : Session K A L W). runs_in s.life) same in omega (arith, stays)
  answers-go lines known asked (given ∷ later) old new none holds does =
      let first = line-goes asked given old does.0 none does.1 in
      let rest = answers-go lines (known_behind asked given known) asked later does.0 new none holds.1 does.3 in
      let told = begins-none asked given none holds.0.of in
      omega (arith, first, rest, told)

  -- a line that begins one
  formats : (given : Answer) (old new : Session K A L W) → Formats given old new → runs_in new.life ≡ begun_by given
  formats answer.Formatted old new made = ap runs_in made.runs
  formats answer.FormatFault old new made = ap runs_in made.0
  formats given old new made = absurd made

  restores : (given : Answer) (new : Session K A L W) (setup : Setup) (outcome : Outcome) (result : Result Head RestoreError) → given ≡ restore_told result
      → IfOk result (λ found. RunsWith L setup (λ life. Revives L outcome found life (device_state new.device)) new.life) → IfErr result (λ error. new.life ≡ None) → runs_in new.life ≡ begun_by given
  restores given new setup outcome (Ok found) told made none = ap runs_in made.runs ∙ sym (ap begun_by told)
  restores given new setup outcome (Err error) told made none = ap runs_in none ∙ sym (ap begun_by told)

  line-begins : (asked : ScriptLine) (given : Answer) (old new : Session K A L W) → begins_life asked ≡ true → Does asked given old new → runs_in new.life ≡ begun_by given
  line-begins line.Format given old new begins does = formats given old new does.0
  line-begins (line.Restore pick map) given old new begins does = restores given new _ _ does.0.result does.0.told does.0.revives does.0.none
  line-begins asked given old new begins does = absurd (let bad : ⊥ = cc in bad)

  answer-begins : (asked : ScriptLine) (answers : List Answer) (old new : Session K A L W) → begins_life asked ≡ true → length answers ≡ 1 → DoesEach asked answers old new → runs_in new.life ≡ lives_told answers
  answer-begins asked [] old new begins one does = absurd (omega (arith, one))
  answer-begins asked (given ∷ []) old new begins one does =
      let stays = ap (λ (s : Session K A L W). runs_in s.life) does.3 in let begun = line-begins asked given old does.0 begins does.1 in omega (arith, stays, begun)
  answer-begins asked (given ∷ other ∷ later) old new begins one does = absurd (omega (arith, one))

  -- The lives that a line ends, and the one that runs behind it, are the one before it and those that its answers tell to begin.
  line-counts : (lines : ℕ) (known : Option Ledger) (asked : ScriptLine) (answers : List Answer) (old new : Session K A L W) → FillTurns (turns_of asked) answers → AreTrueOf lines known asked answers
      → DoesEach asked answers old new → length (ended_by asked old) + runs_in new.life ≡ runs_in old.life + lives_told answers
  line-counts lines known asked answers old new whole holds does = by_begin (begins_life asked) refl
    where
      by_begin : (begins : Bool) → begins_life asked ≡ begins → length (ended_by asked old) + runs_in new.life ≡ runs_in old.life + lives_told answers
      by_begin true is =
          let ended : length (ended_by asked old) ≡ length (lists_in old) = ap (λ (b : Bool). length (if b then lists_in old else [])) is in
          let one = one-answer answers (subst (λ (n : ℕ). FillTurns n answers) (one-turn asked is) whole) in
          let begun = answer-begins asked answers old new is one does in
          let size = lists-run old.life in
          omega (arith, ended, begun, size)
      by_begin false is =
          let ended : length (ended_by asked old) ≡ 0 = ap (λ (b : Bool). length (if b then lists_in old else [])) is in
          let goes = answers-go lines known asked answers old new is holds does in
          omega (arith, ended, goes)

  story-counts : (lines : ℕ) (known : Option Ledger) (story : List Exchange) (old new : Session K A L W) (kept : Kept) → All IsWhole story → IsTrueStory lines known story → EndLives story old new kept
      → length kept.lives + runs_in new.life ≡ runs_in old.life + lives_told (answers_in story)
  story-counts lines known [] old new kept whole holds ends =
      let none : length kept.lives ≡ 0 = ap (λ (k : Kept). length k.lives) ends.1 in
      let stays = ap (λ (s : Session K A L W). runs_in s.life) ends.0 in
      omega (arith, none, stays)
  story-counts lines known (exchange ∷ later) old new kept whole holds ends =
      let first = line-counts lines known exchange.asked exchange.answers old ends.0 (All-head IsWhole exchange later whole) holds.0 ends.2 in
      let rest = story-counts lines (known_behind_all exchange.asked exchange.answers known) later ends.0 new ends.1 (All-tail IsWhole exchange later whole) holds.1 ends.5 in
      let grown : length kept.lives ≡ length (ended_by exchange.asked old) + length ends.1.lives = ap (λ (k : Kept). length k.lives) ends.4 ∙ length-append (ended_by exchange.asked old) ends.1.lives in
      let told : lives_told (answers_in (exchange ∷ later)) ≡ lives_told exchange.answers + lives_told (answers_in later) = lives-both exchange.answers (answers_in later) in
      omega (arith, first, rest, grown, told)

  story-lines : (story : List Exchange) (old new : Session K A L W) (kept : Kept) → EndLives story old new kept → length kept.counts ≡ length story
  story-lines [] old new kept ends = ap (λ (k : Kept). length k.counts) ends.1
  story-lines (exchange ∷ later) old new kept ends =
      let grown : length kept.counts ≡ suc (length ends.1.counts) = ap (λ (k : Kept). length k.counts) ends.4 in
      let rest = story-lines later ends.0 new ends.1 ends.5 in
      omega (arith, grown, rest)

  kept_of : (lines : ℕ) (asked : List ScriptLine) (before after : List Answer) (all : AreAllAnswered lines asked before after) (first last : Session K A L W) (kept : Kept) → first.life ≡ None
      → AreLives all.answered.story first last kept → IsKeptOf asked before after kept
  kept_of lines asked before after all first last kept none ends =
      let story : List Exchange = all.answered.story in
      let counted = story-counts lines None story first last ends.0 all.whole all.answered.holds ends.1 in
      let noted = story-lines story first last ends.0 ends.1 in
      let began : runs_in first.life ≡ 0 = ap runs_in none in
      let last_ones : length (kept_last last).lives ≡ runs_in last.life = ap length (append-nil (lists_in last)) ∙ lists-run last.life in
      let lives_are : length kept.lives ≡ length ends.0.lives + length (kept_last last).lives = ap (λ (k : Kept). length k.lives) ends.2 ∙ length-append ends.0.lives (kept_last last).lives in
      let counts_are : length kept.counts ≡ length ends.0.counts + 1 = ap (λ (k : Kept). length k.counts) ends.2 ∙ length-append ends.0.counts (kept_last last).counts in
      let each : length story ≡ length asked = sym (length-map story (λ (exchange : Exchange). exchange.asked)) ∙ ap length all.answered.asked_are in
      record {
        given = answers_in story;
        grown_by = all.answered.answers_are;
        lives = omega (arith, counted, began, last_ones, lives_are);
        counts = omega (arith, noted, counts_are, each);
      }

-- what is kept of a run, if anything is
pub kept_told : {K A : Type 0} (L : Ghosts K) (W : wires.Ghosts A K) (Wired : A → Type 0) (profile : Profile) (bytes : List ℕ) (asked : List ScriptLine) (before after : List Answer) (kept : Option Kept) (device : MemoryDevice)
    → IsKeptRunOn L W Wired profile bytes asked before after kept device → IfSome kept (IsKeptOf asked before after)
kept_told L W Wired profile bytes asked before after None device run = tt
kept_told L W Wired profile bytes asked before after (Some kept) device run = kept_of _ asked before after run.run.done.all run.run.first run.run.last kept run.run.begins.life run.lists
