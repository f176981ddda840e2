-- The lines that a session does, one answer more at a time.
use Rattle.std.proofs.Common.{◌≡◌, ℕ, ◌+◌, ◌<◌, true, false, List, [], ◌∷◌, ◌++◌, refl, subst}
use Rattle.script_runner.proofs.Common.{Answer, AnswersTruly, Ghosts, ScriptLine, moment_in}
use Rattle.nv_session.specs.declared.session.Session.{Session}
use Rattle.nv_session.specs.declared.wires.Wires as wires
use Rattle.script_runner.specs.Doing.{Does, DoesAll, DoesEach, KeepsTerms}
use Rattle.script_runner.specs.Runs.{DoesLine, DoesLines, DoesTurns}
use Rattle.script_runner.specs.Story.{Exchange, is_busy, turns_of}
use Rattle.script_runner.proofs.Stories.{pushed, through_begins}
use Rattle.script_runner.proofs.Turns.{turns_begin, turns_grow, turns_end, turns_idle}

module _ {K A : Type 0} {L : Ghosts K} {W : wires.Ghosts A K} where
  -- one turn more
  each_push : (asked : ScriptLine) (given : List Answer) (answer : Answer) (old mid new : Session K A L W) → DoesEach asked given old mid → Does asked answer mid new
      → KeepsTerms mid new → DoesEach asked (given ++ answer ∷ []) old new
  each_push asked [] answer old mid new same does keeps = (new, subst (λ (s : Session K A L W). Does asked answer s new) same does, subst (λ (s : Session K A L W). KeepsTerms s new) same keeps, refl)
  each_push asked (first ∷ later) answer old mid new so_far does keeps = (so_far.0, so_far.1, so_far.2, each_push asked later answer so_far.0 mid new so_far.3 does keeps)

  -- one line more
  pub all_push : (story : List Exchange) (next : Exchange) (old mid new : Session K A L W) → DoesAll story old mid → DoesEach next.asked next.answers mid new → DoesAll (story ++ next ∷ []) old new
  all_push [] next old mid new same does = (new, subst (λ (s : Session K A L W). DoesEach next.asked next.answers s new) same does, refl)
  all_push (first ∷ story) next old mid new so_far does = (so_far.0, so_far.1, all_push story next so_far.0 mid new so_far.2 does)

  pub does_begin : (lines : ℕ) (asked : ScriptLine) (old : List Answer) (at : Session K A L W) → DoesTurns lines 0 asked old old at at
  does_begin lines asked old at = record { answers = turns_begin L lines asked old (moment_in at); does = refl }

  pub does_grow : (lines : ℕ) (asked : ScriptLine) (other : ℕ) → other ≡ lines → (turns : ℕ) (answer : Answer) (old mid new : List Answer) (first last next : Session K A L W)
      → DoesTurns lines turns asked old mid first last → AnswersTruly L other asked answer (moment_in last) (moment_in next) → Does asked answer last next → KeepsTerms last next → new ≡ mid ++ answer ∷ []
      → is_busy answer ≡ true → DoesTurns lines (turns + 1) asked old new first next
  does_grow lines asked other same turns answer old mid new first last next so_far truly does keeps more busy = record {
    answers = turns_grow L lines asked other same turns answer old mid new (moment_in first) (moment_in last) (moment_in next) so_far.answers truly more busy;
    does = each_push asked so_far.answers.line.part.given answer first last next so_far.does does keeps;
  }

  pub does_end : (lines : ℕ) (asked : ScriptLine) (turns : ℕ) (old new : List Answer) (first last : Session K A L W) → DoesTurns lines turns asked old new first last → turns ≡ turns_of asked
      → DoesLine lines asked old new first last
  does_end lines asked turns old new first last so_far all = record {
    answers = turns_end L lines asked turns old new (moment_in first) (moment_in last) so_far.answers all;
    does = so_far.does;
  }

  pub does_idle : (lines : ℕ) (asked : ScriptLine) (other : ℕ) → other ≡ lines → (turns : ℕ) (answer : Answer) (old mid new : List Answer) (first last next : Session K A L W)
      → DoesTurns lines turns asked old mid first last → AnswersTruly L other asked answer (moment_in last) (moment_in next) → Does asked answer last next → KeepsTerms last next → new ≡ mid ++ answer ∷ []
      → is_busy answer ≡ false → turns < turns_of asked → DoesLine lines asked old new first next
  does_idle lines asked other same turns answer old mid new first last next so_far truly does keeps more idle early = record {
    answers = turns_idle L lines asked other same turns answer old mid new (moment_in first) (moment_in last) (moment_in next) so_far.answers truly more idle early;
    does = each_push asked so_far.answers.line.part.given answer first last next so_far.does does keeps;
  }

  abbrev pub lines_begin : (lines : ℕ) (old : List Answer) (at : Session K A L W) → DoesLines lines [] old old at at
  lines_begin lines old at = record { through = through_begins L lines old (moment_in at); does = refl }

  abbrev pub line_pushed : (lines : ℕ) (asked : List ScriptLine) (line : ScriptLine) (old mid new : List Answer) (first last next : Session K A L W) → DoesLines lines asked old mid first last
      → DoesLine lines line mid new last next → DoesLines lines (asked ++ line ∷ []) old new first next
  line_pushed lines asked line old mid new first last next so_far done = record {
    through = pushed L lines asked line old mid new (moment_in last) (moment_in next) so_far.through done.answers;
    does = all_push so_far.through.answered.story (record { asked = line; answers = done.answers.line.part.given }) first last next so_far.does done.does;
  }
