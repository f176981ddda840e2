-- The lives that lines end, one line more at a time.
use Rattle.std.proofs.Common.{◌≡◌, ◌∙◌, ℕ, ◌+◌, ◌<◌, true, List, [], ◌∷◌, ◌++◌, Option, Some, None, length, take, get_or, refl, sym, ap, subst}
use Rattle.std.proofs.Math.Seq.{take-length}
use Rattle.script_runner.proofs.Common.{Answer, Ghosts, ScriptLine, append-nil, append_assoc, take_more}
use Rattle.std.specs.Prelude.{IfSome}
use Rattle.nv_session.specs.declared.session.Session.{Session}
use Rattle.nv_session.specs.declared.wires.Wires as wires
use Rattle.script_runner.specs.Doing.{DoesEach}
use Rattle.script_runner.specs.Ended.{AreLives, EndLives, Kept, Lives, Notes, joined, kept_before, kept_last, nothing}
use Rattle.script_runner.specs.Issued.{KeepsRules, begins_life}
use Rattle.script_runner.specs.Runs.{AreAllNoted, DoesLine, NotesLines}
use Rattle.script_runner.specs.Story.{Exchange}
use Rattle.script_runner.proofs.Runs.{line_pushed, lines_begin}

joined_nothing : (kept : Kept) → joined kept nothing ≡ kept
joined_nothing kept =
    ap (λ (lives : Lives). record { lives = lives; counts = kept.counts ++ [] }) (append-nil kept.lives)
    ∙ ap (λ (counts : List (List ℕ)). record { lives = kept.lives; counts = counts }) (append-nil kept.counts)

joined_assoc : (a b c : Kept) → joined (joined a b) c ≡ joined a (joined b c)
joined_assoc a b c =
    ap (λ (lives : Lives). record { lives = lives; counts = (a.counts ++ b.counts) ++ c.counts }) (append_assoc a.lives b.lives c.lives)
    ∙ ap (λ (counts : List (List ℕ)). record { lives = a.lives ++ (b.lives ++ c.lives); counts = counts }) (append_assoc a.counts b.counts c.counts)

pub notes_nothing : (kept : Option Kept) → Notes nothing kept kept
notes_nothing None = tt
notes_nothing (Some kept) = sym (joined_nothing kept)

-- the one, and then the other
pub notes_both : (a b : Kept) (old mid new : Option Kept) → Notes a old mid → Notes b mid new → Notes (joined a b) old new
notes_both a b old mid None first later = tt
notes_both a b old None (Some new) first later = absurd later
notes_both a b None (Some mid) (Some new) first later = absurd first
notes_both a b (Some old) (Some mid) (Some new) first later = later ∙ ap (λ (kept : Kept). joined kept b) first ∙ joined_assoc old a b

module _ {K A : Type 0} {L : Ghosts K} {W : wires.Ghosts A K} where
  -- one line more
  end_push : (story : List Exchange) (next : Exchange) (old mid new : Session K A L W) (kept : Kept) → EndLives story old mid kept → DoesEach next.asked next.answers mid new
      → (begins_life next.asked ≡ true → KeepsRules mid) → EndLives (story ++ next ∷ []) old new (joined kept (kept_before next.asked mid))
  end_push [] next old mid new kept so_far does rules = (
    new,
    nothing,
    subst (λ (s : Session K A L W). DoesEach next.asked next.answers s new) so_far.0 does,
    subst (λ (s : Session K A L W). begins_life next.asked ≡ true → KeepsRules s) so_far.0 rules,
    ap (λ (k : Kept). joined k (kept_before next.asked mid)) so_far.1 ∙ ap (λ (s : Session K A L W). kept_before next.asked s) so_far.0 ∙ sym (joined_nothing (kept_before next.asked old)),
    (refl, refl),
  )
  end_push (first ∷ story) next old mid new kept so_far does rules = (
    so_far.0,
    joined so_far.1 (kept_before next.asked mid),
    so_far.2,
    so_far.3,
    ap (λ (k : Kept). joined k (kept_before next.asked mid)) so_far.4 ∙ joined_assoc (kept_before first.asked old) so_far.1 (kept_before next.asked mid),
    end_push story next so_far.0 mid new so_far.1 so_far.5 does rules,
  )

  kept_push : (story : List Exchange) (next : Exchange) (old mid new : Session K A L W) (before after : Option Kept) → IfSome before (EndLives story old mid)
      → Notes (kept_before next.asked mid) before after → DoesEach next.asked next.answers mid new → (begins_life next.asked ≡ true → KeepsRules mid)
      → IfSome after (EndLives (story ++ next ∷ []) old new)
  kept_push story next old mid new before None so_far notes does rules = tt
  kept_push story next old mid new None (Some lives) so_far notes does rules = absurd notes
  kept_push story next old mid new (Some had) (Some lives) so_far notes does rules =
      subst (λ (k : Kept). EndLives (story ++ next ∷ []) old new k) (sym notes) (end_push story next old mid new had so_far does rules)

  notes_pushed : (lines : ℕ) (asked : List ScriptLine) (line : ScriptLine) (old mid new : List Answer) (before after : Option Kept) (first last next : Session K A L W)
      → NotesLines lines asked old mid before first last → DoesLine lines line mid new last next → Notes (kept_before line last) before after → (begins_life line ≡ true → KeepsRules last)
      → NotesLines lines (asked ++ line ∷ []) old new after first next
  notes_pushed lines asked line old mid new before after first last next so_far done notes rules = record {
    done = line_pushed lines asked line old mid new first last next so_far.done done;
    ended = kept_push so_far.done.through.answered.story (record { asked = line; answers = done.answers.line.part.given }) first last next before after so_far.ended notes done.does rules;
  }

  -- the next of the lines
  pub notes_grow : (lines other : ℕ) → other ≡ lines → (script : List ScriptLine) (i : ℕ) (none : ScriptLine) (old mid new : List Answer) (before after : Option Kept) (first last next : Session K A L W)
      → i < length script → NotesLines lines (take i script) old mid before first last → DoesLine other (get_or script i none) mid new last next → Notes (kept_before (get_or script i none) last) before after
      → (begins_life (get_or script i none) ≡ true → KeepsRules last) → NotesLines lines (take (i + 1) script) old new after first next
  notes_grow lines other same script i none old mid new before after first last next inside so_far done notes rules =
      subst (λ (ls : List ScriptLine). NotesLines lines ls old new after first next) (sym (take_more script i none inside))
      (notes_pushed lines (take i script) (get_or script i none) old mid new before after first last next so_far
      (subst (λ (n : ℕ). DoesLine n (get_or script i none) mid new last next) same done) notes rules)

  none_ended : (kept : Option Kept) (at : Session K A L W) → IfSome kept (λ kept. kept ≡ nothing) → IfSome kept (EndLives [] at at)
  none_ended None at none = tt
  none_ended (Some lives) at none = (refl, none)

  pub notes_begin : (lines : ℕ) (old : List Answer) (at : Session K A L W) (kept : Option Kept) → IfSome kept (λ kept. kept ≡ nothing) → NotesLines lines [] old old kept at at
  notes_begin lines old at kept none = record { done = lines_begin lines old at; ended = none_ended kept at none }

  pub notes_end : (lines : ℕ) (script : List ScriptLine) (i : ℕ) (old new : List Answer) (kept : Option Kept) (first last : Session K A L W) → i ≡ length script
      → NotesLines lines (take i script) old new kept first last → AreAllNoted lines script old new kept first last
  notes_end lines script i old new kept first last all so_far =
      let taken : take i script ≡ script = ap (λ (n : ℕ). take n script) all ∙ take-length script in
      let noted : NotesLines lines script old new kept first last = subst (λ (ls : List ScriptLine). NotesLines lines ls old new kept first last) taken so_far in
      record { done = record { all = record { answered = noted.done.through.answered; whole = noted.done.through.whole }; does = noted.done.does; bears = noted.done.through.bears }; ended = noted.ended }

  -- the life that runs at the end too
  pub all_lives : (story : List Exchange) (first last : Session K A L W) (before after : Option Kept) → IfSome before (EndLives story first last) → Notes (kept_last last) before after
      → IfSome after (AreLives story first last)
  all_lives story first last before None so_far notes = tt
  all_lives story first last None (Some lives) so_far notes = absurd notes
  all_lives story first last (Some had) (Some lives) so_far notes = (had, so_far, notes)
