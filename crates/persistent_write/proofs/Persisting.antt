-- A write, and the saves behind it.
use Rattle.std.proofs.Common.{◌≡◌, ◌∙◌, ℕ, List, [], ◌∷◌, ◌++◌, refl, sym, ap, subst, Result, Ok, Err}
use Rattle.std.proofs.lemmas.List.{append_assoc}
use Rattle.line_memory.specs.declared.Write.{Write}
use Rattle.notice_book.specs.declared.entry.Persisted.{Persisted}
use Rattle.arm_state.specs.declared.refusal.ArmRefusal.{ArmRefusal}
use Rattle.arm_state.specs.declared.refusal.WriteRefusal.{WriteRefusal}
use Rattle.channel_port.specs.declared.port.ChannelPort.{Ghosts}
use Rattle.nv_machine.specs.Machine.{WriteStep}
use Rattle.nv_machine.specs.State.{Machine, Setup, all_of}
use Rattle.nv_machine.specs.declared.events.Accepted.{Accepted}
use Rattle.nv_machine.specs.declared.events.Event.{Event}
use Rattle.nv_machine.specs.declared.events.Event.TheVariants as events
use Rattle.nv_machine.specs.declared.events.Reply.{Reply}
use Rattle.nv_machine.specs.declared.events.Reply.TheVariants as replies
use Rattle.nv_machine.specs.declared.events.StepReply.{StepReply}
use Rattle.nv_machine.specs.declared.events.StepReply.TheVariants as step
use Rattle.module_core.specs.Stands.{Answers, Assembly, setup_of}
use Rattle.nv_session.specs.Coming.{Comes}
use Rattle.nv_session.specs.SaveTurns.{MakesSave}
use Rattle.nv_session.specs.Turns.{AreOfStep, EndsWithStep}
use Rattle.nv_session.proofs.Coming.{Starts, comes_further, comes_on, comes_retold, starts_at}
use Rattle.persistent_write.specs.declared.writing.NotPersistent.{NotPersistent}
use Rattle.persistent_write.specs.declared.writing.NotPersistent.TheVariants as why
use Rattle.persistent_write.specs.Persisting.{EndsFor, EndsWith, HasWritten, SavesFor, WasRefused, WritesPersistently}

-- the last event of a save that was begun, and of one that wasn't
stepped : (last : StepReply) (asked : List Event) (told : List Reply) → EndsWithStep (Ok last) asked told → EndsWith events.SaveStep (replies.SaveStep last) asked told
stepped last asked told ends = record { before = ends.0; given = ends.1; asked_is = ends.2; told_is = ends.3 }

refused_begin : (refusal : ArmRefusal) (asked : List Event) (told : List Reply) → AreOfStep (Err refusal) asked told → EndsWith events.SaveBegin (replies.SaveBegin (Err refusal)) asked told
refused_begin refusal asked told are = record { before = events.SaveStep ∷ []; given = replies.SaveStep step.NoSave ∷ []; asked_is = are.0; told_is = are.1 }

-- a last event is one behind others too
ends_behind : (event : Event) (reply : Reply) (es fs : List Event) (rs ts : List Reply) → EndsWith event reply fs ts → EndsWith event reply (es ++ fs) (rs ++ ts)
ends_behind event reply es fs rs ts ends = record {
  before = es ++ ends.before;
  given = rs ++ ends.given;
  asked_is = ap (λ (xs : List Event). es ++ xs) ends.asked_is ∙ sym (append_assoc es ends.before (event ∷ []));
  told_is = ap (λ (xs : List Reply). rs ++ xs) ends.told_is ∙ sym (append_assoc rs ends.given (reply ∷ []));
}

still_ends : (number : ℕ) (result : Result Persisted NotPersistent) (es fs : List Event) (rs ts : List Reply) → EndsFor number result fs ts → EndsFor number result (es ++ fs) (rs ++ ts)
still_ends number (Ok persisted) es fs rs ts ends = ends
still_ends number (Err (why.Refused refusal)) es fs rs ts ends = ends
still_ends number (Err (why.NotBegun given refusal)) es fs rs ts ends = (ends.0, ends_behind events.SaveBegin (replies.SaveBegin (Err refusal)) es fs rs ts ends.1)
still_ends number (Err (why.NotSaved given last)) es fs rs ts ends = (ends.0, ends_behind events.SaveStep (replies.SaveStep last) es fs rs ts ends.1)

-- a write was accepted, and a save made for it
pub record HasSavedFor (write : Write) (number : ℕ) (result : Result Persisted NotPersistent) (asked : List Event) (told : List Reply) (old new : Machine) : Type 0 where
  pub written : HasWritten write number asked told old new
  pub ends : EndsFor number result asked told

written_on : (write : Write) (number : ℕ) (result : Result Persisted NotPersistent) (es fs : List Event) (rs ts : List Reply) (m n l : Machine)
    → HasWritten write number es rs m n → SavesFor number result fs ts n l → HasSavedFor write number result (es ++ fs) (rs ++ ts) m l
written_on write number result es fs rs ts m n l told next = record {
  written = record {
    accepted = told.accepted;
    number_is = told.number_is;
    next = told.next;
    later = told.later ++ fs;
    others = told.others ++ ts;
    first = ap (λ (xs : List Event). xs ++ fs) told.first;
    answered = ap (λ (xs : List Reply). xs ++ ts) told.answered;
    opened = next.same.opened ∙ told.opened;
    writes = next.same.writes ∙ told.writes;
  };
  ends = still_ends number result es fs rs ts next.ends;
}

-- the number of a write is told
whole : (write : Write) (number : ℕ) (result : Result Persisted NotPersistent) (asked : List Event) (told : List Reply) (old new : Machine)
    → HasSavedFor write number result asked told old new → WritesPersistently write result asked told old new
whole write number (Ok persisted) asked told old new it = (subst (λ (n : ℕ). HasWritten write n asked told old new) (sym it.ends) it.written, refl)
whole write number (Err (why.Refused refusal)) asked told old new it = absurd it.ends
whole write number (Err (why.NotBegun given refusal)) asked told old new it =
    (subst (λ (n : ℕ). HasWritten write n asked told old new) (sym it.ends.0) it.written, (refl, it.ends.1))
whole write number (Err (why.NotSaved given last)) asked told old new it =
    (subst (λ (n : ℕ). HasWritten write n asked told old new) (sym it.ends.0) it.written, (refl, it.ends.1))

module _ {K : Type 0} (L : Ghosts K) where
  pub saved_for : (channels number : ℕ) (last : StepReply) (persisted : Persisted) (old new : Assembly L) → persisted.number ≡ number
      → Comes L (MakesSave channels (Ok last)) old new → Comes L (SavesFor number (Ok persisted)) old new
  saved_for channels number last persisted old new is comes =
      comes_retold L (MakesSave channels (Ok last)) (SavesFor number (Ok persisted)) old new comes (λ es rs m n told. record { same = told.goes_on.same; ends = is })

  pub not_saved_for : (channels number : ℕ) (last : StepReply) (old new : Assembly L)
      → Comes L (MakesSave channels (Ok last)) old new → Comes L (SavesFor number (Err (why.NotSaved number last))) old new
  not_saved_for channels number last old new comes =
      comes_retold L (MakesSave channels (Ok last)) (SavesFor number (Err (why.NotSaved number last))) old new comes
      (λ es rs m n told. record { same = told.goes_on.same; ends = (refl, stepped last es rs told.goes_on.last) })

  pub not_begun_for : (channels number : ℕ) (refusal : ArmRefusal) (old new : Assembly L)
      → Comes L (MakesSave channels (Err refusal)) old new → Comes L (SavesFor number (Err (why.NotBegun number refusal))) old new
  not_begun_for channels number refusal old new comes =
      comes_retold L (MakesSave channels (Err refusal)) (SavesFor number (Err (why.NotBegun number refusal))) old new comes
      (λ es rs m n told. record { same = told.goes_on.same; ends = (refl, refused_begin refusal es rs told.goes_on.last) })

  -- the write
  pub has_written : (write : Write) (accepted : Accepted) (old new : Assembly L) → Answers L (events.Write write) (replies.Write (Ok accepted)) old new
      → Comes L (HasWritten write accepted.number) old new
  has_written write accepted old new answers =
      comes_further L Starts (HasWritten write accepted.number) (events.Write write) (replies.Write (Ok accepted)) old old new refl (starts_at L old) answers
      (λ es rs m n l stands told happens.
      let accepts = happens.step.1.1 in
      record {
        accepted = accepted;
        number_is = refl;
        next = accepts.number ∙ ap all_of told.same;
        later = [];
        others = [];
        first = ap (λ (xs : List Event). xs ++ events.Write write ∷ []) told.unasked;
        answered = ap (λ (xs : List Reply). xs ++ replies.Write (Ok accepted) ∷ []) told.untold;
        opened = ap (λ (x : Machine). x.life.opened) accepts.is ∙ ap (λ (x : Machine). x.life.opened) told.same;
        writes = ap (λ (x : Machine). x.life.writes) accepts.is ∙ ap (λ (x : Machine). x.life.writes ++ write ∷ []) told.same;
      })

  pub was_refused : (write : Write) (refusal : WriteRefusal) (old new : Assembly L) → Answers L (events.Write write) (replies.Write (Err refusal)) old new
      → Comes L (WritesPersistently write (Err (why.Refused refusal))) old new
  was_refused write refusal old new answers =
      comes_further L Starts (WasRefused write refusal) (events.Write write) (replies.Write (Err refusal)) old old new refl (starts_at L old) answers
      (λ es rs m n l stands told happens.
      record {
        asked_is = ap (λ (xs : List Event). xs ++ events.Write write ∷ []) told.unasked;
        told_is = ap (λ (xs : List Reply). xs ++ replies.Write (Err refusal) ∷ []) told.untold;
        same = happens.step.1.1 ∙ told.same;
      })

  -- it is persistent at once
  pub at_once : (write : Write) (number : ℕ) (persisted : Persisted) (old new : Assembly L) → persisted.number ≡ number
      → Comes L (HasWritten write number) old new → Comes L (WritesPersistently write (Ok persisted)) old new
  at_once write number persisted old new is comes =
      comes_retold L (HasWritten write number) (WritesPersistently write (Ok persisted)) old new comes
      (λ es rs m n told. whole write number (Ok persisted) es rs m n (record { written = told; ends = is }))

  -- behind a save, and behind a second one
  pub behind_a_save : (write : Write) (number : ℕ) (result : Result Persisted NotPersistent) (old mid new : Assembly L) → setup_of L mid.it ≡ setup_of L old.it
      → Comes L (HasWritten write number) old mid → Comes L (SavesFor number result) mid new → Comes L (WritesPersistently write result) old new
  behind_a_save write number result old mid new same written saved =
      comes_on L (HasWritten write number) (SavesFor number result) (WritesPersistently write result) old mid new same written saved
      (λ es fs rs ts m n l told next. whole write number result (es ++ fs) (rs ++ ts) m l (written_on write number result es fs rs ts m n l told next))

  pub still_written : (write : Write) (number : ℕ) (result : Result Persisted NotPersistent) (old mid new : Assembly L) → setup_of L mid.it ≡ setup_of L old.it
      → Comes L (HasWritten write number) old mid → Comes L (SavesFor number result) mid new → Comes L (HasWritten write number) old new
  still_written write number result old mid new same written saved =
      comes_on L (HasWritten write number) (SavesFor number result) (HasWritten write number) old mid new same written saved
      (λ es fs rs ts m n l told next. (written_on write number result es fs rs ts m n l told next).written)
