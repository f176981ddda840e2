-- What a journal promises of lives.
use Rattle.std.specs.Prelude.{◌≡◌, ◌≢◌, ◌⊎◌, true, ℕ, ◌+◌, ◌-◌, ◌≤◌, List, [], ◌∷◌, ◌++◌, length, slice_get, Some}
use Rattle.line_memory.specs.declared.Write.{Write}
use Rattle.save_image.specs.Image.{Image}
use Rattle.slot_store.specs.declared.slots.Slot.{Slot}
use Rattle.slot_store.specs.declared.restoring.Verdict.TheVariants.{Complete}
use Rattle.slot_store.specs.Outcomes.{Found, restored, verdict_of}
use Rattle.nv_machine.specs.declared.events.Event.{Event}
use Rattle.nv_machine.specs.declared.events.Reply.{Reply}
use Rattle.nv_machine.specs.Rising.{accepted_in}
use Rattle.nv_machine.specs.Causes.{HasCauseSince, OpenedWith}
use Rattle.nv_machine.specs.Lives.{Lived, last_life}
use Rattle.nv_machine.specs.Survival.{HasCauseAt, IsHonestLife, acknowledged}
use Rattle.journal_log.specs.Log.{Holds, Log, end_of}
use Rattle.journal_log.specs.Calls.{Append, AreAllowed, Attempt, Call, IsReadAs, appended_in, attempt, done_of, is_done, journal_writes, kept_in, log_after_all, writes_in}

-- how many lines the memory of a life has
abbrev pub lines_of_life : Lived → ℕ
lines_of_life life = length life.image.memory

-- All writes that a life accepted are those of these calls of a journal, one behind another, and each was allowed where it came.
-- Whatever else was asked of the module may lie between them.
pub record IsJournaled (life : Lived) (log : Log) (attempts : List Attempt) : Type 0 where
  pub writes : accepted_in life.events life.replies ≡ journal_writes (lines_of_life life) log attempts
  pub allowed : AreAllowed (lines_of_life life) log attempts

-- these attempts of a life are told stored: a reply has told that each of their writes is persistent
abbrev pub AreStored : Lived → List Attempt → Type 0
AreStored life attempts = life.image.count + writes_in attempts ≤ acknowledged life

-- the calls that are in an image: those whose head is among the writes that it holds
abbrev pub kept_calls : Lived → List Attempt → ℕ → List Call
kept_calls life attempts count = kept_in (count - life.image.count) attempts

-- In a journal there is this record with this number, unless it was cut.
abbrev pub HasRecord : Log → ℕ → List ℕ → Type 0
HasRecord log number bytes = log.gone ≤ number → slice_get log.records (number - log.gone) ≡ Some bytes

-- A record that was told stored: it was appended behind some attempts, its own append was done, and all of these are told stored.
pub record IsToldStored (life : Lived) (log : Log) (attempts : List Attempt) (number : ℕ) (bytes : List ℕ) : Type 0 where
  pub before : List Attempt
  pub made : ℕ
  pub later : List Attempt
  pub among : attempts ≡ before ++ attempt (Append bytes) made ∷ later
  pub done : is_done (attempt (Append bytes) made) ≡ true
  pub number_is : number ≡ end_of log + length (appended_in (done_of before))
  pub stored : AreStored life (before ++ attempt (Append bytes) made ∷ [])

-- An image holds a journal: what was there when the life was opened, and of the calls that were done a first part, each whole.
-- Complete, or after an honest life, it has all calls that were told stored, and each record that was told stored is there unless
-- one of these calls cut it. Where it isn't complete there is a cause.
pub record KeepsJournal (life : Lived) (log : Log) (attempts : List Attempt) (image : Image) (kept : Log) : Type 0 where
  pub holds : Holds image.memory kept
  pub reads : IsReadAs log (kept_calls life attempts image.count) kept
  pub front : (later : List Call) × (done_of attempts ≡ kept_calls life attempts image.count ++ later)
  pub stored : (verdict_of image.arm image.count ≡ Complete) ⊎ IsHonestLife life
      → (first later : List Attempt) → attempts ≡ first ++ later → AreStored life first
      → (more : List Call) × (kept_calls life attempts image.count ≡ done_of first ++ more)
  pub records : (verdict_of image.arm image.count ≡ Complete) ⊎ IsHonestLife life
      → (number : ℕ) (bytes : List ℕ) → IsToldStored life log attempts number bytes → HasRecord kept number bytes
  pub cause : verdict_of image.arm image.count ≢ Complete → HasCauseAt life.unanswered life.last.machine image

-- A restore finds such an image.
pub record JournalSurvives (life : Lived) (log : Log) (attempts : List Attempt) : Type 0 where
  pub slot : Slot
  pub image : Image
  pub kept : Log
  pub found : restored life.setup.shape.lines life.bytes ≡ Found slot image
  pub keeps : KeepsJournal life log attempts image kept

-- the calls that are kept of lives: each life's up to what the next one was opened with, and the last one's up to this count
abbrev pub kept_of_lives : List Lived → List (List Attempt) → ℕ → List Call
kept_of_lives [] others count = []
kept_of_lives (life ∷ lives) [] count = []
kept_of_lives (life ∷ []) (attempts ∷ others) count = kept_calls life attempts count
kept_of_lives (life ∷ next ∷ lives) (attempts ∷ others) count = kept_calls life attempts next.image.count ++ kept_of_lives (next ∷ lives) others count

-- Each life has its calls, behind the journal that the one before left.
abbrev pub AreJournaled : List Lived → Log → List (List Attempt) → Type 0
AreJournaled [] log [] = Unit {0}
AreJournaled (life ∷ []) log (attempts ∷ []) = IsJournaled life log attempts
AreJournaled (life ∷ next ∷ lives) log (attempts ∷ others) =
    IsJournaled life log attempts × AreJournaled (next ∷ lives) (log_after_all (lines_of_life life) log (kept_calls life attempts next.image.count)) others
AreJournaled _ log _ = ⊥

-- A restore after the last life finds a journal: what was there when the first one was opened, and behind it the calls that are kept
-- of the lives. Where it isn't complete one of the lives has a cause since the image was made, or all of them began with it.
pub record JournalsSurvive (life : Lived) (lives : List Lived) (log : Log) (attempts : List (List Attempt)) : Type 0 where
  pub slot : Slot
  pub image : Image
  pub kept : Log
  pub found : restored (last_life life lives).setup.shape.lines (last_life life lives).bytes ≡ Found slot image
  pub holds : Holds image.memory kept
  pub reads : IsReadAs log (kept_of_lives (life ∷ lives) attempts image.count) kept
  pub cause : verdict_of image.arm image.count ≢ Complete → HasCauseSince (life ∷ lives) image ⊎ OpenedWith image (life ∷ lives)
