-- A journal in the life of a module.
use Rattle.std.specs.Prelude.{◌≡◌, ℕ, List, [], ◌∷◌, ◌++◌, Ok, length}
use Rattle.save_image.specs.Image.{Image}
use Rattle.slot_store.specs.declared.head.Head.{Head}
use Rattle.channel_port.specs.declared.port.ChannelPort.{Ghosts}
use Rattle.nv_machine.specs.declared.events.Event.{Event}
use Rattle.nv_machine.specs.declared.events.Reply.{Reply}
use Rattle.nv_machine.specs.declared.events.Reply.TheVariants as replies
use Rattle.nv_machine.specs.Lives.{Lived, IsLived}
use Rattle.module_core.specs.declared.module.Module.{Module}
use Rattle.module_core.specs.ModuleLives.{HasAnswered}
use Rattle.module_core.specs.Stands.{Assembly}
use Rattle.journal_log.specs.Log.{Log}
use Rattle.journal_log.specs.Calls.{Append, Attempt, attempt, done_of, journal_writes, log_after_all, upto_write, writes_of_call}
use Rattle.journal_lines.specs.declared.index.Index.{Index}
use Rattle.journal_lines.specs.Indexed.{IsIndexOf, end_of_index}
use Rattle.journal_lives.specs.Promise.{AreStored, IsJournaled, IsToldStored, JournalSurvives}
use Rattle.module_journal.specs.declared.journal.Appended.{Appended}
use Rattle.module_journal.specs.Writing.{IsMade}
use Rattle.nv_machine.specs.Rising.{accepted_in}

-- the journal behind attempts on one that an image holds
abbrev pub log_behind_all : Image → Log → List Attempt → Log
log_behind_all image log attempts = log_after_all (length image.memory) log (done_of attempts)

module _ {K : Type 0} (L : Ghosts K) where
  -- A module has answered some events since its life began with this image, and accepted in them just the writes of these attempts.
  pub record HasJournaled (found : Head) (image : Image) (log : Log) (attempts : List Attempt) (first now : Assembly L) : Type 0 where
    pub events : List Event
    pub replies : List Reply
    pub paired : length events ≡ length replies
    pub answered : HasAnswered L found image events replies first now
    pub are : accepted_in events replies ≡ journal_writes (length image.memory) log attempts

  -- A record was appended behind these attempts of a life, and told this.
  pub record HasAppended (found : Head) (image : Image) (log : Log) (before : List Attempt) (bytes : List ℕ) (appended : Appended) : Type 0 where
    pub first : Assembly L
    pub old : Assembly L
    pub new : Module K L
    pub index : Index
    pub so : HasJournaled found image log before first old
    pub is : IsIndexOf index (log_behind_all image log before)
    pub lines : index.lines ≡ length image.memory
    pub made : IsMade L (replies.Write (Ok appended.head)) index (Append bytes) old.it new
    pub number : appended.«record» ≡ end_of_index index

-- an append of which all writes were accepted
abbrev pub whole_append : List ℕ → Attempt
whole_append bytes = attempt (Append bytes) (writes_of_call (Append bytes))

-- A stop leaves what the journal promises of these attempts.
pub record EndsKept (image : Image) (log : Log) (attempts : List Attempt) (bytes : List ℕ) : Type 0 where
  pub life : Lived
  pub lived : IsLived life
  pub same : life.image ≡ image
  pub left : life.bytes ≡ bytes
  pub journaled : IsJournaled life log attempts
  pub survives : JournalSurvives life log attempts

-- The same of the attempts up to some of their writes.
pub record EndsKeptThere (image : Image) (log : Log) (attempts : List Attempt) (bytes : List ℕ) : Type 0 where
  pub upto : ℕ
  pub kept : EndsKept image log (upto_write upto attempts) bytes

-- A stop leaves it, and a record that was appended behind some attempts is told stored, with all of these.
pub record EndsTold (image : Image) (log : Log) (before later : List Attempt) (number : ℕ) (bytes left : List ℕ) : Type 0 where
  pub ends : EndsKept image log (before ++ whole_append bytes ∷ later) left
  pub stored : AreStored ends.life (before ++ whole_append bytes ∷ [])
  pub told : IsToldStored ends.life log (before ++ whole_append bytes ∷ later) number bytes
