-- A table in the life of a module.
use Rattle.std.specs.Prelude.{◌≡◌, ℕ, List, [], ◌∷◌, ◌++◌, length, map, min, nat_lt, if◌then◌else◌, ◌-◌}
use Rattle.save_image.specs.Image.{Image}
use Rattle.slot_store.specs.declared.head.Head.{Head}
use Rattle.channel_port.specs.declared.port.ChannelPort.{Ghosts}
use Rattle.nv_machine.specs.Lives.{IsLived, Lived}
use Rattle.module_core.specs.Stands.{Assembly}
use Rattle.journal_log.specs.Log.{Log}
use Rattle.journal_log.specs.Calls.{AreAllowed, writes_made}
use Rattle.journal_lives.specs.Promise.{AreStored}
use Rattle.table_log.specs.Tables.{AreLawful, Table}
use Rattle.table_log.specs.Survival.{TableAttempt, TableSurvives, calls_done, journal_attempt}
use Rattle.module_journal.specs.Living.{HasJournaled}

module _ {K : Type 0} (L : Ghosts K) where
  -- Since its life began with this image a module has accepted just the writes of these calls of a table: each was allowed where it
  -- came, and those that were done are lawful.
  pub record HasTabled (found : Head) (image : Image) (log : Log) (table : Table) (attempts : List TableAttempt) (first now : Assembly L) : Type 0 where
    pub journaled : HasJournaled L found image log (map journal_attempt attempts) first now
    pub allowed : AreAllowed (length image.memory) log (map journal_attempt attempts)
    pub lawful : AreLawful table (calls_done attempts)

-- A stop leaves what a table promises of these calls.
pub record EndsTable (image : Image) (table : Table) (attempts : List TableAttempt) (bytes : List ℕ) : Type 0 where
  pub life : Lived
  pub lived : IsLived life
  pub same : life.image ≡ image
  pub left : life.bytes ≡ bytes
  pub survives : TableSurvives life table attempts

-- A stop leaves it, and the first of these calls are told stored.
pub record EndsTableTold (image : Image) (table : Table) (first later : List TableAttempt) (bytes : List ℕ) : Type 0 where
  pub ends : EndsTable image table (first ++ later) bytes
  pub told : AreStored ends.life (map journal_attempt first)

-- the calls up to the first n of their writes
abbrev pub calls_upto : ℕ → List TableAttempt → List TableAttempt
calls_upto n [] = []
calls_upto n (a ∷ rest) =
    record { call = a.call; made = min n a.made } ∷ (if nat_lt n (writes_made (journal_attempt a)) then [] else calls_upto (n - writes_made (journal_attempt a)) rest)

-- A stop leaves what a table promises of the calls up to some of their writes.
pub record EndsTableThere (image : Image) (table : Table) (attempts : List TableAttempt) (bytes : List ℕ) : Type 0 where
  pub upto : ℕ
  pub kept : EndsTable image table (calls_upto upto attempts) bytes
