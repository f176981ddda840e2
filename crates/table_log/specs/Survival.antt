-- What a table promises of lives.
use Rattle.std.specs.Prelude.{◌≡◌, ◌≢◌, ◌⊎◌, ℕ, List, [], ◌∷◌, ◌++◌, map, if◌then◌else◌}
use Rattle.save_image.specs.Image.{Image}
use Rattle.slot_store.specs.declared.slots.Slot.{Slot}
use Rattle.slot_store.specs.declared.restoring.Verdict.TheVariants.{Complete}
use Rattle.slot_store.specs.Outcomes.{Found, restored, verdict_of}
use Rattle.nv_machine.specs.Lives.{Lived}
use Rattle.nv_machine.specs.Survival.{HasCauseAt, IsHonestLife}
use Rattle.journal_log.specs.Log.{Holds, Log}
use Rattle.journal_log.specs.Calls.{Attempt, attempt, is_done}
use Rattle.journal_lives.specs.Promise.{AreStored, IsJournaled}
use Rattle.table_log.specs.Tables.{AreLawful, IsTable, Table, TableCall, journal_call, value_behind_calls, value_in}

-- A call, and how many of its writes were accepted.
pub record TableAttempt : Type 0 where
  pub call : TableCall
  pub made : ℕ

-- the same as an attempt of the journal
abbrev pub journal_attempt : TableAttempt → Attempt
journal_attempt a = attempt (journal_call a.call) a.made

-- the calls that were done: their head was accepted
abbrev pub calls_done : List TableAttempt → List TableCall
calls_done [] = []
calls_done (a ∷ rest) = (if is_done (journal_attempt a) then a.call ∷ [] else []) ++ calls_done rest

-- All writes of a life are those of these calls of a table, and those that were done are lawful.
pub record AreTabled (life : Lived) (log : Log) (table : Table) (attempts : List TableAttempt) : Type 0 where
  pub journaled : IsJournaled life log (map journal_attempt attempts)
  pub lawful : AreLawful table (calls_done attempts)

-- A restore finds an image that holds a table: each key has what it had when the life was opened, changed by a first part of the calls
-- that were done. Complete, or after an honest life, they have all calls that were told stored. Where it isn't complete there is a cause.
pub record TableSurvives (life : Lived) (table : Table) (attempts : List TableAttempt) : Type 0 where
  pub slot : Slot
  pub image : Image
  pub kept : Log
  pub left : Table
  pub calls : List TableCall
  pub later : List TableCall
  pub found : restored life.setup.shape.lines life.bytes ≡ Found slot image
  pub holds : Holds image.memory kept
  pub is : IsTable kept left
  pub front : calls_done attempts ≡ calls ++ later
  pub values : (key : List ℕ) → value_in key left ≡ value_behind_calls key (value_in key table) calls
  pub stored : (verdict_of image.arm image.count ≡ Complete) ⊎ IsHonestLife life
      → (first rest : List TableAttempt) → attempts ≡ first ++ rest → AreStored life (map journal_attempt first)
      → (more : List TableCall) × (calls ≡ calls_done first ++ more)
  pub cause : verdict_of image.arm image.count ≢ Complete → HasCauseAt life.unanswered life.last.machine image
