-- What a stop leaves of a table.
use Rattle.std.proofs.Common.{◌≡◌, ℕ, ◌+◌, ◌-◌, List, [], ◌∷◌, ◌++◌, length, take, drop, refl, sym, ap, subst, ◌∙◌, append_assoc, length-append}
use Rattle.std.specs.Prelude.{Bool, true, false, if◌then◌else◌, map}
use Rattle.std.proofs.Math.Seq.{take-append-add, take-append_seam}
use Rattle.std.proofs.lemmas.List.{length-map, map-append, take-append-drop, take-map}
use Rattle.nv_machine.specs.Lives.{Lived, IsLived}
use Rattle.journal_log.specs.Log.{Holds, Log}
use Rattle.journal_log.specs.Calls.{Call, IsReadAs, appended_in, done_of, is_done, log_after_all}
use Rattle.journal_log.proofs.Keeping.{reads}
use Rattle.journal_lives.specs.Promise.{JournalSurvives, kept_calls, lines_of_life}
use Rattle.journal_lives.proofs.Keeping.{life_keeps}
use Rattle.table_log.specs.Tables.{AreLawful, IsTable, Table, TableCall, journal_call}
use Rattle.table_log.specs.Survival.{AreTabled, TableAttempt, TableSurvives, calls_done, journal_attempt}
use Rattle.table_log.proofs.Changing.{calls_hold, lawful_front, table_after_all, values_told}

-- one attempt before others
one_done : (done : Bool) (call : TableCall) (others : List Call) (rest : List TableCall) → others ≡ map journal_call rest
    → (if done then journal_call call ∷ [] else []) ++ others ≡ map journal_call ((if done then call ∷ [] else []) ++ rest)
one_done true call others rest same = ap (λ (calls : List Call). journal_call call ∷ calls) same
one_done false call others rest same = same

-- the calls of a table that were done, as calls of the journal
pub done_calls : (attempts : List TableAttempt) → done_of (map journal_attempt attempts) ≡ map journal_call (calls_done attempts)
done_calls [] = refl
done_calls (a ∷ rest) = one_done (is_done (journal_attempt a)) a.call (done_of (map journal_attempt rest)) (calls_done rest) (done_calls rest)

pub done-append : (first rest : List TableAttempt) → calls_done (first ++ rest) ≡ calls_done first ++ calls_done rest
done-append [] rest = refl
done-append (a ∷ first) rest =
    ap (λ (calls : List TableCall). (if is_done (journal_attempt a) then a.call ∷ [] else []) ++ calls) (done-append first rest)
    ∙ sym (append_assoc (if is_done (journal_attempt a) then a.call ∷ [] else []) (calls_done first) (calls_done rest))

-- a first part is told by its length
front_is : {X : Type 0} (all front later : List X) → all ≡ front ++ later → front ≡ take (length front) all
front_is {X} all front later parts = sym (take-append_seam front later) ∙ ap (take (length front)) (sym parts)

-- what a reader sees is one journal's
same_read : (old some other : Log) (calls : List Call) → IsReadAs old calls some → IsReadAs old calls other → (some.gone ≡ other.gone) × (some.records ≡ other.records)
same_read old some other calls one two =
    let gone : some.gone ≡ other.gone = one.gone ∙ sym two.gone in
    (gone, one.records ∙ ap (λ (n : ℕ). drop (n - old.gone) (old.records ++ appended_in calls)) gone ∙ sym two.records)

table_same : (some other : Log) (table : Table) → some.gone ≡ other.gone → some.records ≡ other.records → IsTable some table → IsTable other table
table_same some other table gone records is = record { gone = sym gone ∙ is.gone; records = sym records ∙ is.records; short = is.short }

module _ (life : Lived) (log : Log) (table : Table) (attempts : List TableAttempt) (lived : IsLived life) (held : Holds life.image.memory log) (is : IsTable log table)
    (tabled : AreTabled life log table attempts) where
  abbrev s : JournalSurvives life log (map journal_attempt attempts)
  s = life_keeps life log (map journal_attempt attempts) lived held tabled.journaled

  abbrev made : List Call
  made = kept_calls life (map journal_attempt attempts) s.image.count

  abbrev all : List TableCall
  all = calls_done attempts

  abbrev calls : List TableCall
  calls = take (length made) all

  abbrev later : List TableCall
  later = drop (length made) all

  parts : all ≡ calls ++ later
  parts = sym (take-append-drop (length made) all)

  made_are : made ≡ map journal_call calls
  made_are =
      front_is (done_of (map journal_attempt attempts)) made s.keeps.front.0 s.keeps.front.1
      ∙ ap (take (length made)) (done_calls attempts)
      ∙ take-map journal_call (length made) all

  lawful : AreLawful table calls
  lawful = lawful_front table calls later (subst (AreLawful table) parts tabled.lawful)

  abbrev reached : Log
  reached = log_after_all (lines_of_life life) log (map journal_call calls)

  read : IsReadAs log made reached
  read =
      subst (λ (cs : List Call). IsReadAs log made (log_after_all (lines_of_life life) log cs)) made_are
      (reads (lines_of_life life) log (map journal_attempt attempts) (s.image.count - life.image.count) tabled.journaled.allowed)

  holds_table : IsTable s.kept (table_after_all table calls)
  holds_table =
      let same = same_read log reached s.kept made read s.keeps.reads in
      table_same reached s.kept (table_after_all table calls) same.0 same.1 (calls_hold (lines_of_life life) log table calls is lawful)

  stored_front : (first rest : List TableAttempt) → attempts ≡ first ++ rest → (more : List Call) → made ≡ done_of (map journal_attempt first) ++ more
      → (others : List TableCall) × (calls ≡ calls_done first ++ others)
  stored_front first rest split more same =
      let count : length made ≡ length (calls_done first) + length more =
      ap length same ∙ length-append (done_of (map journal_attempt first)) more
      ∙ ap (λ (n : ℕ). n + length more) (ap length (done_calls first) ∙ length-map (calls_done first) journal_call) in (
        take (length more) (calls_done rest),
        ap (λ (cs : List TableCall). take (length made) cs) (ap calls_done split ∙ done-append first rest)
            ∙ ap (λ (n : ℕ). take n (calls_done first ++ calls_done rest)) count
            ∙ take-append-add (calls_done first) (calls_done rest) (length more),
      )

  pub table_survives : TableSurvives life table attempts
  table_survives = record {
    slot = s.slot;
    image = s.image;
    kept = s.kept;
    left = table_after_all table calls;
    calls = calls;
    later = later;
    found = s.found;
    holds = s.keeps.holds;
    is = holds_table;
    front = parts;
    values = λ key. values_told key table calls lawful;
    stored = λ why first rest split are.
        let some = s.keeps.stored why (map journal_attempt first) (map journal_attempt rest) (ap (map journal_attempt) split ∙ map-append journal_attempt first rest) are in
        stored_front first rest split some.0 some.1;
    cause = s.keeps.cause;
  }
