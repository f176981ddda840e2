-- A table's calls go on with a life.
use Rattle.std.proofs.Common.{◌≡◌, ◌∙◌, ◌-◌, ◌<◌, ◌≤◌, inl, inr, ℕ, List, [], ◌∷◌, ◌++◌, ap, append_assoc, arith, length, length-append, min, refl, subst, sym, take}
use Rattle.std.specs.Prelude.{Bool, IsTrue, true, false, if◌then◌else◌, map, nat_lt}
use Rattle.std.proofs.lemmas.Bool.{cases_Bool, cases_lt, le-ltb, lt-ltb}
use Rattle.std.proofs.lemmas.List.{append-nil, map-append}
use Rattle.line_memory.specs.declared.Write.{Write}
use Rattle.save_device.specs.Device.{DeviceState, MayLeave, present}
use Rattle.energy_budget.specs.Gauge.{Gauge}
use Rattle.save_image.specs.Image.{Image}
use Rattle.slot_store.specs.declared.head.Head.{Head}
use Rattle.channel_port.specs.declared.port.ChannelPort.{Ghosts}
use Rattle.nv_machine.specs.Lives.{IsLeftAt, moments_since}
use Rattle.nv_machine.specs.Rising.{accepted_in}
use Rattle.nv_machine.specs.declared.events.Event.{Event}
use Rattle.nv_machine.specs.declared.events.Reply.{Reply}
use Rattle.module_core.specs.declared.module.Module.{Module}
use Rattle.module_core.specs.InTurn.{AnswersCalls}
use Rattle.module_core.specs.Opening.{opened_with}
use Rattle.module_core.proofs.CallsInTurn.{answered_on}
use Rattle.module_core.specs.Stands.{Assembly, ModuleStands, assembly}
use Rattle.journal_log.specs.Log.{Holds, Log}
use Rattle.journal_log.specs.Calls.{AreAllowed, Attempt, IsAllowed, attempt, call_writes, is_done, journal_writes, lines_before_head, upto_write, writes_made}
use Rattle.journal_lives.specs.Promise.{AreStored, IsJournaled}
use Rattle.table_log.specs.Changes.{Change, record_of}
use Rattle.table_log.specs.Tables.{AreLawful, Changes, IsLawful, IsTable, Table, TableCall, journal_call}
use Rattle.table_log.specs.Survival.{TableAttempt, calls_done, journal_attempt}
use Rattle.table_log.proofs.Changing.{lawful_front}
use Rattle.table_log.proofs.Surviving.{table_survives}
use Rattle.module_journal.specs.Writing.{Accepts}
use Rattle.module_journal.specs.Living.{EndsKept, EndsKeptThere, EndsTold, HasAppended, HasJournaled, whole_append}
use Rattle.module_journal.specs.declared.journal.Appended.{Appended}
use Rattle.module_journal.proofs.Joining.{accepted-append}
use Rattle.module_journal.proofs.Living.{begun, ended, ended_anywhere, went_on_by_others}
use Rattle.module_journal.proofs.Storing.{told_behind}
use Rattle.journal_table.specs.Calling.{log_behind_calls, table_behind_calls, whole_call}
use Rattle.journal_table.specs.Living.{EndsTable, EndsTableThere, EndsTableTold, HasTabled, calls_upto}
use Rattle.journal_table.proofs.Calls.{allowed_behind, lawful_behind, writes_behind}

-- an attempt is done up to a number of writes as before where all of its own are among them, and else it isn't
same_done : (n : ℕ) (a : Attempt) → writes_made a ≤ n → is_done (attempt a.call (min n a.made)) ≡ is_done a
same_done n a all =
    elim (cases_lt (length (lines_before_head a.call)) a.made) [
      | inl done ↦ lt-ltb (length (lines_before_head a.call)) (min n a.made) (omega (arith, done, all)) ∙ sym (lt-ltb (length (lines_before_head a.call)) a.made done)
      | inr short ↦ le-ltb (length (lines_before_head a.call)) (min n a.made) (omega (arith, short)) ∙ sym (le-ltb (length (lines_before_head a.call)) a.made short)
    ]

not_done : (n : ℕ) (a : Attempt) → n < writes_made a → is_done (attempt a.call (min n a.made)) ≡ false
not_done n a some = le-ltb (length (lines_before_head a.call)) (min n a.made) (omega (arith, some))

-- the calls up to some of their writes, as attempts of the journal
upto_flag : (short : Bool) (calls : List TableAttempt) (others : List Attempt) → map journal_attempt calls ≡ others → map journal_attempt (if short then [] else calls) ≡ (if short then [] else others)
upto_flag true calls others same = refl
upto_flag false calls others same = same

upto_same : (n : ℕ) (attempts : List TableAttempt) → map journal_attempt (calls_upto n attempts) ≡ upto_write n (map journal_attempt attempts)
upto_same n [] = refl
upto_same n (a ∷ rest) =
    ap (λ (js : List Attempt). attempt (journal_attempt a).call (min n a.made) ∷ js)
    (upto_flag (nat_lt n (writes_made (journal_attempt a))) (calls_upto (n - writes_made (journal_attempt a)) rest) (upto_write (n - writes_made (journal_attempt a)) (map journal_attempt rest))
    (upto_same (n - writes_made (journal_attempt a)) rest))

-- those of them that were done are a first part of all
upto_front : (n : ℕ) (attempts : List TableAttempt) → (later : List TableCall) × (calls_done attempts ≡ calls_done (calls_upto n attempts) ++ later)
upto_front n [] = ([], refl)
upto_front n (a ∷ rest) =
    elim (cases_lt n (writes_made (journal_attempt a))) [
      | inl some ↦ (calls_done (a ∷ rest), rw (lt-ltb n (writes_made (journal_attempt a)) some, not_done n (journal_attempt a) some) refl)
      | inr all ↦
          let more = upto_front (n - writes_made (journal_attempt a)) rest in (
            more.0,
            rw (le-ltb n (writes_made (journal_attempt a)) all, same_done n (journal_attempt a) all)
                (ap (λ (calls : List TableCall). (if is_done (journal_attempt a) then a.call ∷ [] else []) ++ calls) more.1
                ∙ sym (append_assoc (if is_done (journal_attempt a) then a.call ∷ [] else []) (calls_done (calls_upto (n - writes_made (journal_attempt a)) rest)) more.0)),
          )
    ]

-- the calls that one attempt adds
one_lawful : (table : Table) (one : TableAttempt) → (is_done (journal_attempt one) ≡ true → IsLawful table one.call) → AreLawful table (calls_done (one ∷ []))
one_lawful table one lawful =
    elim (cases_Bool (is_done (journal_attempt one))) [
      | inl done ↦ rw done (lawful done, tt)
      | inr short ↦ rw short tt
    ]

module _ {K : Type 0} (L : Ghosts K) (found : Head) (image : Image) (log : Log) (table : Table) where
  abbrev lines : ℕ
  lines = length image.memory

  pub tabled : (first : Assembly L) → ModuleStands L first.it first.device (opened_with found image) → HasTabled L found image log table [] first first
  tabled first stands = record { journaled = begun L found image log first stands; allowed = tt; lawful = tt }

  pub tabled_on : (attempts more : List TableAttempt) (first : Assembly L) (old new : Module K L) (device : DeviceState) (gauge : Gauge)
      → HasTabled L found image log table attempts first (assembly old device gauge)
      → Accepts L device gauge (journal_writes lines (log_behind_calls lines log attempts) (map journal_attempt more)) old new
      → AreAllowed lines (log_behind_calls lines log attempts) (map journal_attempt more) → AreLawful (table_behind_calls table attempts) (calls_done more)
      → HasTabled L found image log table (attempts ++ more) first (assembly new device gauge)
  tabled_on attempts more first old new device gauge so accepts allowed lawful = record {
    journaled = let j = so.journaled in record {
      events = j.events ++ accepts.events;
      replies = j.replies ++ accepts.replies;
      paired = omega (arith, j.paired, accepts.paired, length-append j.events accepts.events, length-append j.replies accepts.replies);
      answered = answered_on L found image j.events accepts.events j.replies accepts.replies first (assembly old device gauge) (assembly new device gauge) j.answered accepts.calls;
      are = accepted-append j.events accepts.events j.replies accepts.replies j.paired
          ∙ ap (λ (ws : List Write). ws ++ accepted_in accepts.events accepts.replies) j.are
          ∙ ap (λ (ws : List Write). journal_writes lines log (map journal_attempt attempts) ++ ws) accepts.are
          ∙ sym (writes_behind attempts more lines log);
    };
    allowed = allowed_behind attempts more lines log so.allowed allowed;
    lawful = lawful_behind attempts more table so.lawful lawful;
  }

  pub tabled_one : (attempts : List TableAttempt) (one : TableAttempt) (first : Assembly L) (old new : Module K L) (device : DeviceState) (gauge : Gauge)
      → HasTabled L found image log table attempts first (assembly old device gauge)
      → let before = log_behind_calls lines log attempts in Accepts L device gauge (take one.made (call_writes lines before (journal_call one.call))) old new
      → IsAllowed lines before (journal_call one.call) → (is_done (journal_attempt one) ≡ true → IsLawful (table_behind_calls table attempts) one.call)
      → HasTabled L found image log table (attempts ++ one ∷ []) first (assembly new device gauge)
  tabled_one attempts one first old new device gauge so accepts allowed lawful =
      let writes : List Write = take one.made (call_writes lines (log_behind_calls lines log attempts) (journal_call one.call)) in
      tabled_on attempts (one ∷ []) first old new device gauge so (subst (λ (ws : List Write). Accepts L device gauge ws old new) (sym (append-nil writes)) accepts)
      (allowed, tt) (one_lawful (table_behind_calls table attempts) one lawful)

  pub tabled_by_others : (attempts : List TableAttempt) (first old new : Assembly L) (events : List Event) (replies : List Reply) → HasTabled L found image log table attempts first old
      → length events ≡ length replies → AnswersCalls L events replies old new → accepted_in events replies ≡ [] → HasTabled L found image log table attempts first new
  tabled_by_others attempts first old new events replies so paired calls none = record {
    journaled = went_on_by_others L found image log (map journal_attempt attempts) first old new events replies so.journaled paired calls none;
    allowed = so.allowed;
    lawful = so.lawful;
  }

  -- a life that keeps a journal's promise keeps the table's
  kept_table : (attempts : List TableAttempt) (js : List Attempt) (bytes : List ℕ) → EndsKept image log js bytes → js ≡ map journal_attempt attempts → Holds image.memory log → IsTable log table
      → AreLawful table (calls_done attempts) → EndsTable image table attempts bytes
  kept_table attempts js bytes ends are held is lawful = record {
    life = ends.life;
    lived = ends.lived;
    same = ends.same;
    left = ends.left;
    survives = table_survives ends.life log table attempts ends.lived (subst (λ (i : Image). Holds i.memory log) (sym ends.same) held) is
        (record { journaled = subst (IsJournaled ends.life log) are ends.journaled; lawful = lawful });
  }

  pub table_ends : (attempts : List TableAttempt) (first now : Assembly L) (bytes : List ℕ) → HasTabled L found image log table attempts first now → Holds image.memory log → IsTable log table
      → MayLeave (present now.device) bytes → EndsTable image table attempts bytes
  table_ends attempts first now bytes so held is left =
      kept_table attempts (map journal_attempt attempts) bytes (ended L found image log (map journal_attempt attempts) first now bytes so.journaled held so.allowed left) refl held is so.lawful

  pub table_ends_anywhere : (attempts : List TableAttempt) (first now : Assembly L) (bytes : List ℕ) → HasTabled L found image log table attempts first now → Holds image.memory log → IsTable log table
      → IsLeftAt (moments_since first.device now.device) bytes → EndsTableThere image table attempts bytes
  table_ends_anywhere attempts first now bytes so held is left =
      let there : EndsKeptThere image log (map journal_attempt attempts) bytes = ended_anywhere L found image log (map journal_attempt attempts) first now bytes so.journaled held so.allowed left in
      let front = upto_front there.upto attempts in
      record {
        upto = there.upto;
        kept = kept_table (calls_upto there.upto attempts) (upto_write there.upto (map journal_attempt attempts)) bytes there.kept (sym (upto_same there.upto attempts)) held is
            (lawful_front table (calls_done (calls_upto there.upto attempts)) front.0 (subst (AreLawful table) front.1 so.lawful));
      }

  pub table_told : (before later : List TableAttempt) (change : Change) (appended : Appended) (first now : Assembly L) (mark : ℕ) (bytes : List ℕ)
      → HasAppended L found image log (map journal_attempt before) (record_of change) appended
      → HasTabled L found image log table ((before ++ whole_call (Changes change) ∷ []) ++ later) first now → Holds image.memory log → IsTable log table
      → mark ≤ now.it.front.persisted → IsTrue (nat_lt appended.head.number mark) → MayLeave (present now.device) bytes
      → EndsTableTold image table (before ++ whole_call (Changes change) ∷ []) later bytes
  unfolding kept_table
  table_told before later change appended first now mark bytes has so held is upto stored left =
      let all : List TableAttempt = (before ++ whole_call (Changes change) ∷ []) ++ later in
      let js : List Attempt = map journal_attempt before ++ whole_append (record_of change) ∷ map journal_attempt later in
      let are : map journal_attempt all ≡ js =
      map-append journal_attempt (before ++ whole_call (Changes change) ∷ []) later
      ∙ ap (λ (js : List Attempt). js ++ map journal_attempt later) (map-append journal_attempt before (whole_call (Changes change) ∷ []))
      ∙ append_assoc (map journal_attempt before) (whole_append (record_of change) ∷ []) (map journal_attempt later) in
      let ends : EndsTold image log (map journal_attempt before) (map journal_attempt later) appended.«record» (record_of change) bytes =
      told_behind L found image log (map journal_attempt before) (record_of change) appended has (map journal_attempt later) first now
      (subst (λ (js : List Attempt). HasJournaled L found image log js first now) are so.journaled) held (subst (AreAllowed lines log) are so.allowed) mark upto stored bytes left in
      record {
        ends = kept_table all js bytes ends.ends (sym are) held is so.lawful;
        told = subst (AreStored ends.ends.life) (sym (map-append journal_attempt before (whole_call (Changes change) ∷ []))) ends.stored;
      }
