-- Which records a mark tells stored.
use Rattle.std.proofs.Common.{◌≡◌, ℕ, ◌+◌, ◌<◌, ◌≤◌, List, [], ◌∷◌, ◌++◌, length, refl, sym, ap, subst, ◌∙◌, arith, append_assoc, length-append}
use Rattle.std.specs.Prelude.{IsTrue, None, Ok, Some, nat_lt}
use Rattle.std.proofs.lemmas.Bool.{lt-ltb}
use Rattle.std.proofs.lemmas.List.{append-nil}
use Rattle.save_device.specs.Device.{MayLeave, present}
use Rattle.save_image.specs.Image.{Image}
use Rattle.slot_store.specs.declared.head.Head.{Head}
use Rattle.channel_port.specs.declared.port.ChannelPort.{Ghosts}
use Rattle.energy_budget.specs.Charging.{RisesTo}
use Rattle.nv_machine.specs.Lives.{IsLeftAt, Lived, Unanswered, moments_since}
use Rattle.nv_machine.specs.Rising.{AreNumberedFrom, accepted_in, added}
use Rattle.nv_machine.specs.State.{Machine}
use Rattle.nv_machine.specs.Survival.{acknowledged}
use Rattle.nv_machine.specs.declared.events.Accepted.{Accepted}
use Rattle.nv_machine.specs.declared.events.Event.{Event}
use Rattle.nv_machine.specs.declared.events.Event.TheVariants as events
use Rattle.nv_machine.specs.declared.events.Reply.{Reply}
use Rattle.nv_machine.specs.declared.events.Reply.TheVariants as replies
use Rattle.nv_machine.proofs.AcceptedWrites.{run_numbers}
use Rattle.journal_log.specs.Log.{Holds, Log, end_of}
use Rattle.journal_log.specs.Calls.{Append, AreAllowed, Attempt, Call, appended_in, done_of, kept_in, lines_before_head, log_after_all, log_behind, writes_in, writes_of_call}
use Rattle.journal_log.proofs.Cutting.{length-journal, told}
use Rattle.journal_log.proofs.Heads.{length-call}
use Rattle.journal_log.proofs.Keeping.{reads}
use Rattle.journal_lines.proofs.Reading.{length-places}
use Rattle.journal_lives.specs.Promise.{AreStored, IsToldStored}
use Rattle.journal_lives.proofs.Keeping.{life_keeps}
use Rattle.module_core.specs.ModuleLives.{EndsAfterEvents, EndsWithinEvent, HasAnswered, module_life}
use Rattle.module_core.specs.Opening.{opened_with}
use Rattle.module_core.specs.Stands.{Answers, Assembly, assembly, point_of, setup_of, world_of}
use Rattle.module_core.proofs.CallsInTurn.{answered_on}
use Rattle.module_core.proofs.ModulesLive.{lives_after, lives_within}
use Rattle.module_core.proofs.RunsOn.{run_worlds}
use Rattle.module_journal.specs.Living.{EndsTold, HasAppended, HasJournaled, log_behind_all, whole_append}
use Rattle.module_journal.specs.declared.journal.Appended.{Appended}
use Rattle.module_journal.proofs.Joining.{accepted-append}

at_most_one : (event : Event) (reply : Reply) → length (added event reply) ≤ 1
at_most_one event reply = by_cases event reply
  where
    by_cases : (event : Event) (reply : Reply) → length (added event reply) ≤ 1
    by_cases (events.Write write) (replies.Write (Ok accepted)) = omega arith
    by_cases event reply = omega arith

-- the last of some calls was a write, which was told its place
last_number : (events : List Event) (told : List Reply) (all : ℕ) (head : Accepted) → length events ≡ length (told ++ replies.Write (Ok head) ∷ [])
    → AreNumberedFrom all events (told ++ replies.Write (Ok head) ∷ []) → all + length (accepted_in events (told ++ replies.Write (Ok head) ∷ [])) ≤ head.number + 1
last_number [] told all head paired numbers = absurd (omega (arith, paired, length-append told (replies.Write (Ok head) ∷ [])))
last_number (event ∷ []) [] all head paired numbers =
    omega (arith, numbers.0 head refl, at_most_one event (replies.Write (Ok head)), length-append (added event (replies.Write (Ok head))) [])
last_number (event ∷ other ∷ events) [] all head paired numbers = absurd (omega (arith, paired))
last_number (event ∷ events) (reply ∷ told) all head paired numbers =
    let rest = last_number events told (all + length (added event reply)) head (omega (arith, paired)) numbers.1 in
    omega (arith, rest, length-append (added event reply) (accepted_in events (told ++ replies.Write (Ok head) ∷ [])))

writes-append : (attempts : List Attempt) (bytes : List ℕ) → writes_in (attempts ++ whole_append bytes ∷ []) ≡ writes_in attempts + writes_of_call (Append bytes)
writes-append [] bytes = omega arith
writes-append (a ∷ attempts) bytes = omega (arith, writes-append attempts bytes)

allowed_front : (attempts more : List Attempt) (lines : ℕ) (log : Log) → AreAllowed lines log (attempts ++ more) → AreAllowed lines log attempts
allowed_front [] more lines log allowed = tt
allowed_front (a ∷ attempts) more lines log allowed = (allowed.0, allowed_front attempts more lines (log_behind lines log a) allowed.1)

-- the number behind the records of attempts
end_behind : (attempts : List Attempt) (lines : ℕ) (log : Log) → AreAllowed lines log attempts
    → end_of (log_after_all lines log (done_of attempts)) ≡ end_of log + length (appended_in (done_of attempts))
end_behind attempts lines log allowed =
    let all : ℕ = writes_in attempts in
    let same = sym (ap (kept_in all) (append-nil attempts)) ∙ told attempts [] all (omega arith) ∙ append-nil (done_of attempts) in
    subst (λ (calls : List Call). end_of (log_after_all lines log calls) ≡ end_of log + length (appended_in calls)) same (reads lines log attempts all allowed).end

module _ {K : Type 0} (L : Ghosts K) (found : Head) (image : Image) (log : Log) (before : List Attempt) (bytes : List ℕ) (appended : Appended)
    (h : HasAppended L found image log before bytes appended) where
  -- the head's write is the last of these
  number_told : image.count + writes_in (before ++ whole_append bytes ∷ []) ≤ appended.head.number + 1
  number_told =
      let so = h.so in
      let reply : Reply = replies.Write (Ok appended.head) in
      let ends = h.made (log_behind_all image log before) h.is in
      let more = ends.written h.old.device h.old.gauge in
      let last = ends.last h.old.device h.old.gauge in
      let new : Assembly L = assembly h.new h.old.device h.old.gauge in
      let events : List Event = so.events ++ more.events in
      let told : List Reply = so.replies ++ last.0 in
      let are : so.replies ++ more.replies ≡ told ++ reply ∷ [] =
      ap (λ (rs : List Reply). so.replies ++ rs) last.1 ∙ sym (append_assoc so.replies last.0 (reply ∷ [])) in
      let all : HasAnswered L found image events (so.replies ++ more.replies) h.first new =
      answered_on L found image so.events more.events so.replies more.replies h.first h.old new so.answered more.calls in
      let start : Machine = opened_with found image in
      let numbers : AreNumberedFrom (image.count + 0) events (so.replies ++ more.replies) =
      run_numbers RisesTo (setup_of L h.first.it) events (so.replies ++ more.replies) (world_of L h.first start) (world_of L new all.runs.last)
      (run_worlds L (setup_of L h.first.it) events (so.replies ++ more.replies) (point_of L h.first start) (point_of L new all.runs.last) all.runs.run) all.begins.guarded in
      let paired : length events ≡ length (so.replies ++ more.replies) =
      omega (arith, so.paired, more.paired, length-append so.events more.events, length-append so.replies more.replies) in
      let upto : image.count + 0 + length (accepted_in events (told ++ reply ∷ [])) ≤ appended.head.number + 1 =
      last_number events told (image.count + 0) appended.head (paired ∙ ap (λ (rs : List Reply). length rs) are) (subst (AreNumberedFrom (image.count + 0) events) are numbers) in
      let accepted : length (accepted_in events (told ++ reply ∷ [])) ≡ length (accepted_in so.events so.replies) + length (accepted_in more.events more.replies) =
      ap (λ (rs : List Reply). length (accepted_in events rs)) (sym are) ∙ ap length (accepted-append so.events more.events so.replies more.replies so.paired)
      ∙ length-append (accepted_in so.events so.replies) (accepted_in more.events more.replies) in
      omega (
        arith,
        upto,
        accepted,
        ap length so.are,
        ap length more.are,
        length-journal before (length image.memory) log,
        length-call h.index.lines (log_behind_all image log before) (Append bytes),
        writes-append before bytes,
      )

  module _ (later : List Attempt) (allowed : AreAllowed (length image.memory) log (before ++ whole_append bytes ∷ later)) (life : Lived) (same : life.image ≡ image) where
    -- so they are told stored once the life has acknowledged that write
    stored_in : (mark : ℕ) → mark ≤ acknowledged life → IsTrue (nat_lt appended.head.number mark) → AreStored life (before ++ whole_append bytes ∷ [])
    stored_in mark upto stored =
        let below : appended.head.number < mark = grind (arith, stored) in
        omega (arith, number_told, below, upto, ap (λ (i : Image). i.count) same)

    told_in : (mark : ℕ) → mark ≤ acknowledged life → IsTrue (nat_lt appended.head.number mark) → IsToldStored life log (before ++ whole_append bytes ∷ later) appended.«record» bytes
    told_in mark upto stored =
        record {
          before = before;
          made = writes_of_call (Append bytes);
          later = later;
          among = refl;
          done = lt-ltb (length (lines_before_head (Append bytes))) (writes_of_call (Append bytes)) (omega arith);
          number_is = omega (
            arith,
            h.number,
            h.is.gone,
            ap length h.is.places,
            length-places h.index.lines (log_behind_all image log before).first (log_behind_all image log before).records,
            end_behind before (length image.memory) log (allowed_front before (whole_append bytes ∷ later) (length image.memory) log allowed),
          );
          stored = stored_in mark upto stored;
        }

  module _ (later : List Attempt) (first now : Assembly L) (so : HasJournaled L found image log (before ++ whole_append bytes ∷ later) first now) (held : Holds image.memory log)
      (allowed : AreAllowed (length image.memory) log (before ++ whole_append bytes ∷ later)) (mark : ℕ) (upto : mark ≤ now.it.front.persisted) (stored : IsTrue (nat_lt appended.head.number mark)) where
    pub told_behind : (left : List ℕ) → MayLeave (present now.device) left → EndsTold image log before later appended.«record» bytes left
    told_behind left may =
        let ends : EndsAfterEvents L found image so.events so.replies first now left = lives_after L found image so.events so.replies first now so.answered left may in
        let life : Lived = module_life L found image so.events so.replies first (world_of L now ends.last) None left in
        record {
          ends = record {
            life = life;
            lived = ends.lived;
            same = refl;
            left = refl;
            journaled = record { writes = so.are; allowed = allowed };
            survives = life_keeps life log (before ++ whole_append bytes ∷ later) ends.lived held (record { writes = so.are; allowed = allowed });
          };
          stored = stored_in later allowed life refl mark (omega (arith, upto, ends.stands.matches.front.persisted)) stored;
          told = told_in later allowed life refl mark (omega (arith, upto, ends.stands.matches.front.persisted)) stored;
        }

    pub told_within : (event : Event) (reply : Reply) (next : Assembly L) → Answers L event reply now next → (left : List ℕ) → IsLeftAt (moments_since now.device next.device) left
        → EndsTold image log before later appended.«record» bytes left
    told_within event reply next answers left may =
        let ends : EndsWithinEvent L found image so.events so.replies first now event reply next left = lives_within L found image so.events so.replies first now so.answered event reply next answers left may in
        let unanswered : Unanswered = record { event = event; reply = reply; next = world_of L next ends.next } in
        let life : Lived = module_life L found image so.events so.replies first (world_of L now ends.last) (Some unanswered) left in
        record {
          ends = record {
            life = life;
            lived = ends.lived;
            same = refl;
            left = refl;
            journaled = record { writes = so.are; allowed = allowed };
            survives = life_keeps life log (before ++ whole_append bytes ∷ later) ends.lived held (record { writes = so.are; allowed = allowed });
          };
          stored = stored_in later allowed life refl mark (omega (arith, upto, ends.stands.matches.front.persisted)) stored;
          told = told_in later allowed life refl mark (omega (arith, upto, ends.stands.matches.front.persisted)) stored;
        }
