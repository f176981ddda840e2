-- Appends go on with a life.
use Rattle.std.proofs.Common.{◌≡◌, ℕ, List, [], ◌∷◌, ◌++◌, length, take, refl, suc, sym, ap, ◌∙◌, arith, append_assoc, length-append}
use Rattle.std.specs.Prelude.{None}
use Rattle.std.proofs.lemmas.List.{append-nil, take_at}
use Rattle.line_memory.specs.declared.Write.{Write}
use Rattle.save_device.specs.Device.{DeviceState, MayLeave, present}
use Rattle.energy_budget.specs.Gauge.{Gauge}
use Rattle.save_image.specs.Image.{Image}
use Rattle.slot_store.specs.declared.head.Head.{Head}
use Rattle.channel_port.specs.declared.port.ChannelPort.{Ghosts}
use Rattle.nv_machine.specs.Lives.{Lived, IsLeftAt, moments_since, unanswered_event}
use Rattle.nv_machine.specs.State.{Setup, World}
use Rattle.nv_machine.specs.Headline.{Run}
use Rattle.nv_machine.specs.declared.events.Event.{Event}
use Rattle.nv_machine.specs.declared.events.Reply.{Reply}
use Rattle.std.specs.Prelude.{Bool, true, false, if◌then◌else◌}
use Rattle.journal_log.specs.Log.{Holds, Log}
use Rattle.journal_log.specs.Calls.{AreAllowed, Attempt, call_writes, done_of, is_done, journal_writes, log_after, log_after_all, log_behind, upto_write}
use Rattle.journal_log.proofs.Cutting.{upto-allowed, upto-writes}
use Rattle.nv_machine.specs.Rising.{accepted_in}
use Rattle.journal_lives.proofs.Keeping.{life_keeps}
use Rattle.module_core.specs.declared.module.Module.{Module}
use Rattle.module_core.specs.InTurn.{AnswersCalls}
use Rattle.module_core.specs.Opening.{opened_with}
use Rattle.module_core.specs.ModuleLives.{EndsAfterEvents, EndsAmongEvents, module_life}
use Rattle.module_core.specs.Stands.{Assembly, ModuleStands, assembly, world_of}
use Rattle.module_core.proofs.CallsInTurn.{answered_none, answered_on}
use Rattle.module_core.proofs.ModulesLive.{lives_after, lives_anywhere}
use Rattle.module_journal.specs.Writing.{Accepts}
use Rattle.module_journal.specs.Living.{EndsKept, EndsKeptThere, HasJournaled, log_behind_all}
use Rattle.module_journal.proofs.Joining.{accepted-append}

-- behind attempts comes one more
one_attempt : (lines : ℕ) (log : Log) (attempts : List Attempt) (one : Attempt)
    → journal_writes lines log attempts ++ take one.made (call_writes lines (log_after_all lines log (done_of attempts)) one.call) ≡ journal_writes lines log (attempts ++ one ∷ [])
one_attempt lines log [] one = sym (append-nil (take one.made (call_writes lines log one.call)))
one_attempt lines log (a ∷ rest) one =
    append_assoc (take a.made (call_writes lines log a.call)) (journal_writes lines (log_behind lines log a) rest) (take one.made (call_writes lines (log_after_all lines log (done_of (a ∷ rest))) one.call))
    ∙ ap (λ (l : Log). take a.made (call_writes lines log a.call) ++ (journal_writes lines (log_behind lines log a) rest ++ take one.made (call_writes lines l one.call))) (by_flag (is_done a))
    ∙ ap (λ (ws : List Write). take a.made (call_writes lines log a.call) ++ ws) (one_attempt lines (log_behind lines log a) rest one)
  where
    by_flag : (done : Bool) → log_after_all lines log ((if done then a.call ∷ [] else []) ++ done_of rest) ≡ log_after_all lines (if done then log_after lines log a.call else log) (done_of rest)
    by_flag true = refl
    by_flag false = refl

pub run_paired : (setup : Setup) (events : List Event) (replies : List Reply) (old new : World) → Run setup events replies old new → length events ≡ length replies
run_paired setup [] [] old new run = refl
run_paired setup (event ∷ events) (reply ∷ replies) old new run = ap suc (run_paired setup events replies run.0 new run.2)
run_paired setup _ _ old new none = absurd none

module _ {K : Type 0} (L : Ghosts K) (found : Head) (image : Image) (log : Log) where
  pub begun : (first : Assembly L) → ModuleStands L first.it first.device (opened_with found image) → HasJournaled L found image log [] first first
  begun first stands = record { events = []; replies = []; paired = refl; answered = answered_none L found image first stands; are = refl }

  pub went_on : (attempts : List Attempt) (one : Attempt) (first : Assembly L) (old new : Module K L) (device : DeviceState) (gauge : Gauge)
      → HasJournaled L found image log attempts first (assembly old device gauge)
      → Accepts L device gauge (take one.made (call_writes (length image.memory) (log_behind_all image log attempts) one.call)) old new
      → HasJournaled L found image log (attempts ++ one ∷ []) first (assembly new device gauge)
  went_on attempts one first old new device gauge so more = record {
    events = so.events ++ more.events;
    replies = so.replies ++ more.replies;
    paired = omega (arith, so.paired, more.paired, length-append so.events more.events, length-append so.replies more.replies);
    answered = answered_on L found image so.events more.events so.replies more.replies first (assembly old device gauge) (assembly new device gauge) so.answered more.calls;
    are = accepted-append so.events more.events so.replies more.replies so.paired
        ∙ ap (λ (ws : List Write). ws ++ accepted_in more.events more.replies) so.are
        ∙ ap (λ (ws : List Write). journal_writes (length image.memory) log attempts ++ ws) more.are
        ∙ one_attempt (length image.memory) log attempts one;
  }

  pub went_on_by_others : (attempts : List Attempt) (first old new : Assembly L) (events : List Event) (replies : List Reply)
      → HasJournaled L found image log attempts first old → length events ≡ length replies → AnswersCalls L events replies old new → accepted_in events replies ≡ []
      → HasJournaled L found image log attempts first new
  went_on_by_others attempts first old new events replies so paired calls none = record {
    events = so.events ++ events;
    replies = so.replies ++ replies;
    paired = omega (arith, so.paired, paired, length-append so.events events, length-append so.replies replies);
    answered = answered_on L found image so.events events so.replies replies first old new so.answered calls;
    are = accepted-append so.events events so.replies replies so.paired
        ∙ ap (λ (ws : List Write). accepted_in so.events so.replies ++ ws) none
        ∙ append-nil (accepted_in so.events so.replies)
        ∙ so.are;
  }

  pub ended : (attempts : List Attempt) (first now : Assembly L) (bytes : List ℕ) → HasJournaled L found image log attempts first now
      → Holds image.memory log → AreAllowed (length image.memory) log attempts → MayLeave (present now.device) bytes → EndsKept image log attempts bytes
  ended attempts first now bytes so held allowed left =
      let ends : EndsAfterEvents L found image so.events so.replies first now bytes = lives_after L found image so.events so.replies first now so.answered bytes left in
      let life : Lived = module_life L found image so.events so.replies first (world_of L now ends.last) None bytes in
      record {
        life = life;
        lived = ends.lived;
        same = refl;
        left = refl;
        journaled = record { writes = so.are; allowed = allowed };
        survives = life_keeps life log attempts ends.lived held (record { writes = so.are; allowed = allowed });
      }

  pub ended_anywhere : (attempts : List Attempt) (first now : Assembly L) (bytes : List ℕ) → HasJournaled L found image log attempts first now
      → Holds image.memory log → AreAllowed (length image.memory) log attempts
      → IsLeftAt (moments_since first.device now.device) bytes → EndsKeptThere image log attempts bytes
  ended_anywhere attempts first now bytes so held allowed left =
      let ends : EndsAmongEvents L found image so.events so.replies first now bytes = lives_anywhere L found image so.events so.replies first now so.answered bytes left in
      let life : Lived = module_life L found image ends.front ends.told first ends.last ends.unanswered bytes in
      let rest : List Event = unanswered_event ends.unanswered ++ ends.rest in
      let parts : so.events ≡ ends.front ++ rest = ends.parts ∙ append_assoc ends.front (unanswered_event ends.unanswered) ends.rest in
      let paired : length ends.front ≡ length ends.told = run_paired life.setup ends.front ends.told life.first ends.last ends.run in
      let upto : ℕ = length (accepted_in ends.front ends.told) in
      let whole : journal_writes (length image.memory) log attempts ≡ accepted_in ends.front ends.told ++ accepted_in rest ends.untold =
      sym so.are ∙ ap (λ (es : List Event). accepted_in es so.replies) parts ∙ ap (accepted_in (ends.front ++ rest)) ends.told_are
      ∙ accepted-append ends.front rest ends.told ends.untold paired in
      let are : accepted_in ends.front ends.told ≡ journal_writes (length image.memory) log (upto_write upto attempts) =
      sym (take_at (accepted_in ends.front ends.told) (accepted_in rest ends.untold) upto refl) ∙ ap (take upto) (sym whole) ∙ upto-writes attempts (length image.memory) log upto in
      record {
        upto = upto;
        kept = record {
          life = life;
          lived = ends.lived;
          same = refl;
          left = refl;
          journaled = record { writes = are; allowed = upto-allowed attempts (length image.memory) log upto allowed };
          survives = life_keeps life log (upto_write upto attempts) ends.lived held (record { writes = are; allowed = upto-allowed attempts (length image.memory) log upto allowed });
        };
      }
