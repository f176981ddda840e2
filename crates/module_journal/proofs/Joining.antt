-- Calls in turn accept what each of them does.
use Rattle.std.proofs.Common.{◌≡◌, ℕ, ◌+◌, ◌≤◌, List, [], ◌∷◌, ◌++◌, length, take, refl, sym, ap, subst, ◌∙◌, arith, append_assoc, length-append}
use Rattle.std.specs.Prelude.{Result, Ok, Err, IfOk, IfErr, Some, slice_get}
use Rattle.std.proofs.lemmas.List.{append-nil, take_all, take_more}
use Rattle.std.proofs.lemmas.Option.{get_or_from_slice_get, slice_get_within}
use Rattle.line_memory.specs.declared.Write.{Write}
use Rattle.save_device.specs.Device.{DeviceState}
use Rattle.energy_budget.proofs.Charging.{rises_none}
use Rattle.energy_budget.specs.Gauge.{Gauge}
use Rattle.channel_port.specs.declared.port.ChannelPort.{Ghosts}
use Rattle.arm_state.specs.declared.refusal.WriteRefusal.{WriteRefusal}
use Rattle.nv_machine.specs.declared.events.Accepted.{Accepted}
use Rattle.nv_machine.specs.declared.events.Event.{Event}
use Rattle.nv_machine.specs.declared.events.Event.TheVariants as events
use Rattle.nv_machine.specs.declared.events.Reply.{Reply}
use Rattle.nv_machine.specs.declared.events.Reply.TheVariants as replies
use Rattle.nv_machine.specs.Rising.{added}
use Rattle.module_core.specs.declared.module.Module.{Module}
use Rattle.module_core.specs.Stands.{AnswersAlone, assembly, setup_of}
use Rattle.module_core.proofs.CallsInTurn.{calls_in_turn, goes_on_in_turn, rests_in_turn}
use Rattle.journal_lines.specs.declared.index.Index.{Index}
use Rattle.journal_lines.specs.Places.{places_of}
use Rattle.journal_log.specs.Log.{Log}
use Rattle.journal_lines.specs.Indexed.{HasRoom, IsIndexOf, IsSameIndex}
use Rattle.nv_machine.specs.Rising.{accepted_in}
use Rattle.module_journal.specs.Writing.{Accepts, EndsWith, HasWritten}

pub accepted-append : (events more : List Event) (replies others : List Reply) → length events ≡ length replies
    → accepted_in (events ++ more) (replies ++ others) ≡ accepted_in events replies ++ accepted_in more others
accepted-append [] more [] others paired = refl
accepted-append [] more (r ∷ replies) others paired = absurd (omega (arith, paired))
accepted-append (e ∷ events) more [] others paired = absurd (omega (arith, paired))
accepted-append (e ∷ events) more (r ∷ replies) others paired =
    ap (λ (ws : List Write). added e r ++ ws) (accepted-append events more replies others (omega (arith, paired)))
    ∙ sym (append_assoc (added e r) (accepted_in events replies) (accepted_in more others))

module _ {K : Type 0} (L : Ghosts K) where
  pub joined : (writes more : List Write) (old mid new : Module K L) (device : DeviceState) (gauge : Gauge) → Accepts L device gauge writes old mid → Accepts L device gauge more mid new
      → Accepts L device gauge (writes ++ more) old new
  joined writes more old mid new device gauge first second = record {
    events = first.events ++ second.events;
    replies = first.replies ++ second.replies;
    paired = omega (arith, first.paired, second.paired, length-append first.events second.events, length-append first.replies second.replies);
    calls = goes_on_in_turn L first.events second.events first.replies second.replies (assembly old device gauge) (assembly mid device gauge) (assembly new device gauge) first.calls second.calls;
    are = accepted-append first.events second.events first.replies second.replies first.paired
        ∙ ap (λ (ws : List Write). ws ++ accepted_in second.events second.replies) first.are
        ∙ ap (λ (ws : List Write). writes ++ ws) second.are;
  }

  -- no call
  pub none_written : (it : Module K L) → HasWritten L [] it it
  none_written it = λ device gauge. record {
    events = [];
    replies = [];
    paired = refl;
    calls = rests_in_turn L (assembly it device gauge) (assembly it device gauge) (record { gauge = rises_none gauge; is = refl });
    are = refl;
  }

  -- nothing behind them
  pub and_nothing : (writes : List Write) (old mid new : Module K L) → HasWritten L writes old mid → HasWritten L [] mid new → HasWritten L writes old new
  and_nothing writes old mid new first second = λ device gauge.
      subst (λ (ws : List Write). Accepts L device gauge ws old new) (append-nil writes) (joined writes [] old mid new device gauge (first device gauge) (second device gauge))

  -- the last one has this answer
  pub joined_last : (reply : Reply) (writes more : List Write) (old mid new : Module K L) → HasWritten L writes old mid → EndsWith L reply more mid new → EndsWith L reply (writes ++ more) old new
  unfolding joined
  joined_last reply writes more old mid new first second = record {
    written = λ device gauge. joined writes more old mid new device gauge (first device gauge) (second.written device gauge);
    last = λ device gauge.
        let told = second.last device gauge in (
          (first device gauge).replies ++ told.0,
          ap (λ (rs : List Reply). (first device gauge).replies ++ rs) told.1
              ∙ sym (append_assoc (first device gauge).replies told.0 (reply ∷ [])),
        );
  }

  pub refused_last : (reply : Reply) (writes : List Write) (old mid new : Module K L) → HasWritten L writes old mid → EndsWith L reply [] mid new → EndsWith L reply writes old new
  refused_last reply writes old mid new first second =
      subst (λ (ws : List Write). EndsWith L reply ws old new) (append-nil writes) (joined_last reply writes [] old mid new first second)

module _ {K : Type 0} (L : Ghosts K) (event : Event) (reply : Reply) (old new : Module K L) where
  -- one call
  pub one_call : AnswersAlone L event reply old new → setup_of L new ≡ setup_of L old → EndsWith L reply (added event reply) old new
  one_call answers same = record {
    written = λ device gauge. record {
      events = event ∷ [];
      replies = reply ∷ [];
      paired = refl;
      calls = calls_in_turn L event reply (assembly old device gauge) (assembly new device gauge) (record { answers = answers device gauge; setup = same });
      are = append-nil (added event reply);
    };
    last = λ device gauge. ([], refl);
  }

module _ {K : Type 0} (L : Ghosts K) (write : Write) (old new : Module K L) where
  pub one_done : (result : Result Accepted WriteRefusal) → AnswersAlone L (events.Write write) (replies.Write result) old new → setup_of L new ≡ setup_of L old
      → IfOk result (λ accepted. EndsWith L (replies.Write (Ok accepted)) (write ∷ []) old new)
  one_done (Err refusal) answers same = tt
  one_done (Ok accepted) answers same = one_call L (events.Write write) (replies.Write (Ok accepted)) old new answers same

  pub one_refused : (result : Result Accepted WriteRefusal) → AnswersAlone L (events.Write write) (replies.Write result) old new → setup_of L new ≡ setup_of L old
      → IfErr result (λ refusal. EndsWith L (replies.Write (Err refusal)) [] old new)
  one_refused (Ok accepted) answers same = tt
  one_refused (Err refusal) answers same = one_call L (events.Write write) (replies.Write (Err refusal)) old new answers same

-- one write more of a list
pub one-more : (writes : List Write) (n : ℕ) (write : Write) → slice_get writes n ≡ Some write → take (n + 1) writes ≡ take n writes ++ write ∷ []
one-more writes n write is =
    take_more writes n write (slice_get_within writes n write is) ∙ ap (λ (w : Write). take n writes ++ w ∷ []) (get_or_from_slice_get writes n write write is)

-- and behind all but the last of them the last
pub all-but : (writes : List Write) (n : ℕ) (write : Write) → slice_get writes n ≡ Some write → length writes ≤ n + 1 → take n writes ++ write ∷ [] ≡ writes
all-but writes n write is all = sym (one-more writes n write is) ∙ take_all (n + 1) writes all

-- an index with other room for places is that of the same journals
pub index_same : (old new : Index) (log : Log) → IsSameIndex old new → IsIndexOf old log → IsIndexOf new log
index_same old new log same is = record {
  gone = same.gone ∙ is.gone;
  first = same.first ∙ is.first;
  used = same.used ∙ is.used;
  places = same.places ∙ is.places ∙ ap (λ (n : ℕ). places_of n log.first log.records) (sym same.lines);
}

-- and there is room for what there was room for
pub room_same : (old new : Index) (bytes : List ℕ) → IsSameIndex old new → HasRoom new bytes → HasRoom old bytes
room_same old new bytes same room = record {
  lines = omega (arith, room.lines, same.used, same.lines);
  counted = omega (arith, room.counted, same.gone, same.used);
  numbered = omega (arith, room.numbered, same.gone, ap (λ (places : List ℕ). length places) same.places);
}

module _ {K : Type 0} (L : Ghosts K) (write : Write) (old mid new : Module K L) (so_far : HasWritten L [] old mid) where
  -- an answer behind calls that accepted nothing
  pub then_done : (result : Result Accepted WriteRefusal) → IfOk result (λ accepted. EndsWith L (replies.Write (Ok accepted)) (write ∷ []) mid new)
      → IfOk result (λ accepted. EndsWith L (replies.Write (Ok accepted)) (write ∷ []) old new)
  then_done (Err refusal) ends = tt
  then_done (Ok accepted) ends = joined_last L (replies.Write (Ok accepted)) [] (write ∷ []) old mid new so_far ends

  pub then_refused : (result : Result Accepted WriteRefusal) → IfErr result (λ refusal. EndsWith L (replies.Write (Err refusal)) [] mid new)
      → IfErr result (λ refusal. EndsWith L (replies.Write (Err refusal)) [] old new)
  then_refused (Ok accepted) ends = tt
  then_refused (Err refusal) ends = joined_last L (replies.Write (Err refusal)) [] [] old mid new so_far ends
