-- In a run no ticket is given twice.
use Rattle.std.specs.Prelude.{AllPairs, MatchBool}
use Rattle.std.proofs.lemmas.List.Kept.{AllPairs-cons}
use Rattle.std.proofs.lemmas.Option.{get_or_from_slice_get, same_Some}
use Rattle.std.proofs.Common.{drop}
use Rattle.arm_state.specs.declared.refusal.ArmRefusal.{ArmRefusal}
use Rattle.arm_state.specs.declared.refusal.ArmReply.{ArmReply}
use Rattle.arm_state.specs.declared.refusal.DisarmReply.{DisarmReply}
use Rattle.channel_port.specs.Answers.{IsCollected, IsGot, IsServed}
use Rattle.channel_port.specs.Waits.{Has, IsNeverGiven}
use Rattle.channel_port.specs.declared.answers.Collected.{Collected}
use Rattle.channel_port.specs.declared.answers.Got.{Got}
use Rattle.channel_port.specs.declared.answers.Served.{Served}
use Rattle.channel_port.specs.declared.answers.Ticket.{Ticket}
use Rattle.nv_machine.specs.Headline.{paused}
use Rattle.nv_machine.specs.Machine.{SenseStep}
use Rattle.nv_machine.specs.Moves.{sensed}
use Rattle.nv_machine.specs.Tickets.{GivesAnother, given_ticket}
use Rattle.nv_machine.specs.declared.events.StepReply.{StepReply}
use Rattle.nv_machine.proofs.Common.{All, All-cons, All-nil, Bool, DrainOrder, arith, Err, Event, ForSome, GaugeCall, List, LoseStep, Loss, Machine, MachineStep, None, Ok, Option, ReadsLevel, Reply, Run, Setup, Some, Waits, World, [], ap, disarming, false, if◌then◌else◌, is_low, reads_gauge, read_as, refl, slice_get_within, subst, suc, sym, take, true, zero, ℕ, ◌++◌, ◌∙◌, ◌∷◌, ◌≡◌, ◌≢◌}

-- what stands in a list stands there still once a ticket has joined it, and the ticket does
joined_keeps : (place : ℕ) (ticket other : Ticket) (given : List Ticket) → Has other given → Has other (take place given ++ ticket ∷ drop place given)
joined_keeps zero ticket other given (k, at) = (suc k, at)
joined_keeps (suc place) ticket other [] (k, at) = absurd cc
joined_keeps (suc place) ticket other (t ∷ given) (zero, at) = (zero, at)
joined_keeps (suc place) ticket other (t ∷ given) (suc k, at) = let (j, there) = joined_keeps place ticket other given (k, at) in (suc j, there)

joined_has : (place : ℕ) (ticket : Ticket) (given : List Ticket) → Has ticket (take place given ++ ticket ∷ drop place given)
joined_has zero ticket given = (zero, refl)
joined_has (suc place) ticket [] = (zero, refl)
joined_has (suc place) ticket (t ∷ given) = let (j, there) = joined_has place ticket given in (suc j, there)

-- a ticket that was never given isn't one of those that were
never_had : (ticket : Ticket) (given : List Ticket) → IsNeverGiven ticket given → Has ticket given → ⊥
never_had ticket given never (k, at) =
    subst (λ (t : Ticket). t ≢ ticket) (get_or_from_slice_get given k ticket ticket at) (never k ticket (slice_get_within given k ticket at)) refl

-- The tickets that were given before a reply are given still, and the one that it gives was not.
record GoesOn (reply : Reply) (old new : Waits) : Type 0 where
  kept : (ticket : Ticket) → Has ticket old.given → Has ticket new.given
  gives : ForSome (given_ticket reply) (λ ticket. IsNeverGiven ticket old.given × Has ticket new.given)

-- none is given
same_given : (reply : Reply) (old new : Waits) → given_ticket reply ≡ None → new.given ≡ old.given → GoesOn reply old new
same_given reply old new none is = record {
  kept = λ ticket has. subst (Has ticket) (sym is) has;
  gives = λ ticket some. absurd (let bad : ⊥ = cc in bad);
}

got_goes : (bytes : List ℕ) (line at channel : ℕ) (got : Got) (old new : Waits) → IsGot bytes line at channel got old new → GoesOn (Reply.Read (Ok got)) old new
got_goes bytes line at channel (Got.Now given) old new is = same_given (Reply.Read (Ok (Got.Now given))) old new refl (ap (λ (w : Waits). w.given) is.1)
got_goes bytes line at channel (Got.Later ticket) old new (here, new_one, reads, writes, never, (place, within, joined)) = record {
  kept = λ other has. subst (Has other) (sym joined) (joined_keeps place ticket other old.given has);
  gives = λ other some.
      subst (λ (t : Ticket). IsNeverGiven t old.given × Has t new.given) (same_Some ticket other some) (never, subst (Has ticket) (sym joined) (joined_has place ticket old.given));
}

collected_given : (ticket : Ticket) (answer : Collected) (old new : Waits) → IsCollected ticket answer old new → new.given ≡ old.given
collected_given ticket (Collected.Data line bytes at) old new is = is.2
collected_given ticket Collected.Pending old new is = ap (λ (w : Waits). w.given) is.4
collected_given ticket Collected.Unknown old new is = ap (λ (w : Waits). w.given) is.1

served_given : (hold : Option ℕ) (channel : ℕ) (s : Option Served) (old new : Waits) → IsServed hold channel s old new → new.given ≡ old.given
served_given hold channel None old new is = ap (λ (w : Waits). w.given) is
served_given hold channel (Some (Served.Write number)) old new is = is.given
served_given hold channel (Some (Served.Read ticket)) old new is = is.given

module _ (setup : Setup) (old new : World) where
  abbrev m : Machine
  m = old.machine

  -- what a move of the machine makes of the tickets, where it says what the machine is
  moved : (n : Machine) → new.machine ≡ n → n.waits.given ≡ m.waits.given → new.machine.waits.given ≡ m.waits.given
  moved n is same = ap (λ (x : Machine). x.waits.given) is ∙ same

  world_moved : (w : World) → new ≡ w → w.machine.waits.given ≡ m.waits.given → new.machine.waits.given ≡ m.waits.given
  world_moved w is same = ap (λ (x : World). x.machine.waits.given) is ∙ same

  sensed_given : (level : ℕ) → SenseStep setup level m old.gauge new.machine new.gauge → new.machine.waits.given ≡ m.waits.given
  sensed_given level done = by_mode (reads_gauge m.mode) done
    where
      low : (b : Bool) → (if b then disarming (read_as level m) else read_as level m).waits.given ≡ m.waits.given
      low true = refl
      low false = refl

      by_mode : (b : Bool) → MatchBool b (ReadsLevel GaugeCall.Sense old.gauge level new.gauge × (new.machine ≡ sensed setup (read_as level m))) ((level ≡ m.reading) × (new.machine ≡ m) × (new.gauge ≡ old.gauge))
          → new.machine.waits.given ≡ m.waits.given
      by_mode true done = moved (sensed setup (read_as level m)) done.1 (low (is_low setup (read_as level m)))
      by_mode false done = moved m done.1 refl

  lost_given : (order : DrainOrder) (loss : Loss) → LoseStep order setup loss old new → new.machine.waits.given ≡ m.waits.given
  lost_given order Loss.Closed done = world_moved old done.1 refl
  lost_given order Loss.Unsaved done = world_moved _ done.1 refl
  lost_given order (Loss.Saved generation count) done = done.closes.given
  lost_given order Loss.Dark done = done.closes.given
  lost_given order Loss.Fault done = done.closes.given

  event_goes : (event : Event) (reply : Reply) → MachineStep setup event reply old new → GoesOn reply m.waits new.machine.waits
  event_goes (Event.Write write) (Reply.Write (Ok accepted)) done = same_given _ m.waits new.machine.waits refl done.1.1.puts.given
  event_goes (Event.Write write) (Reply.Write (Err refusal)) done = same_given _ m.waits new.machine.waits refl (moved m done.1.1 refl)
  event_goes (Event.Read line) (Reply.Read (Ok got)) done = got_goes _ _ _ _ got m.waits new.machine.waits done.1.1
  event_goes (Event.Read line) (Reply.Read (Err refusal)) done = same_given _ m.waits new.machine.waits refl (moved m done.1.1 refl)
  event_goes (Event.Collect ticket) (Reply.Collect collected) done = same_given _ m.waits new.machine.waits refl (collected_given ticket collected m.waits new.machine.waits done.1.0)
  event_goes (Event.Work channel) (Reply.Work None) done = same_given _ m.waits new.machine.waits refl (moved m done.1 refl)
  event_goes (Event.Work channel) (Reply.Work (Some work)) done =
      same_given _ m.waits new.machine.waits refl (served_given _ channel work.served m.waits new.machine.waits done.1.1)
  event_goes Event.Sense (Reply.Sense level) done = same_given _ m.waits new.machine.waits refl (sensed_given level done.1)
  event_goes Event.Arm (Reply.Arm (Ok ArmReply.AlreadyArmed)) done = same_given _ m.waits new.machine.waits refl (world_moved old done.1 refl)
  event_goes Event.Arm (Reply.Arm (Ok ArmReply.Armed)) done = same_given _ m.waits new.machine.waits refl (moved _ done.2 refl)
  event_goes Event.Arm (Reply.Arm (Err ArmRefusal.Device)) done = same_given _ m.waits new.machine.waits refl (moved _ done.2 refl)
  event_goes Event.Arm (Reply.Arm (Err (ArmRefusal.NeedEnergy need has))) done = same_given _ m.waits new.machine.waits refl (world_moved _ done.is refl)
  event_goes Event.Arm (Reply.Arm (Err refusal)) done = same_given _ m.waits new.machine.waits refl (world_moved old done.2 refl)
  event_goes Event.Disarm (Reply.Disarm (Ok DisarmReply.AlreadyDisarmed)) done = same_given _ m.waits new.machine.waits refl (moved m done.1.1 refl)
  event_goes Event.Disarm (Reply.Disarm (Ok DisarmReply.Disarming)) done = same_given _ m.waits new.machine.waits refl (moved _ done.1.1 refl)
  event_goes Event.Disarm (Reply.Disarm (Err refusal)) done = same_given _ m.waits new.machine.waits refl (moved m done.1.1 refl)
  event_goes Event.SaveBegin (Reply.SaveBegin (Ok begins)) done = same_given _ m.waits new.machine.waits refl (moved _ done.1.1 refl)
  event_goes Event.SaveBegin (Reply.SaveBegin (Err refusal)) done = same_given _ m.waits new.machine.waits refl (moved m done.1.1 refl)
  event_goes Event.SaveStep (Reply.SaveStep StepReply.NoSave) done = same_given _ m.waits new.machine.waits refl (world_moved old done.1 refl)
  event_goes Event.SaveStep (Reply.SaveStep StepReply.Waiting) done = same_given _ m.waits new.machine.waits refl (world_moved old done.3 refl)
  event_goes Event.SaveStep (Reply.SaveStep StepReply.Turned) done = same_given _ m.waits new.machine.waits refl (world_moved _ done.5 refl)
  event_goes Event.SaveStep (Reply.SaveStep (StepReply.Did made)) done = same_given _ m.waits new.machine.waits refl (moved _ done.6.2 refl)
  event_goes Event.SaveStep (Reply.SaveStep (StepReply.Saved generation count)) done = same_given _ m.waits new.machine.waits refl (moved _ done.6.3 refl)
  event_goes Event.SaveStep (Reply.SaveStep StepReply.Retry) done = same_given _ m.waits new.machine.waits refl (moved _ done.6.1 refl)
  event_goes Event.SaveStep (Reply.SaveStep StepReply.Fault) done = same_given _ m.waits new.machine.waits refl (moved _ done.6.1 refl)
  event_goes Event.Lose (Reply.Lose loss) done = same_given _ m.waits new.machine.waits refl (lost_given done.0 loss done.1)
  event_goes event reply none = absurd none

module _ (setup : Setup) where
  -- no read of a run is given a ticket that was given before it
  pub given_before : (events : List Event) (replies : List Reply) (old new : World) (ticket : Ticket) → Run setup events replies old new → Has ticket old.machine.waits.given → All (λ reply. given_ticket reply ≢ Some ticket) replies
  given_before [] [] old new ticket run has = All-nil _
  given_before (event ∷ events) (reply ∷ replies) old new ticket run has =
      let goes : GoesOn reply old.machine.waits run.0.machine.waits = event_goes setup (paused run.1.pause old) run.0 event reply run.1.happens.step in
      All-cons (λ (r : Reply). given_ticket r ≢ Some ticket) reply replies
      (λ some. never_had ticket old.machine.waits.given (goes.gives ticket some).0 has)
      (given_before events replies run.0 new ticket run.2 (goes.kept ticket has))
  given_before _ _ old new ticket none has = absurd none

  -- and no two of its reads are given the same one
  pub given_once : (events : List Event) (replies : List Reply) (old new : World) → Run setup events replies old new → AllPairs GivesAnother replies
  given_once [] [] old new run = λ i j d less within. absurd (omega (arith, within))
  given_once (event ∷ events) (reply ∷ replies) old new run =
      let goes : GoesOn reply old.machine.waits run.0.machine.waits = event_goes setup (paused run.1.pause old) run.0 event reply run.1.happens.step in
      AllPairs-cons GivesAnother reply replies
      (λ k d less ticket some. given_before events replies run.0 new ticket run.2 (goes.gives ticket some).1 k d less)
      (given_once events replies run.0 new run.2)
  given_once _ _ old new none = absurd none
