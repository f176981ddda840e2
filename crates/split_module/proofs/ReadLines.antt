-- Each open read of a life has its line.
use Rattle.std.proofs.Common.{List, None, Some, Ok, Err, [], ap, arith, false, inl, inr, length, refl, subst, sym, take, true, ℕ, ◌+◌, ◌++◌, ◌-◌, ◌<◌, ◌∙◌, ◌∷◌, ◌≡◌, ◌≤◌, ◌⊎◌, ⊎_elim}
use Rattle.std.specs.Prelude.{Bool, MatchBool, if◌then◌else◌, slice_index_or}
use Rattle.std.proofs.Math.Seq.{take-length}
use Rattle.std.proofs.lemmas.List.{length-append, take-append-le}
use Rattle.arm_state.specs.declared.loss.Loss.{Loss}
use Rattle.arm_state.specs.declared.refusal.ArmRefusal.{ArmRefusal}
use Rattle.arm_state.specs.declared.refusal.ArmReply.{ArmReply}
use Rattle.arm_state.specs.declared.refusal.DisarmReply.{DisarmReply}
use Rattle.arm_state.specs.Modes.{reads_gauge}
use Rattle.channel_port.specs.Answers.{IsGot, open_read}
use Rattle.channel_port.specs.Draining.{DrainOrder}
use Rattle.channel_port.specs.Waits.{Has, OpenRead, Waits}
use Rattle.channel_port.specs.declared.answers.Got.{Got}
use Rattle.channel_port.specs.declared.answers.Ticket.{Ticket}
use Rattle.channel_log.specs.Log.{LogNote, Told, log_tells}
use Rattle.channel_log.specs.ReadLines.{ReadsHaveLines}
use Rattle.channel_log.proofs.ReadLines.{IsSameRead, Remains, WasThere, collected_remains, joined_or_before, no_reads, same_reads, served_remains, still}
use Rattle.channel_set.proofs.Lists.{all-at}
use Rattle.channel_set.proofs.Piles.{has-pile}
use Rattle.energy_budget.specs.Gauge.{ReadsLevel}
use Rattle.energy_budget.specs.declared.energy.GaugeCall.{GaugeCall}
use Rattle.line_memory.specs.Memory.{after, line_of, memory_at}
use Rattle.line_memory.specs.Parts.{below, writes_of, written_on}
use Rattle.line_memory.specs.declared.Write.{Write}
use Rattle.line_memory.specs.declared.parts.Numbered.{Numbered}
use Rattle.line_memory.proofs.Parting as parting
use Rattle.nv_machine.specs.declared.events.Event.{Event}
use Rattle.nv_machine.specs.declared.events.Reply.{Reply}
use Rattle.nv_machine.specs.declared.events.StepReply.{StepReply}
use Rattle.nv_machine.specs.Guard.{IsGuarded}
use Rattle.nv_machine.specs.Headline.{Run, paused}
use Rattle.nv_machine.specs.Lives.{LivedUntil}
use Rattle.nv_machine.specs.Losses.{LoseStep}
use Rattle.nv_machine.specs.Machine.{MachineStep, SenseStep}
use Rattle.nv_machine.specs.Moves.{disarming, read_as, sensed}
use Rattle.nv_machine.specs.Refusals.{is_low}
use Rattle.nv_machine.specs.Rising.{added}
use Rattle.nv_machine.specs.State.{Machine, Setup, World, all_of, base_of_life, memory_after, memory_of, start_of_life}
use Rattle.nv_machine.proofs.EachEvent.{event_keeps, guarded_event}
use Rattle.nv_machine.proofs.Guarded.{guarded_cut, guarded_new}
use Rattle.split_module.specs.Reads.{HasItsLine, ReadsHaveTheirLines}
use Rattle.split_module.specs.Telling.{AreLogsOf, IsToldOf, waits_told}
use Rattle.split_module.proofs.ToldOf.{waits_at}

-- a read that was asked now
record IsFresh (setup : Setup) (m : Machine) (read : OpenRead) : Type 0 where
  at : read.at ≡ all_of m
  bytes : read.bytes ≡ line_of (memory_of m) read.line
  here : setup.shape.channel_of read.line ≡ read.ticket.channel

module _ (setup : Setup) (old new : World) where
  abbrev m : Machine
  m = old.machine

  abbrev Goes : Type 0
  Goes = (read : OpenRead) → Has read new.machine.waits.reads → WasThere m.waits read ⊎ IsFresh setup m read

  remains : Remains m.waits new.machine.waits → Goes
  remains so read has = inl (so read has)

  same : new.machine.waits.reads ≡ m.waits.reads → Goes
  same is = remains (same_reads m.waits new.machine.waits is)

  moved : (n : Machine) → new.machine ≡ n → n.waits.reads ≡ m.waits.reads → Goes
  moved n is reads = same (ap (λ (x : Machine). x.waits.reads) is ∙ reads)

  world_moved : (w : World) → new ≡ w → w.machine.waits.reads ≡ m.waits.reads → Goes
  world_moved w is reads = same (ap (λ (x : World). x.machine.waits.reads) is ∙ reads)

  got_goes : (line : ℕ) (got : Got) → IsGot (line_of (memory_of m) line) line (all_of m) (setup.shape.channel_of line) got m.waits new.machine.waits → Goes
  got_goes line (Got.Now given) is = same (ap (λ (w : Waits). w.reads) is.1)
  got_goes line (Got.Later ticket) (here, fresh, joins, writes, never, given) = λ read has.
      ⊎_elim
      (λ (is : read ≡ open_read ticket line (line_of (memory_of m) line) (all_of m) false). inr (record {
        at = ap (λ (r : OpenRead). r.at) is;
        bytes = ap (λ (r : OpenRead). r.bytes) is ∙ ap (λ n. line_of (memory_of m) n) (sym (ap (λ (r : OpenRead). r.line) is));
        here = ap (λ (r : OpenRead). setup.shape.channel_of r.line) is ∙ sym here ∙ sym (ap (λ (r : OpenRead). r.ticket.channel) is);
      }))
      (λ before. inl (still m.waits read before))
      (joined_or_before (open_read ticket line (line_of (memory_of m) line) (all_of m) false) read joins.0 m.waits.reads (subst (Has read) joins.2 has))

  sensed_goes : (level : ℕ) → SenseStep setup level m old.gauge new.machine new.gauge → new.machine.waits.reads ≡ m.waits.reads
  sensed_goes level done = by_mode (reads_gauge m.mode) done
    where
      low : (b : Bool) → (if b then disarming (read_as level m) else read_as level m).waits.reads ≡ m.waits.reads
      low true = refl
      low false = refl

      by_mode : (b : Bool) → MatchBool b (ReadsLevel GaugeCall.Sense old.gauge level new.gauge × (new.machine ≡ sensed setup (read_as level m))) ((level ≡ m.reading) × (new.machine ≡ m) × (new.gauge ≡ old.gauge))
          → new.machine.waits.reads ≡ m.waits.reads
      by_mode true done = ap (λ (x : Machine). x.waits.reads) done.1 ∙ low (is_low setup (read_as level m))
      by_mode false done = ap (λ (x : Machine). x.waits.reads) done.1

  lost_goes : (order : DrainOrder) (loss : Loss) → LoseStep order setup loss old new → Goes
  lost_goes order Loss.Closed done = world_moved old done.1 refl
  lost_goes order Loss.Unsaved done = remains (no_reads m.waits new.machine.waits (ap (λ (w : World). w.machine.waits.reads) done.1))
  lost_goes order (Loss.Saved generation count) done = remains (no_reads m.waits new.machine.waits done.closes.reads)
  lost_goes order Loss.Dark done = remains (no_reads m.waits new.machine.waits done.closes.reads)
  lost_goes order Loss.Fault done = remains (no_reads m.waits new.machine.waits done.closes.reads)

  event_goes : (event : Event) (reply : Reply) → MachineStep setup event reply old new → Goes
  event_goes (Event.Write write) (Reply.Write (Ok accepted)) done = same done.1.1.puts.reads
  event_goes (Event.Write write) (Reply.Write (Err refusal)) done = moved m done.1.1 refl
  event_goes (Event.Read line) (Reply.Read (Ok got)) done = got_goes line got done.1.1
  event_goes (Event.Read line) (Reply.Read (Err refusal)) done = moved m done.1.1 refl
  event_goes (Event.Collect ticket) (Reply.Collect collected) done = remains (collected_remains ticket collected m.waits new.machine.waits done.1.0)
  event_goes (Event.Work channel) (Reply.Work None) done = moved m done.1 refl
  event_goes (Event.Work channel) (Reply.Work (Some work)) done = remains (served_remains _ channel work.served m.waits new.machine.waits done.1.1)
  event_goes Event.Sense (Reply.Sense level) done = same (sensed_goes level done.1)
  event_goes Event.Arm (Reply.Arm (Ok ArmReply.AlreadyArmed)) done = world_moved old done.1 refl
  event_goes Event.Arm (Reply.Arm (Ok ArmReply.Armed)) done = moved _ done.2 refl
  event_goes Event.Arm (Reply.Arm (Err ArmRefusal.Device)) done = moved _ done.2 refl
  event_goes Event.Arm (Reply.Arm (Err (ArmRefusal.NeedEnergy need has))) done = world_moved _ done.is refl
  event_goes Event.Arm (Reply.Arm (Err refusal)) done = world_moved old done.2 refl
  event_goes Event.Disarm (Reply.Disarm (Ok DisarmReply.AlreadyDisarmed)) done = moved m done.1.1 refl
  event_goes Event.Disarm (Reply.Disarm (Ok DisarmReply.Disarming)) done = moved _ done.1.1 refl
  event_goes Event.Disarm (Reply.Disarm (Err refusal)) done = moved m done.1.1 refl
  event_goes Event.SaveBegin (Reply.SaveBegin (Ok begins)) done = moved _ done.1.1 refl
  event_goes Event.SaveBegin (Reply.SaveBegin (Err refusal)) done = moved m done.1.1 refl
  event_goes Event.SaveStep (Reply.SaveStep StepReply.NoSave) done = world_moved old done.1 refl
  event_goes Event.SaveStep (Reply.SaveStep StepReply.Waiting) done = world_moved old done.3 refl
  event_goes Event.SaveStep (Reply.SaveStep StepReply.Turned) done = world_moved _ done.5 refl
  event_goes Event.SaveStep (Reply.SaveStep (StepReply.Did made)) done = moved _ done.6.2 refl
  event_goes Event.SaveStep (Reply.SaveStep (StepReply.Saved generation count)) done = moved _ done.6.3 refl
  event_goes Event.SaveStep (Reply.SaveStep StepReply.Retry) done = moved _ done.6.1 refl
  event_goes Event.SaveStep (Reply.SaveStep StepReply.Fault) done = moved _ done.6.1 refl
  event_goes Event.Lose (Reply.Lose loss) done = lost_goes done.0 loss done.1
  event_goes event reply none = absurd none

-- The memory after the first writes stays what it was as a life goes on.
module _ (m n : Machine) (more : List Write) (opened : n.life.opened ≡ m.life.opened) (writes : n.life.writes ≡ m.life.writes ++ more) where
  starts : start_of_life n.life ≡ start_of_life m.life
  starts = ap (λ image. image.count) opened

  grows : all_of m ≤ all_of n
  grows = let start = starts in let size : length n.life.writes ≡ length m.life.writes + length more = ap length writes ∙ length-append m.life.writes more in omega (arith, start, size)

  same_memory : (at : ℕ) → at ≤ all_of m → memory_after n at ≡ memory_after m at
  same_memory at most =
      ap (λ image. memory_at image.memory image.count n.life.writes at) opened
      ∙ ap (λ (ws : List Write). memory_at (base_of_life m.life) (start_of_life m.life) ws at) writes
      ∙ ap (λ (ws : List Write). after (base_of_life m.life) ws) (take-append-le (at - start_of_life m.life) m.life.writes more (omega (arith, most)))

  still_has : (channel_of : ℕ → ℕ) (before read : OpenRead) → IsSameRead before read → HasItsLine channel_of m before → HasItsLine channel_of n read
  still_has channel_of before read same has = record {
    from = (let start = starts in let from = has.from in let at = same.at in omega (arith, start, from, at));
    to = (let all = grows in let to = has.to in let at = same.at in omega (arith, all, to, at));
    bytes = same.bytes ∙ has.bytes ∙ ap (λ mem. line_of mem before.line) (sym (same_memory before.at has.to)) ∙ ap (λ k. line_of (memory_after n k) before.line) (sym same.at) ∙ ap (λ k. line_of (memory_after n read.at) k) (sym same.line);
    here = ap channel_of same.line ∙ has.here ∙ ap (λ (t : Ticket). t.channel) (sym same.ticket);
  }

  all_written : memory_after m (all_of m) ≡ memory_of m
  all_written = ap (λ (ws : List Write). after (base_of_life m.life) ws) (ap (λ k. take k m.life.writes) (omega arith) ∙ take-length m.life.writes)

  fresh_has : (setup : Setup) (read : OpenRead) → IsFresh setup m read → HasItsLine setup.shape.channel_of n read
  fresh_has setup read is = record {
    from = (let start = starts in let at = is.at in omega (arith, start, at));
    to = (let all = grows in let at = is.at in omega (arith, all, at));
    bytes = is.bytes ∙ ap (λ mem. line_of mem read.line) (sym all_written ∙ sym (same_memory (all_of m) (omega arith)) ∙ ap (λ k. memory_after n k) (sym is.at));
    here = is.here;
  }

module _ (setup : Setup) where
  pub event_has : (event : Event) (reply : Reply) (old new : World) → MachineStep setup event reply old new → IsGuarded old.machine → ReadsHaveTheirLines setup.shape.channel_of old.machine → ReadsHaveTheirLines setup.shape.channel_of new.machine
  event_has event reply old new step guarded have read has =
      let keeps = event_keeps setup event reply old new step guarded in
      ⊎_elim
      (λ (was : WasThere old.machine.waits read). still_has old.machine new.machine (added event reply) keeps.opened keeps.writes setup.shape.channel_of was.0 read was.2 (have was.0 was.1))
      (λ (fresh : IsFresh setup old.machine read). fresh_has old.machine new.machine (added event reply) keeps.opened keeps.writes setup read fresh)
      (event_goes setup old new event reply step read has)

  -- the cut is nothing to a read
  cut_has : (m : Machine) (cut : ℕ) → ReadsHaveTheirLines setup.shape.channel_of m → ReadsHaveTheirLines setup.shape.channel_of (record m { cut = cut })
  cut_has m cut have read has = let it = have read has in record { from = it.from; to = it.to; bytes = it.bytes; here = it.here }

  -- a run leaves it so
  pub run_has : (events : List Event) (replies : List Reply) (old new : World) → Run setup events replies old new → IsGuarded old.machine → ReadsHaveTheirLines setup.shape.channel_of old.machine → ReadsHaveTheirLines setup.shape.channel_of new.machine
  run_has [] [] old new run guarded have = subst (λ (w : World). ReadsHaveTheirLines setup.shape.channel_of w.machine) (sym run.is) (cut_has old.machine new.machine.cut have)
  run_has (event ∷ events) (reply ∷ replies) old new run guarded have =
      let before = paused run.1.pause old in
      let calm : IsGuarded before.machine = guarded_cut old.machine run.1.pause.cut run.1.may.cut guarded in
      run_has events replies run.0 new run.2 (guarded_event setup event reply before run.0 run.1.happens.step calm)
      (event_has event reply before run.0 run.1.happens.step calm (cut_has old.machine run.1.pause.cut have))
  run_has _ _ old new none guarded have = absurd none

  -- so each read of a life so far has its line
  pub lived_has : (now : World) → LivedUntil setup now → ReadsHaveTheirLines setup.shape.channel_of now.machine
  lived_has now so =
      run_has so.events so.replies so.first now so.run
      (subst IsGuarded (sym so.begins) (guarded_new so.slot so.closed so.image))
      (subst (λ (m : Machine). ReadsHaveTheirLines setup.shape.channel_of m) (sym so.begins) (λ read has. absurd (let bad : ⊥ = (let at = has.1 in cc) in bad)))

-- What is told to wait on a channel has its lines by what is told to have been written there.
module _ (setup : Setup) (m : Machine) (channel : ℕ) (told : Told) (is : IsToldOf setup m channel told) (have : ReadsHaveTheirLines setup.shape.channel_of m) (among : (read : OpenRead) → Has read told.waits.reads → Has read m.waits.reads) where
  pub told_has : ReadsHaveLines (base_of_life m.life) told
  told_has read has =
      let it = have read (among read has) in
      let named = all-at (λ (r : OpenRead). r.ticket.channel ≡ channel) told.waits.reads read is.own.reads has in
      it.bytes ∙ parting.told setup.shape.channel_of (start_of_life m.life) read.at read.line (base_of_life m.life) m.life.writes
      ∙ ap (λ c. line_of (after (base_of_life m.life) (writes_of (below read.at (written_on setup.shape.channel_of c (start_of_life m.life) m.life.writes)))) read.line) (it.here ∙ named)
      ∙ ap (λ (ws : List Numbered). line_of (after (base_of_life m.life) (writes_of (below read.at ws))) read.line) (sym is.written)

pub logs_have : (setup : Setup) (m : Machine) (logs : List (List LogNote)) (channel : ℕ) → AreLogsOf setup m logs → ReadsHaveTheirLines setup.shape.channel_of m → channel < length logs → ReadsHaveLines (base_of_life m.life) (log_tells (slice_index_or logs channel []))
logs_have setup m logs channel are have less =
    told_has setup m channel (log_tells (slice_index_or logs channel [])) (are.told channel less) have (λ read has.
    subst (λ (w : Waits). Has read w.reads) (sym are.waits) (has-pile (λ (w : Waits). w.reads) (waits_told logs) channel _ read (waits_at setup m logs are channel less) has))
