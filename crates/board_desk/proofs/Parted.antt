-- A module that the pieces made was asked, and taken apart again.
use Rattle.std.proofs.Common.{All, Bool, List, None, Option, Some, [], ap, arith, length, refl, subst, suc, sym, zero, ℕ, ⊎_elim, ◌<◌, ◌∙◌, ◌∷◌, ◌≡◌, ◌≤◌}
use Rattle.std.proofs.Math.Logic.{∥∥₁_elim, ∥∥₁_map, ∥∥₁_prop}
use Rattle.std.proofs.Math.Nat.{ℕ_set}
use Rattle.std.proofs.Props.{props}
use Rattle.std.specs.Coded.{le_prop}
use Rattle.std.specs.Global.{Global}
use Rattle.std.specs.Prelude.{Vec, slice_get, slice_index_or}
use Rattle.std.proofs.lemmas.Bool.{cases_lt}
use Rattle.std.proofs.lemmas.Option.{get_or_from_slice_get, slice_get_past, slice_get_within}
use Rattle.arm_state.specs.Modes.{has_ended}
use Rattle.channel_locks.specs.PortMakes.{PortMake, make_of}
use Rattle.channel_locks.specs.declared.parts_name.PartsName.{Ghosts as PartsGhosts}
use Rattle.arm_state.specs.declared.loss.Loss.{Loss}
use Rattle.channel_log.specs.Log.{LogNote, Told, credits_of, log_tells}
use Rattle.channel_log.specs.ReadLines.{ReadsHaveLines}
use Rattle.channel_locks.specs.Stands.{PortStands}
use Rattle.channel_port.specs.Draining.{at_once}
use Rattle.channel_port.specs.Shape.{Shape}
use Rattle.channel_port.specs.Waits.{Has, OpenRead, Waits, nothing}
use Rattle.channel_port.specs.declared.port.ChannelPort.{Ghosts}
use Rattle.channel_set.specs.Ports.{waits_in}
use Rattle.channel_set.specs.Set.{shape_of}
use Rattle.channel_set.specs.declared.terms.PortTerms.{PortTerms}
use Rattle.channel_set.proofs.Lists.{all-of, at-within}
use Rattle.channel_set.proofs.Piles.{has-pile}
use Rattle.energy_budget.specs.declared.costs.Costs.{Costs}
use Rattle.energy_budget.specs.declared.energy.Energy.{Ghosts as GaugeGhosts}
use Rattle.line_memory.specs.History.{Recorded, recorded}
use Rattle.line_memory.specs.Memory.{IsMemory}
use Rattle.line_memory.specs.Parts.{written_on}
use Rattle.line_memory.specs.declared.Write.{Write}
use Rattle.module_saves.specs.Device.{Holds}
use Rattle.module_core.specs.Fronts.{setup_in}
use Rattle.module_core.specs.Losing.{LosesBy}
use Rattle.module_core.specs.Stands.{ModuleStands, setup_of}
use Rattle.module_core.specs.declared.front.Front.{Front}
use Rattle.nv_machine.specs.Losses.{LoseStep}
use Rattle.nv_machine.specs.State.{Life, Machine, Setup, World, base_of_life, hold_of, start_of_life, stored_base, stored_writes}
use Rattle.nv_machine.proofs.Guarded.{persisted_accepted}
use Rattle.board_hosts.specs.Kept.{IsRecordKept, StandsWith}
use Rattle.nv_machine.specs.Lives.{LivedUntil}
use Rattle.board_hosts.specs.Lived.{assembly_of, world_for}
use Rattle.board_hosts.specs.declared.recorded_module.RecordedModule.{RecordedModule}
use Rattle.save_device.specs.declared.device.SaveDevice.{Ghosts as DeviceGhosts}
use Rattle.save_image.specs.Image.{Image}
use Rattle.split_module.proofs.ReadLines.{lived_has, told_has}
use Rattle.split_module.specs.Telling.{AreLogsOf, AreOwn, IsToldOf, laid_out, waits_told, written_in}
use Rattle.split_module.specs.Gathering.{FitAsModule, IsMadeOf, StandsGathered, StandsSplit, shape_in}
use Rattle.split_module.specs.Lending.{SplitStands}
use Rattle.split_module.specs.declared.gathering.SplitModule.{SplitModule}
use Rattle.split_module.proofs.Gathered.{shape_made, waits_gathered}
use Rattle.board_desk.specs.Calling.{AddsNone, Course, GoesBy, GoesAlong}
use Rattle.board_desk.specs.Desk.{DeskStands, DeskView, desk_view, setup_at, shape_at, shape_named, world_at}
use Rattle.board_desk.specs.Kept.{AreTermsOf}
use Rattle.board_desk.specs.Loans.{AllComeBack, AreRestated, EndStays, HaveLent, restated, waits_of_port}
use Rattle.board_desk.specs.Losing.{LosesRestated}
use Rattle.board_desk.specs.Pieces.{ArePiecesKept, CallDid, CallLed}
use Rattle.board_desk.proofs.Called.{KeepsWritten, keeps_written}
use Rattle.board_desk.proofs.Drained.{life_lost}
use Rattle.board_desk.proofs.Joined.{ports_named, shape_named_so}

index_past : {X : Type 0} (xs : List X) (i : ℕ) (d : X) → length xs ≤ i → slice_index_or xs i d ≡ d
index_past [] i d most = refl
index_past (x ∷ xs) zero d most = absurd (omega (arith, most))
index_past (x ∷ xs) (suc i) d most = index_past xs i d (omega (arith, most))

module _ {K D E B : Type 0} (L : Ghosts K) (M : DeviceGhosts D) (N : GaugeGhosts E) (P : PartsGhosts B) (pieces : SplitModule K) (device : D) (energy : E) (history : Recorded) (logs : List (List LogNote)) where
  abbrev d : DeskView
  d = desk_view pieces.front pieces.terms (M.state device) (N.gauge energy) history logs

  module _ (kept : ArePiecesKept L P d pieces.ports.items) (it : RecordedModule K D E L) (made : IsMadeOf L it.running pieces) (gathers : StandsGathered L pieces it.running) (device_is : it.device ≡ device) (energy_is : it.energy ≡ energy)
      (history_is : it.history ≡ history) where
    -- the module's setup is that of the desk
    module _ (m : Machine) (s : DeskStands P d m) (have : HaveLent L P logs 8 pieces.ports.items) where
      shape_joined : shape_of L it.running.channels ≡ shape_at P d
      shape_joined = sym (shape_made L it.running pieces made) ∙ shape_named_so L P d pieces.ports.items kept m s have pieces refl refl refl

      setup_joined : setup_of L it.running ≡ setup_at P d
      setup_joined = ap (λ (x : Shape). setup_in x it.running.front) shape_joined ∙ ap (λ (f : Front). setup_in (shape_at P d) f) (sym made.front)

      world_joined : world_for L M N it m ≡ world_at d m
      world_joined = ap (λ (x : D). record (world_for L M N it m) { device = M.state x }) device_is ∙ ap (λ (x : E). record (world_at d m) { gauge = N.gauge x }) energy_is

      with_joined : StandsWith L M it m
      with_joined = record {
        stands = record {
          matches = gathers m logs (subst (λ (x : Shape). SplitStands x logs pieces.front m) (sym (shape_named_so L P d pieces.ports.items kept m s have pieces refl refl refl)) s.stands)
              (ports_named L P d pieces.ports.items kept m s have pieces refl refl refl)
              (subst (λ n. IsMemory n (base_of_life m.life)) (sym s.stands.lines) (subst (λ base. IsMemory P.make.lines base) (sym s.base) kept.memory)) s.guarded;
          holds = subst (λ (x : Shape). Holds x.lines m.store it.running.front.saves.saving (M.state it.device)) (sym shape_joined)
              (subst (λ (f : Front). Holds P.make.lines m.store f.saves.saving (M.state it.device)) made.front (subst (λ (x : D). Holds P.make.lines m.store pieces.front.front.saves.saving (M.state x)) (sym device_is) s.holds));
          guarded = s.guarded;
          saved = ap (λ (f : Front). f.saved) (sym made.front) ∙ s.saved;
        };
        stored = history_is ∙ s.stored ∙ ap (λ (h : Recorded). recorded (stored_base m) m.cut (stored_writes m) h.room) (sym history_is);
      }

      lived_joined : LivedUntil (setup_of L it.running) (world_for L M N it m)
      lived_joined = subst (λ (x : Setup). LivedUntil x (world_for L M N it m)) (sym setup_joined) (subst (LivedUntil (setup_at P d)) (sym world_joined) s.lived)

    pub record_joined : IsRecordKept L M N it
    record_joined = record {
      stands = ∥∥₁_elim kept.stands ∥∥₁_prop (λ t. ∥∥₁_map kept.have (λ have. (t.0, with_joined t.0 t.1 have, lived_joined t.0 t.1 have)));
      room = (let trail = ap (λ (f : Front). f.terms.trail) made.front in let room = kept.room in let same = ap (λ (h : Recorded). h.room) history_is in omega (arith, trail, room, same));
    }

    module _ (after : RecordedModule K D E L) (setup : setup_of L after.running ≡ setup_of L it.running)
        (parted : SplitModule K) (device_then : D) (energy_then : E) (history_then : Recorded) (made_then : IsMadeOf L after.running parted) (fit_then : FitAsModule L parted) (split_then : StandsSplit L after.running parted)
        (device_then_is : device_then ≡ after.device) (energy_then_is : energy_then ≡ after.energy)
        (laws : (port : K) → AreOwn (L.view port).number (L.view port).waits) where
      abbrev d_then : DeskView
      d_then = desk_view parted.front parted.terms (M.state device_then) (N.gauge energy_then) history_then logs

      abbrev ended : Bool
      ended = has_ended parted.front.front.mode

      module _ (m : Machine) (s : DeskStands P d m) (have : HaveLent L P logs 8 pieces.ports.items) where
        shape_parted : shape_in L parted ≡ shape_at P d
        shape_parted = shape_made L after.running parted made_then ∙ ap (λ (x : Setup). x.shape) setup ∙ shape_joined m s have

        costs_parted : parted.front.costs ≡ pieces.front.costs
        costs_parted = ap (λ (x : Shape). x.costs) shape_parted

        trail_parted : parted.front.front.terms.trail ≡ pieces.front.front.terms.trail
        trail_parted = ap (λ (f : Front). f.terms.trail) made_then.front ∙ ap (λ (x : Setup). x.trail) setup ∙ ap (λ (f : Front). f.terms.trail) (sym made.front)

        setup_parted : setup_at P d_then ≡ setup_at P d
        setup_parted = ap (λ (c : Costs). setup_in (shape_named P c) parted.front.front) costs_parted ∙ ap (λ n. record (setup_at P d) { trail = n }) trail_parted

        setup_after : setup_of L after.running ≡ setup_at P d
        setup_after = setup ∙ setup_joined m s have

        count_parted : length parted.ports.items ≡ P.ports
        count_parted = ap (λ (x : Shape). x.channels) shape_parted

        -- of whichever machine the module stands for then, with the life that it had
        module _ (n : Machine) (stands_n : ModuleStands L after.running (M.state after.device) n) (opened_n : n.life.opened ≡ m.life.opened) (writes_n : n.life.writes ≡ m.life.writes) where
          world_parted : (later : List (List LogNote)) → world_for L M N after n ≡ world_at (record d_then { logs = later }) n
          world_parted later = ap (λ (x : D). record (world_for L M N after n) { device = M.state x }) (sym device_then_is) ∙ ap (λ (x : E). record (world_at d_then n) { gauge = N.gauge x }) (sym energy_then_is)

          -- what is so of the module's worlds is so of the desks'
          of_desks : (Q : Setup → World → World → Type 0) → (later : List (List LogNote)) → Q (setup_of L it.running) (world_for L M N it m) (world_for L M N after n) → Q (setup_at P d) (world_at d m) (world_at (record d_then { logs = later }) n)
          of_desks Q later so =
              subst (λ (x : Setup). Q x (world_at d m) (world_at (record d_then { logs = later }) n)) (setup_joined m s have)
              (subst (λ (w : World). Q (setup_of L it.running) w (world_at (record d_then { logs = later }) n)) (world_joined m s have)
              (subst (Q (setup_of L it.running) (world_for L M N it m)) (world_parted later) so))

          hold_then : parted.terms.hold ≡ hold_of n.store.saving
          hold_then = ap (λ (t : PortTerms). t.hold) made_then.terms ∙ stands_n.matches.carried.hold

          ended_then : ended ≡ has_ended n.mode
          ended_then = ap (λ (f : Front). has_ended f.mode) made_then.front ∙ ap has_ended stands_n.matches.front.mode

          base_then : base_of_life n.life ≡ P.base
          base_then = ap (λ (i : Image). i.memory) opened_n ∙ s.base

          written_then : (number : ℕ) → written_in (setup_at P d) m number ≡ written_in (setup_of L after.running) n number
          written_then number =
              ap (λ (x : Setup). written_in x m number) (sym setup_after)
              ∙ ap (λ (i : Image). written_on (setup_of L after.running).shape.channel_of number i.count m.life.writes) (sym opened_n)
              ∙ ap (λ (ws : List Write). written_on (setup_of L after.running).shape.channel_of number (start_of_life n.life) ws) (sym writes_n)

          told_then : (number : ℕ) → number < length logs → (waits : Waits) → AreOwn number waits → IsToldOf (setup_of L after.running) n number (restated parted.terms.hold ended waits (log_tells (slice_index_or logs number [])))
          told_then number less waits own = record {
            written = (s.stands.told.told number less).written ∙ written_then number;
            hold = hold_then;
            ended = ended_then;
            own = own;
          }

          number_then : (number : ℕ) (port : K) → slice_get parted.ports.items number ≡ Some port → (L.view port).number ≡ number
          number_then number port at = (fit_then.are_ports.each number port at).number_is

          own_then : (number : ℕ) (port : K) → slice_get parted.ports.items number ≡ Some port → AreOwn number (L.view port).waits
          own_then number port at = subst (λ k. AreOwn k (L.view port).waits) (number_then number port at) (laws port)

          within_then : (number : ℕ) (port : K) → slice_get parted.ports.items number ≡ Some port → number < length logs
          within_then number port at = (let within = slice_get_within parted.ports.items number port at in let count = count_parted in let enough = s.stands.told.enough in omega (arith, within, count, enough))

          -- each read that waits in a port waits in the machine
          reads_then : (number : ℕ) (port : K) → slice_get parted.ports.items number ≡ Some port → (read : OpenRead) → Has read (L.view port).waits.reads → Has read n.waits.reads
          reads_then number port at read has =
              subst (λ (w : Waits). Has read w.reads) (ap (λ (v : Vec K Global). waits_in L v.items) made_then.ports ∙ stands_n.matches.carried.waits)
              (has-pile (λ (p : K). (L.view p).waits.reads) parted.ports.items number port read at has)

          module _ (lived_n : LivedUntil (setup_of L after.running) (world_for L M N after n)) where
            comes_then : AllComeBack L P parted.terms.hold ended logs parted.ports.items
            comes_then number port at =
                let told = told_then number (within_then number port at) (L.view port).waits (own_then number port at) in
                record {
                  stands = subst (λ base. PortStands L port number base (restated parted.terms.hold ended (L.view port).waits (log_tells (slice_index_or logs number [])))) base_then
                      (split_then.each n number port _ stands_n.matches at told refl);
                  waits = refl;
                  reads = subst (λ base. ReadsHaveLines base (restated parted.terms.hold ended (L.view port).waits (log_tells (slice_index_or logs number [])))) base_then
                      (told_has (setup_of L after.running) n number _ told (lived_has (setup_of L after.running) (world_for L M N after n) lived_n) (reads_then number port at));
                  stage = λ going. fit_then.mains going number port at;
                }

          own_waits : (number : ℕ) (it : Option K) → slice_get parted.ports.items number ≡ it → AreOwn number (waits_of_port L it)
          own_waits number None at = record { writes = λ k x less. absurd (omega (arith, less)); reads = λ k x less. absurd (omega (arith, less)); given = λ k x less. absurd (omega (arith, less)) }
          own_waits number (Some port) at = own_then number port at

          module _ (later : List (List LogNote)) (r : AreRestated L parted.terms.hold ended parted.ports.items logs later) where
            abbrev log_later : ℕ → List LogNote
            log_later number = slice_index_or later number []

            none_later : (number : ℕ) → length parted.ports.items ≤ number → (log_tells (log_later number)).waits ≡ nothing
            none_later number most = ⊎_elim
                (λ (less : number < length logs). ap (λ (t : Told). t.waits) (r.told number less) ∙ ap (λ (o : Option K). waits_of_port L o) (slice_get_past parted.ports.items number most))
                (λ (beyond : length logs ≤ number). ap (λ (l : List LogNote). (log_tells l).waits) (index_past later number [] (let size = r.size in omega (arith, size, beyond))))
                (cases_lt number (length logs))

            waits_later : n.waits ≡ laid_out (waits_told later)
            waits_later =
                sym stands_n.matches.carried.waits ∙ ap (λ (v : Vec K Global). waits_in L v.items) (sym made_then.ports)
                ∙ sym (waits_gathered L later parted.ports.items (let size = r.size in let count = count_parted in let enough = s.stands.told.enough in omega (arith, size, count, enough))
                (λ i port at. ap (λ (t : Told). t.waits) (r.told i (within_then i port at)) ∙ ap (λ (o : Option K). waits_of_port L o) at) none_later)

            logs_later : AreLogsOf (setup_of L after.running) n later
            logs_later = record {
              told = λ channel less.
                  let there : channel < length logs = (let size = r.size in omega (arith, size, less)) in
                  subst (IsToldOf (setup_of L after.running) n channel) (sym (r.told channel there)) (told_then channel there (waits_of_port L (slice_get parted.ports.items channel)) (own_waits channel (slice_get parted.ports.items channel) refl));
              waits = waits_later;
              enough = (let size = r.size in let enough = s.stands.told.enough in let channels = ap (λ (x : Setup). x.shape.channels) setup_after in omega (arith, size, enough, channels));
              lie = subst (λ (x : Setup). All (λ w. x.shape.channel_of w.line < x.shape.channels) n.life.writes) (sym setup_after)
                  (subst (λ (ws : List Write). All (λ w. (shape_at P d).channel_of w.line < (shape_at P d).channels) ws) (sym writes_n) s.stands.told.lie);
            }

            -- the front stands for it by the logs that are told then
            front_later : SplitStands (shape_at P d_then) later parted.front n
            front_later =
                subst (λ (c : Costs). SplitStands (shape_named P c) later parted.front n) (sym costs_parted)
                (subst (λ (x : Shape). SplitStands x later parted.front n) shape_parted (split_then.front n later stands_n.matches logs_later))

      module _ (course : Course) (adds : AddsNone course) (goes : GoesBy L M N course it after) (room : after.history.room ≡ it.history.room) (history_then_is : history_then ≡ after.history)
          (named : (port : K) → slice_get parted.ports.items 0 ≡ Some port → ∥ make_of (L.view port) ≡ P.make ∥₁) where
        module _ (m : Machine) (s : DeskStands P d m) (have : HaveLent L P logs 8 pieces.ports.items) where
          abbrev next : (n : Machine) × StandsWith L M after n × GoesAlong course (setup_of L it.running) (world_for L M N it m) (world_for L M N after n)
          next = goes m (with_joined m s have)

          abbrev n : Machine
          n = next.0

          keeps : KeepsWritten (setup_of L it.running) (world_for L M N it m) (world_for L M N after n)
          keeps = keeps_written (setup_of L it.running) course (world_for L M N it m) (world_for L M N after n) adds next.2 s.guarded

          leads : GoesAlong course (setup_at P d) (world_at d m) (world_at d_then n)
          leads = of_desks m s have n next.1.stands keeps.opened keeps.writes (GoesAlong course) logs next.2

          module _ (later : List (List LogNote)) (r : AreRestated L parted.terms.hold ended parted.ports.items logs later) where
            stands_later : DeskStands P (record d_then { logs = later }) n
            stands_later = record {
              stands = front_later m s have n next.1.stands keeps.opened keeps.writes later r;
              logs_are = record {
                eight = r.size ∙ s.logs_are.eight;
                few = all-of (λ (l : List LogNote). credits_of l ≤ 64) later (λ k l at.
                    subst (λ (x : List LogNote). credits_of x ≤ 64) (get_or_from_slice_get later k l [] at) (r.few k (let within = slice_get_within later k l at in let size = r.size in omega (arith, within, size))));
                none = λ channel beyond. none_later m s have n next.1.stands keeps.opened keeps.writes later r channel (let count = count_parted m s have in omega (arith, count, beyond));
              };
              hold = hold_then m s have n next.1.stands keeps.opened keeps.writes;
              holds = subst (λ (x : D). Holds P.make.lines n.store parted.front.front.saves.saving (M.state x)) (sym device_then_is)
                  (subst (λ (f : Front). Holds P.make.lines n.store f.saves.saving (M.state after.device)) (sym made_then.front)
                  (subst (λ (x : Setup). Holds x.shape.lines n.store after.running.front.saves.saving (M.state after.device)) (setup_after m s have) next.1.stands.holds));
              guarded = next.1.stands.guarded;
              saved = ap (λ (f : Front). f.saved) made_then.front ∙ next.1.stands.saved;
              stored = history_then_is ∙ next.1.stored ∙ ap (λ (h : Recorded). recorded (stored_base n) n.cut (stored_writes n) h.room) (sym history_then_is);
              base = base_then m s have n next.1.stands keeps.opened keeps.writes;
              lived = subst (λ (x : Setup). LivedUntil x (world_at (record d_then { logs = later }) n)) (setup_joined m s have ∙ sym (setup_parted m s have))
                  (subst (LivedUntil (setup_of L it.running)) (world_parted m s have n next.1.stands keeps.opened keeps.writes later) (keeps.lived (lived_joined m s have)));
            }

          comes_of : AllComeBack L P parted.terms.hold ended logs parted.ports.items
          comes_of = comes_then m s have n next.1.stands keeps.opened keeps.writes (subst (λ (x : Setup). LivedUntil x (world_for L M N after n)) (sym setup) (keeps.lived (lived_joined m s have)))

          led : CallLed L P course d d_then parted.ports.items m
          led = record { later = n; leads = leads; stands = stands_later }

          ends : EndStays ended logs
          ends channel tells = ⊎_elim
              (λ (less : channel < length logs). ended_then m s have n next.1.stands keeps.opened keeps.writes ∙ keeps.ended (sym (s.stands.told.told channel less).ended ∙ tells))
              (λ (beyond : length logs ≤ channel). absurd (let none = ap (λ (l : List LogNote). (log_tells l).ended) (index_past logs channel [] beyond) in let bad : ⊥ = cc in bad))
              (cases_lt channel (length logs))

          terms_then : AreTermsOf P.make parted.terms
          terms_then =
              let found = at-within parted.ports.items 0 (let count = count_parted m s have in let known = kept.shape.known 0 (let some = kept.shape.some in omega (arith, some)) in omega (arith, count, known)) in
              let is = fit_then.are_ports.each 0 found.it found.stands in
              ∥∥₁_elim (named found.it found.stands) (hlevel props) (λ made_so. record {
                checked = ap (λ (x : PortMake). x.checked) (sym made_so) ∙ ap (λ c. Some c) is.checked;
                lines = ap (λ (x : PortMake). x.lines) (sym made_so) ∙ is.lines;
                depth = ap (λ (x : PortMake). x.depth) (sym made_so) ∙ is.depth;
                most_reads = ap (λ (x : PortMake). x.most_reads) (sym made_so) ∙ is.most_reads;
              })

          start_then : parted.front.front.terms.start ≡ pieces.front.front.terms.start
          start_then = ap (λ (f : Front). f.terms.start) made_then.front ∙ next.1.stands.matches.front.start ∙ ap (λ (i : Image). i.count) keeps.opened ∙ sym s.stands.matches.start

          accepted_then : parted.front.front.accepted ≡ pieces.front.front.accepted
          accepted_then =
              let now = ap (λ (f : Front). f.accepted) made_then.front ∙ next.1.stands.matches.front.accepted in
              let was = s.stands.matches.accepted in
              let start = ap (λ (i : Image). i.count) keeps.opened in
              let writes = ap (λ (ws : List Write). length ws) keeps.writes in
              omega (arith, now, was, start, writes)

          persisted_then : pieces.front.front.persisted ≤ parted.front.front.persisted
          persisted_then =
              let now = ap (λ (f : Front). f.persisted) made_then.front ∙ next.1.stands.matches.front.persisted in
              let was = s.stands.matches.persisted in
              let rises = keeps.persisted in
              omega (arith, now, was, rises)

          marks_then : parted.front.front.persisted ≤ parted.front.front.accepted
          marks_then =
              let persisted = ap (λ (f : Front). f.persisted) made_then.front ∙ next.1.stands.matches.front.persisted in
              let accepted = ap (λ (f : Front). f.accepted) made_then.front ∙ next.1.stands.matches.front.accepted in
              let least = persisted_accepted n next.1.stands.guarded in
              omega (arith, persisted, accepted, least)

        -- what is so of whichever machine they stood for
        always : (Q : Type 0) → IsProp Q → ((m : Machine) → DeskStands P d m → HaveLent L P logs 8 pieces.ports.items → Q) → Q
        always Q prop each = ∥∥₁_elim kept.stands prop (λ t. ∥∥₁_elim kept.have prop (λ have. each t.0 t.1 have))

        pub did : CallDid L P course d d_then parted.ports.items
        did = record {
          due = always (∥ AllComeBack L P parted.terms.hold ended logs parted.ports.items ∥₁) ∥∥₁_prop (λ m s have. ∣ comes_of m s have ∣₁);
          stays = always (EndStays ended logs) (hlevel props) (λ m s have. ends m s have);
          count = always (length parted.ports.items ≡ P.ports) (ℕ_set _ _) (λ m s have. count_parted m s have);
          setup = always (setup_at P d_then ≡ setup_at P d) (hlevel props) (λ m s have. setup_parted m s have);
          terms = always (AreTermsOf P.make parted.terms) (hlevel props) (λ m s have. terms_then m s have);
          reckoned = fit_then.reckoned;
          room = ap (λ (h : Recorded). h.room) history_then_is ∙ room ∙ ap (λ (h : Recorded). h.room) history_is;
          start = always (parted.front.front.terms.start ≡ pieces.front.front.terms.start) (ℕ_set _ _) (λ m s have. start_then m s have);
          accepted = always (parted.front.front.accepted ≡ pieces.front.front.accepted) (ℕ_set _ _) (λ m s have. accepted_then m s have);
          persisted = always (pieces.front.front.persisted ≤ parted.front.front.persisted) le_prop (λ m s have. persisted_then m s have);
          within = always (parted.front.front.persisted ≤ parted.front.front.accepted) le_prop (λ m s have. marks_then m s have);
          led = λ m s. ∥∥₁_map kept.have (λ have. led m s have);
        }

      -- a loss of mains whose drains are paid for at once
      module _ (lost : Loss) (loses : LosesBy L at_once lost (assembly_of L M N it) (assembly_of L M N after)) where
        pub lost_restated : LosesRestated L P lost d d_then parted.ports.items
        lost_restated m s later r = ∥∥₁_map kept.have (λ have.
            let next = loses m (with_joined m s have).stands in
            let n : Machine = next.0 in
            let life = life_lost at_once (setup_of L it.running) lost (world_for L M N it m) (world_for L M N after n) next.2 in
            let opened = ap (λ (l : Life). l.opened) life in
            let writes = ap (λ (l : Life). l.writes) life in
            record {
              later = n;
              loses = of_desks m s have n next.1 opened writes (λ x v w. LoseStep at_once x lost v w) later next.2;
              stands = front_later m s have n next.1 opened writes later r;
            })
