-- The desk of a board that begins stands for the machine for which the module stood.
use Rattle.std.proofs.Common.{All, ◌≡◌, ◌==◌, ◌∙◌, ℕ, ◌<◌, ◌≤◌, ◌+◌, ◌-◌, suc, zero, Bool, List, [], ◌∷◌, length, map, slice_get, slice_index_or, drop, take, Option, Some, None, ap, arith, refl, subst, sym, ⊎_elim}
use Rattle.std.specs.Prelude.{Vec, if◌then◌else◌}
use Rattle.std.specs.Global.{Global}
use Rattle.std.specs.List.{range_with_len}
use Rattle.std.proofs.lemmas.Bool.{cases_lt}
use Rattle.std.proofs.lemmas.List.Elements.{All-nil}
use Rattle.std.proofs.lemmas.List.FromFn.{get_or-map-range_with_len}
use Rattle.std.proofs.lemmas.Option.{get_or_from_slice_get, slice_get_past, slice_get_within}
use Rattle.channel_set.proofs.Lists.{all-of}
use Rattle.channel_set.proofs.Piles.{has-pile}
use Rattle.line_memory.specs.declared.Write.{Write}
use Rattle.line_memory.specs.declared.parts.Numbered.{Numbered}
use Rattle.line_memory.specs.History.{Recorded}
use Rattle.line_memory.specs.Memory.{after}
use Rattle.line_memory.specs.Parts.{numbered, written_on}
use Rattle.save_device.specs.declared.device.SaveDevice.{Ghosts as DeviceGhosts}
use Rattle.energy_budget.specs.declared.energy.Energy.{Ghosts as GaugeGhosts}
use Rattle.arm_state.specs.Modes.{has_ended}
use Rattle.channel_log.specs.Log.{LogNote, Told, credits_of, log_tells}
use Rattle.channel_log.specs.ReadLines.{ReadsHaveLines}
use Rattle.channel_locks.specs.Stands.{PortStands}
use Rattle.channel_port.specs.declared.port.ChannelPort.{Ghosts}
use Rattle.channel_port.specs.Shape.{Shape}
use Rattle.channel_port.specs.Waits.{Has, Waits, nothing}
use Rattle.channel_set.specs.Ports.{waits_in}
use Rattle.channel_set.specs.Set.{shape_of}
use Rattle.channel_set.specs.declared.terms.PortTerms.{PortTerms}
use Rattle.channel_locks.specs.declared.parts_name.PartsName.{Ghosts as PartsGhosts}
use Rattle.module_core.specs.declared.front.Front.{Front}
use Rattle.module_saves.specs.Device.{Holds}
use Rattle.module_core.specs.Fronts.{setup_in}
use Rattle.module_core.specs.Stands.{Matches, setup_of}
use Rattle.nv_machine.specs.State.{Machine, Setup, base_of_life, hold_of, start_of_life, stored_base}
use Rattle.board_hosts.specs.Kept.{StandsWith}
use Rattle.nv_machine.specs.Lives.{LivedUntil}
use Rattle.board_hosts.specs.Lived.{world_for}
use Rattle.board_hosts.specs.declared.recorded_module.RecordedModule.{RecordedModule}
use Rattle.split_module.proofs.ReadLines.{lived_has, told_has}
use Rattle.split_module.specs.Telling.{AreLogsOf, AreOwn, IsToldOf, laid_out, waits_told, written_in}
use Rattle.split_module.specs.Gathering.{FitAsModule, IsMadeOf, StandsSplit, shape_in}
use Rattle.split_module.specs.Lending.{SplitStands}
use Rattle.split_module.specs.declared.gathering.SplitModule.{SplitModule}
use Rattle.split_module.proofs.Gathered.{shape_made, waits_gathered}
use Rattle.board_desk.specs.Desk.{AreBoardLogs, DeskStands, DeskView, desk_view, setup_at, shape_at, shape_named}
use Rattle.board_desk.specs.Loans.{waits_of_port}
use Rattle.split_board.specs.FirstLogs.{AreFirstLogs, channel_by, log_in, told_first}
use Rattle.split_board.specs.Starting.{make_with}
use Rattle.split_board.proofs.Within.{AreWithin, lived_within}

-- writes lie on a channel by either of two functions that agree on their lines
agree : (f g : ℕ → ℕ) (channel start : ℕ) (ws : List Write) → All (λ (w : Write). f w.line ≡ g w.line) ws → written_on f channel start ws ≡ written_on g channel start ws
agree f g channel start [] same = refl
agree f g channel start (w ∷ ws) same =
    let rest : written_on f channel (start + 1) ws ≡ written_on g channel (start + 1) ws = agree f g channel (start + 1) ws (λ k d less. same (suc k) d (omega (arith, less))) in
    let here : f w.line ≡ g w.line = same zero w (omega arith) in
    ap (λ (n : ℕ). if n == channel then numbered start w ∷ written_on f channel (start + 1) ws else written_on f channel (start + 1) ws) here
    ∙ ap (λ (part : List Numbered). if g w.line == channel then numbered start w ∷ part else part) rest

index_past : {X : Type 0} (xs : List X) (i : ℕ) (d : X) → length xs ≤ i → slice_index_or xs i d ≡ d
index_past [] i d most = refl
index_past (x ∷ xs) zero d most = absurd (omega (arith, most))
index_past (x ∷ xs) (suc i) d most = index_past xs i d (omega (arith, most))

-- what the ports have in common, and how many they are, is the board's shape
pub same_shape : {K B : Type 0} (L : Ghosts K) (P : PartsGhosts B) (pieces : SplitModule K) → make_with L pieces.terms pieces.ports.items ≡ P.make
    → length pieces.ports.items ≡ P.ports → shape_in L pieces ≡ shape_named P pieces.front.costs
same_shape L P pieces made count i = record {
  lines = (made i).lines;
  channels = count i;
  channel_of = λ line. ((made i).place_of line).channel;
  depth = (made i).depth;
  reads = (made i).most_reads;
  costs = pieces.front.costs;
}

module _ {K D E B : Type 0} (L : Ghosts K) (M : DeviceGhosts D) (N : GaugeGhosts E) (P : PartsGhosts B) where
  module _ (it : RecordedModule K D E L) (pieces : SplitModule K) (of_it : IsMadeOf L it.running pieces)
      (splits : StandsSplit L it.running pieces) (fit : FitAsModule L pieces)
      (made : make_with L pieces.terms pieces.ports.items ≡ P.make) (count : length pieces.ports.items ≡ P.ports) (base : it.history.base ≡ P.base)
      (whole : it.history.start ≡ it.running.front.terms.start)
      (table : List ℕ) (laid : table ≡ map (λ line. (P.make.place_of line).channel) (range_with_len 0 P.make.lines)) (laws : (port : K) → AreOwn (L.view port).number (L.view port).waits) where
    abbrev ports : List K
    ports = pieces.ports.items

    abbrev ended : Bool
    ended = has_ended pieces.front.front.mode

    shape_is : shape_of L it.running.channels ≡ shape_named P pieces.front.costs
    shape_is = sym (shape_made L it.running pieces of_it) ∙ same_shape L P pieces made count

    few : length ports ≤ 8
    few = fit.are_ports.few

    channel_is : (line : ℕ) → line < P.make.lines → channel_by table line ≡ (P.make.place_of line).channel
    channel_is line within = ap (λ (xs : List ℕ). slice_index_or xs line 0) laid ∙ get_or-map-range_with_len (λ line. (P.make.place_of line).channel) 0 P.make.lines line line 0 within (omega arith)

    -- what waits in a port is its own
    own_waits : (number : ℕ) (port : Option K) → slice_get ports number ≡ port → AreOwn number (waits_of_port L port)
    own_waits number None at = record { writes = All-nil _; reads = All-nil _; given = All-nil _ }
    own_waits number (Some port) at = subst (λ (n : ℕ). AreOwn n (L.view port).waits) (fit.are_ports.each number port at).number_is (laws port)

    module _ (m : Machine) (stands : StandsWith L M it m) (lived : LivedUntil (setup_of L it.running) (world_for L M N it m)) where
      matches : Matches L it.running m
      matches = stands.stands.matches

      -- the record has the whole life
      start_is : it.history.start ≡ start_of_life m.life
      start_is = whole ∙ matches.front.start

      uncut : m.cut - start_of_life m.life ≡ 0
      uncut = let same = ap (λ (r : Recorded). r.start) stands.stored in let start = start_is in omega (arith, same, start)

      pub writes_are : it.history.writes ≡ m.life.writes
      writes_are = ap (λ (r : Recorded). r.writes) stands.stored ∙ ap (λ (n : ℕ). drop n m.life.writes) uncut

      base_is : stored_base m ≡ base_of_life m.life
      base_is = ap (λ (n : ℕ). after (base_of_life m.life) (take n m.life.writes)) uncut

      pub base_was : base_of_life m.life ≡ P.base
      base_was = sym base_is ∙ (sym (ap (λ (r : Recorded). r.base) stands.stored) ∙ base)

      pub all_is : pieces.front.front.accepted ≡ it.history.start + length it.history.writes
      all_is =
          let accepted = ap (λ (f : Front). f.accepted) of_it.front ∙ matches.front.accepted in let start = start_is in let size = ap length writes_are in
          omega (arith, accepted, start, size)

      within : AreWithin P.make.lines m.life.writes
      within = subst (λ (s : Shape). AreWithin s.lines m.life.writes) shape_is (lived_within (setup_of L it.running) (world_for L M N it m) lived)

      hold_is : pieces.terms.hold ≡ hold_of m.store.saving
      hold_is = ap (λ (t : PortTerms). t.hold) of_it.terms ∙ matches.carried.hold

      ended_is : ended ≡ has_ended m.mode
      ended_is = ap (λ (f : Front). has_ended f.mode) of_it.front ∙ ap has_ended matches.front.mode

      written_is : (channel : ℕ) → written_on (channel_by table) channel it.history.start it.history.writes ≡ written_in (setup_of L it.running) m channel
      written_is channel =
          ap (λ (n : ℕ). written_on (channel_by table) channel n it.history.writes) start_is
          ∙ ap (λ (ws : List Write). written_on (channel_by table) channel (start_of_life m.life) ws) writes_are
          ∙ agree (channel_by table) (λ line. (P.make.place_of line).channel) channel (start_of_life m.life) m.life.writes (λ k w less. channel_is (slice_index_or m.life.writes k w).line (within k w less))
          ∙ ap (λ (s : Shape). written_on s.channel_of channel (start_of_life m.life) m.life.writes) (sym shape_is)

      abbrev told_at : ℕ → Told
      told_at channel = told_first L table it.history pieces.terms.hold ended (slice_get ports channel) channel

      told_of : (channel : ℕ) → IsToldOf (setup_of L it.running) m channel (told_at channel)
      told_of channel = record {
        written = written_is channel;
        hold = hold_is;
        ended = ended_is;
        own = own_waits channel (slice_get ports channel) refl;
      }

      -- each port stands for what is told of its channel
      pub port_stands : (channel : ℕ) (port : K) → slice_get ports channel ≡ Some port → PortStands L port channel P.base (told_first L table it.history pieces.terms.hold ended (Some port) channel)
      port_stands channel port at =
          subst (λ (b : List (List ℕ)). PortStands L port channel b (told_first L table it.history pieces.terms.hold ended (Some port) channel)) base_was
          (splits.each m channel port (told_first L table it.history pieces.terms.hold ended (Some port) channel) matches at
          (subst (λ (o : Option K). IsToldOf (setup_of L it.running) m channel (told_first L table it.history pieces.terms.hold ended o channel)) at (told_of channel)) refl)

      -- and each read that waits in it has its line
      pub port_reads : (channel : ℕ) (port : K) → slice_get ports channel ≡ Some port → ReadsHaveLines P.base (told_first L table it.history pieces.terms.hold ended (Some port) channel)
      port_reads channel port at =
          subst (λ (b : List (List ℕ)). ReadsHaveLines b (told_first L table it.history pieces.terms.hold ended (Some port) channel)) base_was
          (told_has (setup_of L it.running) m channel (told_first L table it.history pieces.terms.hold ended (Some port) channel)
          (subst (λ (o : Option K). IsToldOf (setup_of L it.running) m channel (told_first L table it.history pieces.terms.hold ended o channel)) at (told_of channel))
          (lived_has (setup_of L it.running) (world_for L M N it m) lived)
          (λ read has. subst (λ (w : Waits). Has read w.reads) (ap (λ (v : Vec K Global). waits_in L v.items) of_it.ports ∙ matches.carried.waits) (has-pile (λ (p : K). (L.view p).waits.reads) ports channel port read at has)))

      module _ (logs : List (List LogNote)) (first : AreFirstLogs L table it.history pieces.terms.hold ended ports logs) where
        abbrev desk : DeskView
        desk = desk_view pieces.front pieces.terms (M.state it.device) (N.gauge it.energy) it.history logs

        waits_at : (channel : ℕ) → channel < 8 → (log_tells (log_in logs channel)).waits ≡ waits_of_port L (slice_get ports channel)
        waits_at channel less = ap (λ (t : Told). t.waits) (first.told channel less)

        none_waits : (channel : ℕ) → length ports ≤ channel → (log_tells (log_in logs channel)).waits ≡ nothing
        none_waits channel most = ⊎_elim
            (λ (less : channel < 8). waits_at channel less ∙ ap (λ (o : Option K). waits_of_port L o) (slice_get_past ports channel most))
            (λ (beyond : 8 ≤ channel). ap (λ (l : List LogNote). (log_tells l).waits) (index_past logs channel [] (let size = first.eight in omega (arith, size, beyond))))
            (cases_lt channel 8)

        within_ports : (channel : ℕ) (port : K) → slice_get ports channel ≡ Some port → channel < 8
        within_ports channel port at = let less = slice_get_within ports channel port at in let most = few in omega (arith, less, most)

        waits_are : m.waits ≡ laid_out (waits_told logs)
        waits_are =
            sym matches.carried.waits ∙ ap (λ (v : Vec K Global). waits_in L v.items) (sym of_it.ports)
            ∙ sym (waits_gathered L logs ports (let size = first.eight in let most = few in omega (arith, size, most))
            (λ i port at. waits_at i (within_ports i port at) ∙ ap (λ (o : Option K). waits_of_port L o) at) none_waits)

        logs_of : AreLogsOf (setup_of L it.running) m logs
        logs_of = record {
          told = λ channel less.
              subst (IsToldOf (setup_of L it.running) m channel) (sym (first.told channel (let size = first.eight in omega (arith, size, less)))) (told_of channel);
          waits = waits_are;
          enough = (let size = first.eight in let most = few in let channels = ap (λ (s : Shape). s.channels) shape_is in let number = count in omega (arith, size, most, channels, number));
          lie = subst (λ (s : Shape). All (λ (w : Write). s.channel_of w.line < s.channels) m.life.writes) (sym shape_is)
              (λ k w less. lies (slice_index_or m.life.writes k w).line (within k w less));
        }
          where
            lies : (line : ℕ) → line < P.make.lines → (P.make.place_of line).channel < P.ports
            lies line less = (subst (λ (s : Shape). (line : ℕ) → line < s.lines → s.channel_of line < s.channels) (same_shape L P pieces made count) fit.shaped.known) line less

        board_logs : AreBoardLogs P.ports logs
        board_logs = record {
          eight = first.eight;
          few = all-of (λ (l : List LogNote). credits_of l ≤ 64) logs (λ k l at.
              subst (λ (x : List LogNote). credits_of x ≤ 64) (get_or_from_slice_get logs k l [] at)
              (first.few k (let less = slice_get_within logs k l at in let size = first.eight in omega (arith, less, size))));
          none = λ channel beyond. none_waits channel (let number = count in omega (arith, number, beyond));
        }

        setup_is : setup_of L it.running ≡ setup_at P desk
        setup_is = ap (λ (s : Shape). setup_in s it.running.front) shape_is ∙ ap (λ (f : Front). setup_in (shape_at P desk) f) (sym of_it.front)

        pub begins : DeskStands P desk m
        begins = record {
          stands = subst (λ (s : Shape). SplitStands s logs pieces.front m) (same_shape L P pieces made count) (splits.front m logs matches logs_of);
          logs_are = board_logs;
          hold = hold_is;
          holds = subst (λ (f : Front). Holds P.make.lines m.store f.saves.saving (M.state it.device)) (sym of_it.front)
              (subst (λ (s : Shape). Holds s.lines m.store it.running.front.saves.saving (M.state it.device)) shape_is stands.stands.holds);
          guarded = stands.stands.guarded;
          saved = ap (λ (f : Front). f.saved) of_it.front ∙ stands.stands.saved;
          stored = stands.stored;
          base = base_was;
          lived = subst (λ (s : Setup). LivedUntil s (world_for L M N it m)) setup_is lived;
        }
