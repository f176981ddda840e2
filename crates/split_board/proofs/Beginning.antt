-- What is true behind the locks of a board that begins.
use Rattle.std.proofs.Common.{All, ◌≡◌, ◌∙◌, ℕ, ◌<◌, ◌≤◌, ◌+◌, List, length, map, slice_index_or, Some, ap, arith, refl, subst, sym, ⊎_elim}
use Rattle.std.specs.List.{range_with_len}
use Rattle.std.proofs.Props.{props}
use Rattle.std.proofs.Math.Logic.{∥∥₁_elim, ∥∥₁_map}
use Rattle.std.proofs.Math.Nat.{ℕ_set}
use Rattle.std.proofs.lemmas.Bool.{cases_lt}
use Rattle.std.proofs.lemmas.List.{get_or_past}
use Rattle.std.proofs.lemmas.List.Elements.{All-map}
use Rattle.std.proofs.lemmas.List.FromFn.{get_or-range_with_len, length-range_with_len}
use Rattle.atomic_table.specs.Seated.{TableId}
use Rattle.board_hosts.specs.SeenMarks.{SeenMarks, seen_marks}
use Rattle.line_memory.specs.Memory.{IsMemory}
use Rattle.arm_state.specs.Modes.{has_ended}
use Rattle.save_device.specs.declared.device.SaveDevice.{Ghosts as DeviceGhosts}
use Rattle.energy_budget.specs.declared.energy.Energy.{Ghosts as GaugeGhosts}
use Rattle.channel_log.specs.Log.{LogNote}
use Rattle.channel_port.specs.declared.port.ChannelPort.{Ghosts}
use Rattle.channel_port.specs.Shape.{IsShape, Shape}
use Rattle.module_core.specs.declared.front.Front.{Front}
use Rattle.channel_set.specs.declared.set.ChannelSet.{ChannelSet}
use Rattle.channel_set.specs.Set.{shape_of}
use Rattle.channel_locks.specs.Lines.{channels_of_lines}
use Rattle.channel_locks.specs.PortMakes.{PortMake}
use Rattle.channel_locks.specs.declared.parts_name.PartsName.{Ghosts as PartsGhosts}
use Rattle.nv_machine.specs.State.{base_of_life}
use Rattle.board_hosts.specs.Kept.{IsRecordKept}
use Rattle.board_hosts.specs.declared.board_name.BoardName.{Ghosts as BoardGhosts}
use Rattle.board_hosts.specs.declared.recorded_module.RecordedModule.{RecordedModule}
use Rattle.split_module.specs.Telling.{AreOwn}
use Rattle.split_module.specs.Gathering.{FitAsModule, IsMadeOf, StandsSplit}
use Rattle.split_module.specs.declared.gathering.SplitModule.{SplitModule}
use Rattle.split_module.proofs.Gathered.{shape_made}
use Rattle.board_desk.specs.Desk.{desk_view, shape_named}
use Rattle.board_desk.specs.Kept.{IsDeskKept}
use Rattle.split_board.specs.FirstLogs.{AreFirstLogs, AreFirstPorts, channel_by}
use Rattle.split_board.specs.Lines.{AreLinesOfBoard}
use Rattle.split_board.specs.Starting.{make_with}
use Rattle.split_board.proofs.Begun.{all_is, base_was, begins, port_reads, port_stands, same_shape}

-- the channels of a module's lines, where its ports are the board's
pub laid_as : {K D E B : Type 0} {L : Ghosts K} (P : PartsGhosts B) (it : RecordedModule K D E L) (table : List ℕ) (set : ChannelSet K L) → table ≡ channels_of_lines (shape_of L set) → set ≡ it.running.channels
    → make_with L it.running.channels.terms it.running.channels.ports.items ≡ P.make → table ≡ map (λ line. (P.make.place_of line).channel) (range_with_len 0 P.make.lines)
laid_as {L = L} P it table set lines same made =
    lines ∙ ap (λ (s : ChannelSet _ L). channels_of_lines (shape_of L s)) same ∙ (λ i. map (λ line. ((made i).place_of line).channel) (range_with_len 0 (made i).lines))

memory_prop : (lines : ℕ) (memory : List (List ℕ)) → IsProp (IsMemory lines memory)
memory_prop lines memory = hlevel props

module _ {K D E B : Type 0} (L : Ghosts K) (M : DeviceGhosts D) (N : GaugeGhosts E) (O : BoardGhosts B) (P : PartsGhosts B) where
  module _ (it : RecordedModule K D E L) (pieces : SplitModule K) (of_it : IsMadeOf L it.running pieces)
      (splits : StandsSplit L it.running pieces) (fit : FitAsModule L pieces)
      (it_made : make_with L it.running.channels.terms it.running.channels.ports.items ≡ P.make)
      (it_count : length it.running.channels.ports.items ≡ P.ports) (base : it.history.base ≡ P.base)
      (whole : it.history.start ≡ it.running.front.terms.start) (kept : IsRecordKept L M N it)
      (table : List ℕ) (laid : table ≡ map (λ line. (P.make.place_of line).channel) (range_with_len 0 P.make.lines)) (laws : (port : K) → AreOwn (L.view port).number (L.view port).waits) where
    made : make_with L pieces.terms pieces.ports.items ≡ P.make
    made = (λ i. make_with L (of_it.terms i) (of_it.ports i).items) ∙ it_made

    pub count : length pieces.ports.items ≡ P.ports
    count = (λ i. length (of_it.ports i).items) ∙ it_count

    pub few : P.ports ≤ 8
    few = subst (λ (n : ℕ). n ≤ 8) count fit.are_ports.few

    pub accepted_is : pieces.front.front.accepted ≡ it.history.start + length it.history.writes
    accepted_is = ∥∥₁_elim kept.stands (ℕ_set _ _) (λ s. all_is L M N P it pieces of_it splits fit made count base whole table laid laws s.0 s.1 s.2)

    pub first_ports : AreFirstPorts L P (has_ended pieces.front.front.mode) table it.history pieces.terms.hold pieces.ports.items
    first_ports channel port at =
        let each = fit.are_ports.each channel port at in
        record {
          number_is = each.number_is;
          stands = ∥∥₁_map kept.stands (λ s. port_stands L M N P it pieces of_it splits fit made count base whole table laid laws s.0 s.1 s.2 channel port at);
          waits = refl;
          reads = ∥∥₁_map kept.stands (λ s. port_reads L M N P it pieces of_it splits fit made count base whole table laid laws s.0 s.1 s.2 channel port at);
          ends = refl;
          mains = λ going. fit.mains going channel port at;
          made = (λ i. record {
            checked = Some (each.checked i);
            lines = each.lines i;
            place_of = each.places_are i;
            depth = each.depth i;
            most_reads = each.most_reads i;
          }) ∙ made;
        }

    shaped : IsShape (shape_named P pieces.front.costs)
    shaped = subst IsShape (same_shape L P pieces made count) fit.shaped

    memory : IsMemory P.make.lines P.base
    memory = ∥∥₁_elim kept.stands (memory_prop P.make.lines P.base) (λ s. subst (IsMemory P.make.lines) (base_was L M N P it pieces of_it splits fit made count base whole table laid laws s.0 s.1 s.2)
        (subst (λ (shape : Shape). IsMemory shape.lines (base_of_life s.0.life)) (sym (shape_made L it.running pieces of_it) ∙ same_shape L P pieces made count) s.1.stands.matches.carried.carries.memory))

    pub desk_kept : (logs : List (List LogNote)) → AreFirstLogs L table it.history pieces.terms.hold (has_ended pieces.front.front.mode) pieces.ports.items logs
        → (words names known : TableId) (marks : SeenMarks) (written : ℕ) → words ≡ O.board → names ≡ P.logs → known ≡ P.logs → O.channels ≡ P.ports
        → marks ≡ seen_marks O.board it.running.front.accepted it.running.front.persisted → it.running.front.accepted ≡ it.running.front.terms.start + O.before → written ≡ 0
        → IsDeskKept O P (desk_view pieces.front pieces.terms (M.state it.device) (N.gauge it.energy) it.history logs) words marks written names known
    desk_kept logs first words names known marks written board names_is known_is channels shown before none = record {
      board = board;
      logs_is = names_is;
      known_is = known_is;
      channels = channels;
      shape = shaped;
      terms = record {
        checked = ap (λ (make : PortMake). make.checked) (sym made);
        lines = ap (λ (make : PortMake). make.lines) (sym made);
        depth = ap (λ (make : PortMake). make.depth) (sym made);
        most_reads = ap (λ (make : PortMake). make.most_reads) (sym made);
      };
      reckoned = fit.reckoned;
      memory = memory;
      shown = shown ∙ ap (λ (front : Front). seen_marks O.board front.accepted front.persisted) (sym of_it.front);
      counted = subst (λ (front : Front). front.accepted ≡ front.terms.start + O.before + written) (sym of_it.front) (omega (arith, before, none));
      room = subst (λ (front : Front). front.terms.trail ≤ it.history.room) (sym of_it.front) kept.room;
      stands = ∥∥₁_map kept.stands (λ s. (s.0, begins L M N P it pieces of_it splits fit made count base whole table laid laws s.0 s.1 s.2 logs first));
    }

    laid_within : (k d : ℕ) → k < length (range_with_len 0 P.make.lines) → (P.make.place_of (slice_index_or (range_with_len 0 P.make.lines) k d)).channel < P.ports
    laid_within k d within =
        let small : k < P.make.lines = subst (λ (n : ℕ). k < n) (length-range_with_len 0 P.make.lines) within in
        subst (λ (line : ℕ). (P.make.place_of line).channel < P.ports) (sym (get_or-range_with_len 0 P.make.lines k d small ∙ omega arith)) (shaped.known k small)

    all_known : All (λ channel. channel < P.ports) table
    all_known = subst (All (λ channel. channel < P.ports)) (sym laid) (All-map (λ channel. channel < P.ports) (λ line. (P.make.place_of line).channel) (range_with_len 0 P.make.lines) laid_within)

    -- each line's channel is one of eight
    pub below_eight : (line : ℕ) → channel_by table line < 8
    below_eight line = ⊎_elim
        (λ (less : line < length table). let here : channel_by table line < P.ports = all_known line 0 less in let most = few in omega (arith, here, most))
        (λ (beyond : length table ≤ line). let none : channel_by table line ≡ 0 = get_or_past table line 0 beyond in omega (arith, none))
        (cases_lt line (length table))

    pub lines_laid : O.channels ≡ P.ports → AreLinesOfBoard O P table
    lines_laid channels = record {
      laid = laid;
      known = all_known;
      some = omega (arith, shaped.known 0 (omega (arith, shaped.some)));
      eight = few;
      channels = channels;
    }
