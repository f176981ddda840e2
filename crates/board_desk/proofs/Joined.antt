-- The pieces of a board's module fit together, and what the module stands for that they make.
use Rattle.std.proofs.Common.{List, Some, [], ap, arith, length, refl, subst, sym, ℕ, ◌<◌, ◌∙◌, ◌∷◌, ◌≡◌, ◌≤◌}
use Rattle.std.specs.Prelude.{slice_get, slice_index_or}
use Rattle.std.proofs.lemmas.Option.{same_Some, slice_get_within}
use Rattle.arm_state.specs.Modes.{has_ended}
use Rattle.channel_locks.specs.PortMakes.{PortMake, make_of}
use Rattle.channel_locks.specs.declared.parts_name.PartsName.{Ghosts as PartsGhosts}
use Rattle.channel_log.specs.Log.{log_tells}
use Rattle.channel_locks.specs.Stands.{PortStands}
use Rattle.channel_port.specs.Shape.{IsShape}
use Rattle.channel_port.specs.Waits.{AllBelow, Has, Waits}
use Rattle.channel_port.specs.declared.port.ChannelPort.{Ghosts}
use Rattle.channel_port.specs.declared.waiting.Waiting.{Waiting}
use Rattle.channel_set.specs.Carrying.{CarriesOwn}
use Rattle.channel_set.specs.Ports.{ArePorts, IsPort, places_of, shape_with, waits_in}
use Rattle.channel_set.specs.declared.terms.PortTerms.{PortTerms}
use Rattle.split_module.specs.declared.front.SplitFront.{SplitFront}
use Rattle.channel_set.proofs.Lists.{all-of}
use Rattle.channel_set.proofs.Piles.{from-pile}
use Rattle.channel_set.proofs.Written.{written-before}
use Rattle.ddr4_timing.specs.declared.place.Place.{Place}
use Rattle.energy_budget.specs.Costs.{AreReckonedFor}
use Rattle.line_memory.specs.declared.parts.Numbered.{Numbered}
use Rattle.nv_machine.specs.State.{Machine, base_of_life, start_of_life}
use Rattle.split_module.specs.Telling.{IsToldOf}
use Rattle.split_module.specs.Gathering.{ArePortsOf, FitAsModule, shape_in}
use Rattle.split_module.specs.declared.gathering.SplitModule.{SplitModule}
use Rattle.split_module.proofs.Gathered.{waits_gathered}
use Rattle.board_desk.specs.Desk.{DeskStands, DeskView, setup_at, shape_at}
use Rattle.board_desk.specs.Loans.{HaveLent}
use Rattle.board_desk.specs.Pieces.{ArePiecesKept}

module _ {K B : Type 0} (L : Ghosts K) (P : PartsGhosts B) where
  -- lines lie where the board's name says
  places_named : (ports : List K) → ((i : ℕ) (port : K) → slice_get ports i ≡ Some port → make_of (L.view port) ≡ P.make) → 0 < length ports → places_of L ports ≡ P.make.place_of
  places_named [] made some = absurd (omega (arith, some))
  places_named (port ∷ ports) made some = ap (λ (m : PortMake). m.place_of) (made 0 port refl)

  module _ (d : DeskView) (ports : List K) (kept : ArePiecesKept L P d ports) (m : Machine) (s : DeskStands P d m) (have : HaveLent L P d.logs 8 ports) where
    all_ports : P.ports ≤ 8
    all_ports = (let enough = s.stands.told.enough in let eight = s.logs_are.eight in omega (arith, enough, eight))

    pub count_named : length ports ≡ P.ports
    count_named = (let count = have.count in let most = all_ports in omega (arith, count, most))

    some_port : 0 < length ports
    some_port = (let known = kept.shape.known 0 (let some = kept.shape.some in omega (arith, some)) in let count = count_named in omega (arith, known, count))

    within_logs : (number : ℕ) (port : K) → slice_get ports number ≡ Some port → number < length d.logs
    within_logs number port at = (let within = slice_get_within ports number port at in let count = count_named in let enough = s.stands.told.enough in omega (arith, within, count, enough))

    of_channel : (number : ℕ) (port : K) → slice_get ports number ≡ Some port → IsToldOf (setup_at P d) m number (log_tells (slice_index_or d.logs number []))
    of_channel number port at = s.stands.told.told number (within_logs number port at)

    is_port : (number : ℕ) (port : K) → slice_get ports number ≡ Some port → IsPort L d.terms (places_of L ports) number port
    is_port number port at =
        let made = have.made number port at in
        let stands = (have.each number port at).stands in
        record {
          number_is = stands.number;
          checked = same_Some (L.view port).checked d.terms.checked (ap (λ (x : PortMake). x.checked) made ∙ kept.terms.checked);
          lines = ap (λ (x : PortMake). x.lines) made ∙ kept.terms.lines;
          places_are = ap (λ (x : PortMake). x.place_of) made ∙ sym (places_named ports have.made some_port);
          depth = ap (λ (x : PortMake). x.depth) made ∙ kept.terms.depth;
          most_reads = ap (λ (x : PortMake). x.most_reads) made ∙ kept.terms.most_reads;
          hold = stands.hold ∙ (of_channel number port at).hold ∙ sym s.hold;
        }

    -- what waits in the ports waits in the machine
    pub waits_named : waits_in L ports ≡ m.waits
    waits_named =
        sym (waits_gathered L d.logs ports (let count = count_named in let enough = s.stands.told.enough in omega (arith, count, enough))
        (λ i port at. (have.each i port at).waits) (λ i most. s.logs_are.none i (let count = count_named in omega (arith, count, most))))
        ∙ sym s.stands.told.waits

    below_accepted : AllBelow d.split.front.accepted (waits_in L ports).writes
    below_accepted = all-of (λ (w : Waiting). w.number < d.split.front.accepted) (waits_in L ports).writes (λ k w at.
        let pile = from-pile (λ (port : K). (L.view port).waits.writes) ports w (k, at) in
        let own : CarriesOwn L pile.pile P.base (log_tells (slice_index_or d.logs pile.place [])).written = (have.each pile.place pile.pile pile.at).stands.own in
        let (u, lies, named) = own.given w pile.has in
        let written = (of_channel pile.place pile.pile pile.at).written in
        let before = written-before (shape_at P d).channel_of pile.place (start_of_life m.life) m.life.writes u (subst (λ (mine : List Numbered). Has u mine) written lies) in
        let accepted = s.stands.matches.accepted in
        omega (arith, before, named, accepted))

    module _ (pieces : SplitModule K) (front : pieces.front ≡ d.split) (terms : pieces.terms ≡ d.terms) (items : pieces.ports.items ≡ ports) where
      pub shape_named_so : shape_in L pieces ≡ shape_at P d
      shape_named_so =
          ap (λ (t : PortTerms). shape_with L t pieces.front.costs pieces.ports.items) terms
          ∙ ap (λ (f : SplitFront). shape_with L d.terms f.costs pieces.ports.items) front
          ∙ ap (λ (xs : List K). shape_with L d.terms d.split.costs xs) items
          ∙ ap (λ (n : ℕ). record (shape_with L d.terms d.split.costs ports) { lines = n }) (sym kept.terms.lines)
          ∙ ap (λ (n : ℕ). record (shape_with L d.terms d.split.costs ports) { lines = P.make.lines; channels = n }) count_named
          ∙ ap (λ (f : ℕ → Place). record (shape_at P d) { channel_of = λ line. (f line).channel; depth = d.terms.depth; reads = d.terms.most_reads }) (places_named ports have.made some_port)
          ∙ ap (λ (n : ℕ). record (shape_at P d) { depth = n; reads = d.terms.most_reads }) (sym kept.terms.depth)
          ∙ ap (λ (n : ℕ). record (shape_at P d) { reads = n }) (sym kept.terms.most_reads)

      pub fits_named : FitAsModule L pieces
      fits_named = record {
        are_ports = subst (λ (t : PortTerms). ArePorts L t pieces.ports.items) (sym terms) (subst (λ (xs : List K). ArePorts L d.terms xs) (sym items)
            (record { each = is_port; few = (let count = count_named in let most = all_ports in omega (arith, count, most)) }));
        shaped = subst IsShape (sym shape_named_so) kept.shape;
        reckoned = subst (λ (t : PortTerms). AreReckonedFor t.checked pieces.front.costs) (sym terms) (subst (λ (f : SplitFront). AreReckonedFor d.terms.checked f.costs) (sym front) kept.reckoned);
        lines = ap (λ (f : SplitFront). f.lines) front ∙ s.stands.lines ∙ kept.terms.lines ∙ ap (λ (t : PortTerms). t.lines) (sym terms);
        out = ap (λ (f : SplitFront). f.out) front ∙ s.stands.out ∙ ap (λ (w : Waits). length w.writes) (sym waits_named) ∙ ap (λ (xs : List K). length (waits_in L xs).writes) (sym items);
        below = subst (λ (f : SplitFront). AllBelow f.front.accepted (waits_in L pieces.ports.items).writes) (sym front)
            (subst (λ (xs : List K). AllBelow d.split.front.accepted (waits_in L xs).writes) (sym items) below_accepted);
        mains = λ going number port at.
            let there : slice_get ports number ≡ Some port = ap (λ (xs : List K). slice_get xs number) (sym items) ∙ at in
            (have.each number port there).stage ((of_channel number port there).ended ∙ ap has_ended (sym s.stands.matches.mode) ∙ ap (λ (f : SplitFront). has_ended f.front.mode) (sym front) ∙ going);
      }

      pub ports_named : ArePortsOf L (base_of_life m.life) d.logs pieces.ports.items
      ports_named = subst (λ (xs : List K). ArePortsOf L (base_of_life m.life) d.logs xs) (sym items) (record {
        stand = λ number port at. subst (λ base. PortStands L port number base (log_tells (slice_index_or d.logs number []))) (sym s.base) (have.each number port at).stands;
        told = λ number port at. (have.each number port at).waits;
        none = λ number most. s.logs_are.none number (let count = count_named in omega (arith, count, most));
      })
