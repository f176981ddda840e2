-- A port is lent.
use Rattle.std.proofs.Common.{[], None, Option, Some, ap, arith, refl, rules, subst, sym, ◌+◌, ◌++◌, ◌≡◌, ◌∙◌, ◌∷◌}
use Rattle.std.proofs.Math.Logic.{∥∥₁_elim, ∥∥₁_map, ∥∥₁_prop}
use Rattle.std.proofs.lemmas.List.{append-nil}
use Rattle.channel_locks.specs.declared.part.Part.{Part}
use Rattle.channel_locks.specs.Slots.{IsPartWhereDue}
use Rattle.channel_locks.specs.Unlocked.{port_in}
use Rattle.channel_log.specs.Log.{IsLogOf}
use Rattle.channel_log.specs.Seats.{AllLogs}
use Rattle.board_desk.specs.Desk.{desk_view}
use Rattle.board_desk.specs.Loans.{HaveLent, IsReadyToLend}
use Rattle.board_desk.proofs.Lent.{beyond, count_lent, have_none, have_one, made_part, within}
use Rattle.board_desk.proofs.desk.Desk.lend.Goals as goal

pub returns-in-Some-clause-have : goal.returns-in-Some-clause-have
returns-in-Some-clause-have g c =
    let L = g.K.ChannelPort in
    let P = g.B.PartsName in
    let number = c.args.number in
    let known = c.args.self.now.known in
    let room = c.args.self.now.room.items in
    let log = c.args.seat.now.log in
    let is : c.args.part.now ≡ Some c.in-Some.lent = sym c.take.ensures.value ∙ c.in-Some.is in
    subst (λ (f : AllLogs). ∥ HaveLent L P f.logs (number + 1) c.push_reserved.new.self.items ∥₁) (sym c.compare.ensures.front)
    (subst (λ ports. ∥ HaveLent L P known.logs (number + 1) ports ∥₁) (ap (λ p. room ++ p ∷ []) (sym c.into_port.ensures.port ∙ sym c.of.ensures) ∙ sym c.push_reserved.ensures.items)
    (∥∥₁_elim (subst (λ p. ∥ IsPartWhereDue L P p number log ∥₁) is c.requires.kept.part_is) ∥∥₁_prop (λ due.
    ∥∥₁_map c.requires.have (have_one L P known.logs number room c.in-Some.lent log (subst (λ k. IsLogOf known.logs k log) c.requires.kept.channel_is c.compare.ensures.agreed)
    (subst (λ p. IsReadyToLend L p log) is c.requires.ready) due))))

pub returns-in_default-clause-have : goal.returns-in_default-clause-have
returns-in_default-clause-have g c =
    let L = g.K.ChannelPort in
    let P = g.B.PartsName in
    let number = c.args.number in
    let known = c.args.self.now.known in
    let room = c.args.self.now.room.items in
    let none = beyond L P c.args.part.now number c.args.seat.now.log (search rules) c.requires.kept.part_is in
    subst (λ (f : AllLogs). ∥ HaveLent L P f.logs (number + 1) room ∥₁) (sym c.compare.ensures.front) (∥∥₁_map c.requires.have (have_none L P known.logs number room none))

pub of-requires : goal.of-requires
of-requires g c =
    made_part g.K.ChannelPort g.B.PartsName c.args.part.now c.in-Some.lent c.into_port.result c.args.number c.args.seat.now.log (sym c.take.ensures.value ∙ c.in-Some.is) c.into_port.ensures.port c.requires.kept.part_is

pub push_reserved-requires : goal.push_reserved-requires
push_reserved-requires g c =
    let L = g.K.ChannelPort in
    let P = g.B.PartsName in
    let desk = c.args.self.now in
    let here = within L P c.args.part.now c.in-Some.lent c.args.number c.args.seat.now.log (sym c.take.ensures.value ∙ c.in-Some.is) c.requires.kept.part_is in
    let count = count_lent L P desk.known.logs c.args.number desk.room.items c.requires.have in
    let size = desk.room.ok.0 in
    let room = desk.spacious in
    omega (arith, here, count, size, room)

pub returns-in-Some-clause-port : goal.returns-in-Some-clause-port
returns-in-Some-clause-port g c =
    let L = g.K.ChannelPort in
    let before = c.args.self.now.room.items in
    c.push_reserved.ensures.items ∙ ap (λ p. before ++ p ∷ []) (c.of.ensures ∙ c.into_port.ensures.port)
    ∙ ap (λ (part : Option (Part g.row.K.Denot L)). before ++ port_in L part) (sym (sym c.take.ensures.value ∙ c.in-Some.is))

pub returns-in_default-clause-port : goal.returns-in_default-clause-port
returns-in_default-clause-port g c =
    let L = g.K.ChannelPort in
    let before = c.args.self.now.room.items in
    let none : c.args.part.now ≡ None = search rules in
    sym (append-nil before) ∙ ap (λ (part : Option (Part g.row.K.Denot L)). before ++ port_in L part) (sym none)

pub returns-in-Some-clause-same : goal.returns-in-Some-clause-same
returns-in-Some-clause-same g c =
    let desk = c.args.self.now in
    record {
      view = ap (λ (f : AllLogs). desk_view desk.split desk.terms (g.D.SaveDevice.state desk.device) (g.E.Energy.gauge desk.energy) desk.history f.logs) c.compare.ensures.front;
      split = refl;
      terms = refl;
      device = refl;
      energy = refl;
      history = refl;
      known = c.compare.ensures.front;
    }

pub returns-in_default-clause-same : goal.returns-in_default-clause-same
returns-in_default-clause-same g c =
    let desk = c.args.self.now in
    record {
      view = ap (λ (f : AllLogs). desk_view desk.split desk.terms (g.D.SaveDevice.state desk.device) (g.E.Energy.gauge desk.energy) desk.history f.logs) c.compare.ensures.front;
      split = refl;
      terms = refl;
      device = refl;
      energy = refl;
      history = refl;
      known = c.compare.ensures.front;
    }
