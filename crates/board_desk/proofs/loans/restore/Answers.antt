-- A port comes back.
use Rattle.std.proofs.Common.{None, Option, Some, [], ap, arith, rules, subst, sym, take, ◌++◌, ◌∙◌, ◌∷◌, ◌≤◌, ◌<◌}
use Rattle.channel_locks.specs.Unlocked.{port_in}
use Rattle.channel_locks.specs.declared.part.Part.{Part}
use Rattle.std.proofs.lemmas.Option.{slice_get_within}
use Rattle.channel_locks.specs.Slots.{IsSlotKept}
use Rattle.channel_log.specs.Log.{log_tells}
use Rattle.board_desk.specs.Loans.{restated, waits_of_port}
use Rattle.board_desk.proofs.Restored.{absent, last_none, last_some, number_back, part_back, slot_back, stage_back}
use Rattle.board_desk.proofs.loans.restore.Goals as goal

pub of-requires-clause-here : goal.of-requires-clause-here
of-requires-clause-here g c =
    let at = sym c.pop_at.ensures.port ∙ sym c.unpack-port.ensures.same ∙ c.in-Some.is in
    number_back g.K.ChannelPort g.B.PartsName c.args.hold c.args.ended c.args.number (log_tells c.args.seat.now.log) c.args.ports.now.items c.in-Some.port at c.requires.due

pub of-requires-clause-mains : goal.of-requires-clause-mains
of-requires-clause-mains g c =
    let at = sym c.pop_at.ensures.port ∙ sym c.unpack-port.ensures.same ∙ c.in-Some.is in
    stage_back g.K.ChannelPort g.B.PartsName c.args.hold c.args.ended c.args.number (log_tells c.args.seat.now.log) c.args.ports.now.items c.in-Some.port at c.requires.due

pub returns-in-Some-clause-kept : goal.returns-in-Some-clause-kept
returns-in-Some-clause-kept g c =
    let L = g.K.ChannelPort in
    let P = g.B.PartsName in
    let number = c.args.number in
    let ports = c.args.ports.now.items in
    let seat = c.args.seat.now in
    let at = sym c.pop_at.ensures.port ∙ sym c.unpack-port.ensures.same ∙ c.in-Some.is in
    let count = c.requires.count in
    let within = slice_get_within ports number c.in-Some.port at in
    let here : number < P.ports = omega (arith, count, within) in
    let told = c.note_back.ensures.told ∙ ap (λ o. restated c.args.hold c.args.ended (waits_of_port L o) (log_tells seat.log)) c.in-Some.is in
    slot_back L P (Some c.of.result) seat c.note_back.new.seat number c.requires.table c.requires.channel c.note_back.ensures.seat
    (part_back L P c.args.hold c.args.ended number (log_tells seat.log) ports c.in-Some.port at c.requires.due c.of.result c.note_back.new.seat.log told here
    c.of.ensures.stands c.of.ensures.port (search rules))

pub returns-in_default-clause-kept : goal.returns-in_default-clause-kept
returns-in_default-clause-kept g c =
    let L = g.K.ChannelPort in
    let P = g.B.PartsName in
    let number = c.args.number in
    let ports = c.args.ports.now.items in
    let seat = c.args.seat.now in
    let none = absent ports number (sym c.pop_at.ensures.port ∙ sym c.unpack-port.ensures.same ∙ c.in_default.is) in
    let count = c.requires.count in
    let beyond : P.ports ≤ number = omega (arith, count, none) in
    subst (λ part. IsSlotKept L P part c.note_back.new.seat number) (sym c.requires.lent)
    (slot_back L P None seat c.note_back.new.seat number c.requires.table c.requires.channel c.note_back.ensures.seat ∣ beyond ∣₁)

pub returns-in-Some-clause-port : goal.returns-in-Some-clause-port
returns-in-Some-clause-port g c =
    let ports = c.args.ports.now.items in
    let number = c.args.number in
    let at = sym c.pop_at.ensures.port ∙ sym c.unpack-port.ensures.same ∙ c.in-Some.is in
    let count = c.requires.count in
    last_some ports number c.in-Some.port at (omega (arith, count))
    ∙ ap (λ port. take number ports ++ port ∷ []) (sym c.of.ensures.port)
    ∙ ap (λ xs. xs ++ c.of.result.port ∷ []) (sym c.pop_at.ensures.rest)

pub returns-in_default-clause-port : goal.returns-in_default-clause-port
returns-in_default-clause-port g c =
    let L = g.K.ChannelPort in
    let ports = c.args.ports.now.items in
    last_none ports c.args.number (sym c.pop_at.ensures.port ∙ sym c.unpack-port.ensures.same ∙ c.in_default.is)
    ∙ ap (λ xs. xs ++ []) (sym c.pop_at.ensures.rest)
    ∙ ap (λ (part : Option (Part g.row.K.Denot L)). c.pop_at.new.ports.items ++ port_in L part) (sym c.requires.lent)
