use Rattle.std.proofs.Common.{◌≡◌, ◌∙◌, [], ◌∷◌, ◌++◌, length, slice_get, Option, Some, ap, arith, sym}
use Rattle.channel_log.specs.Log.{log_tells}
use Rattle.std.proofs.lemmas.List.{append-nil}
use Rattle.channel_locks.specs.declared.part.Part.{Part}
use Rattle.channel_locks.specs.Unlocked.{port_in}
use Rattle.split_board.specs.FirstLogs.{IsFirstPort}
use Rattle.split_board.proofs.Slots.{first_part, port_gone, port_last, seat_gone, seat_last}
use Rattle.split_board.proofs.dealing.channel_of.Goals.{In-Some-pop}
use Rattle.split_board.proofs.dealing.channel_of.Given.{Over}
use Rattle.split_board.proofs.dealing.channel_of.Goals as goal

module _ (g : Over) (c : In-Some-pop g) where
  -- as many ports are left as the channel's number
  ports_left : length c.pop-2.new.self.items ≡ c.args.number
  ports_left = omega (arith, c.requires.count, c.if-len-number.false, c.in-Some-pop.ensures.len, c.len.ensures)

  seat_at : slice_get c.args.seats.now.items c.args.number ≡ Some c.in-Some.seat
  seat_at = seat_last g.K.ChannelPort g.B.PartsName c.args.ended c.args.ports.now.items c.args.seats.now.items c.pop.new.self.items c.in-Some.seat c.requires.first c.in-Some.ensures.items c.args.number
      (omega (arith, c.requires.seats, c.in-Some.ensures.len))

  first : IsFirstPort g.K.ChannelPort g.B.PartsName c.args.ended c.args.number (log_tells c.in-Some.seat.log) c.in-Some-pop.port
  first = c.requires.first.ports_are c.args.number c.in-Some.seat c.in-Some-pop.port seat_at
      (port_last g.K.ChannelPort g.B.PartsName c.args.ended c.args.ports.now.items c.pop-2.new.self.items c.in-Some-pop.port c.args.seats.now.items c.requires.first c.in-Some-pop.ensures.items c.args.number ports_left)

pub returns-then-len-number-clause-first : goal.returns-then-len-number-clause-first
returns-then-len-number-clause-first g c =
    seat_gone g.K.ChannelPort g.B.PartsName c.args.ended c.args.ports.now.items c.args.seats.now.items c.pop.new.self.items c.in-Some.seat c.requires.first c.in-Some.ensures.items

pub of-requires-clause-here : goal.of-requires-clause-here
of-requires-clause-here g c = let at = goal.at.of-requires-clause-here g c in sym (first g at.In-Some-pop).number_is

pub of-requires-clause-mains : goal.of-requires-clause-mains
of-requires-clause-mains g c = let at = goal.at.of-requires-clause-mains g c in (first g at.In-Some-pop).mains

pub new-requires-clause-table : goal.new-requires-clause-table
new-requires-clause-table g c =
    let at = seat_last g.K.ChannelPort g.B.PartsName c.args.ended c.args.ports.now.items c.args.seats.now.items c.pop.new.self.items c.in-Some.seat c.requires.first c.in-Some.ensures.items c.args.number
    (omega (arith, c.requires.seats, c.in-Some.ensures.len)) in
    (c.requires.first.seats_are c.args.number c.in-Some.seat at).0

pub new-requires-clause-channel : goal.new-requires-clause-channel
new-requires-clause-channel g c =
    let at = seat_last g.K.ChannelPort g.B.PartsName c.args.ended c.args.ports.now.items c.args.seats.now.items c.pop.new.self.items c.in-Some.seat c.requires.first c.in-Some.ensures.items c.args.number
    (omega (arith, c.requires.seats, c.in-Some.ensures.len)) in
    (c.requires.first.seats_are c.args.number c.in-Some.seat at).1

pub new-requires-2-clause-table : goal.new-requires-2-clause-table
new-requires-2-clause-table g c = let at = goal.at.new-requires-2-clause-table g c in (c.requires.first.seats_are c.args.number c.in-Some.seat (seat_at g at.In-Some-pop)).0

pub new-requires-2-clause-channel : goal.new-requires-2-clause-channel
new-requires-2-clause-channel g c = let at = goal.at.new-requires-2-clause-channel g c in (c.requires.first.seats_are c.args.number c.in-Some.seat (seat_at g at.In-Some-pop)).1

pub new-requires-2-clause-part : goal.new-requires-2-clause-part
new-requires-2-clause-part g c =
    let at = goal.at.new-requires-2-clause-part g c in let L = g.K.ChannelPort in let number = c.args.number in let port = c.in-Some-pop.port in
    first_part L g.B.PartsName c.args.ended c.of.result number c.in-Some.seat.log port (first g at.In-Some-pop) c.of.ensures.port
    (omega (arith, c.requires.count, c.if-len-number.false, c.len.ensures)) c.of.ensures.stands

pub returns-clause-first : goal.returns-clause-first
returns-clause-first g c =
    port_gone g.K.ChannelPort g.B.PartsName c.args.ended c.args.ports.now.items c.pop-2.new.self.items c.in-Some-pop.port c.pop.new.self.items
    (seat_gone g.K.ChannelPort g.B.PartsName c.args.ended c.args.ports.now.items c.args.seats.now.items c.pop.new.self.items c.in-Some.seat c.requires.first c.in-Some.ensures.items)
    c.in-Some-pop.ensures.items

pub returns-then-len-number-clause-port : goal.returns-then-len-number-clause-port
returns-then-len-number-clause-port g c =
    let ports = c.args.ports.now.items in let L = g.K.ChannelPort in
    sym (append-nil ports) ∙ ap (λ (part : Option (Part g.row.K.Denot L)). ports ++ port_in L part) (sym c.new.ensures.part)

pub returns-clause-port : goal.returns-clause-port
returns-clause-port g c =
    let left = c.pop-2.new.self.items in let L = g.K.ChannelPort in
    c.in-Some-pop.ensures.items ∙ ap (λ port. left ++ port ∷ []) (sym c.of.ensures.port)
    ∙ ap (λ (part : Option (Part g.row.K.Denot L)). left ++ port_in L part) (sym c.new-2.ensures.part)
