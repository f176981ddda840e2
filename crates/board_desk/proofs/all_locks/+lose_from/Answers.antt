-- One channel after another lends its port to a loss of mains.
use Rattle.std.proofs.Common.{ap, arith, subst, sym, ℕ, ◌∙◌, ◌≡◌}
use Rattle.std.specs.Arc.{arc_value}
use Rattle.channel_locks.specs.Slots.{IsSlotKept}
use Rattle.channel_locks.specs.declared.locked_channel.LockedChannel.{LockedChannel}
use Rattle.channel_log.specs.Seats.{OneLog}
use Rattle.board_desk.specs.Calling.{loss_course}
use Rattle.board_desk.specs.Locking.{LossTells}
use Rattle.board_desk.specs.Views.{desk_of}
use Rattle.board_desk.proofs.Frames.{called_here, called_same, due_first, have_settled, of_first, stays_first, tables_first}
use Rattle.board_desk.proofs.Wholly.{settled_ready}
use Rattle.board_desk.proofs.all_locks.+lose_from.Given.{Over}
use Rattle.board_desk.proofs.all_locks.+lose_from.Goals.{After-deref_mut-channel}
use Rattle.board_desk.proofs.all_locks.+lose_from.Goals as goal

module _ (g : Over) (t : ℕ) (c : After-deref_mut-channel g t) where
  abbrev Channel : Type 0
  Channel = LockedChannel g.row.K.Denot g.row.B.Denot g.K.ChannelPort g.B.PartsName

  -- what lies behind the lock has the lock's number
  here : c.deref_mut-channel.result.now.number ≡ c.args.number
  here = ap (λ (it : Channel). it.number) c.deref_mut-channel.ensures.value ∙ c.take-lock.ensures

pub lend-requires-clause-kept : goal.lend-requires-clause-kept
lend-requires-clause-kept g t c =
    let at = goal.at.lend-requires-clause-kept g t c in
    let channel = c.settle.new.channel in
    subst (λ k. IsSlotKept g.K.ChannelPort g.B.PartsName channel.part channel.seat k) (c.settle.ensures.number ∙ here g t at.After-deref_mut-channel) channel.kept

pub lend-requires-clause-ready : goal.lend-requires-clause-ready
lend-requires-clause-ready g t c = settled_ready g.K.ChannelPort _ _ _ c.settle.ensures.settled

pub lend-requires-clause-have : goal.lend-requires-clause-have
lend-requires-clause-have g t c =
    let at = goal.at.lend-requires-clause-have g t c in
    let did = c.settle.ensures in
    have_settled g.K.ChannelPort g.D.SaveDevice g.E.Energy g.B.BoardName g.B.PartsName c.args.number c.args.desk c.settle.new.self c.settle.new.self c.deref_mut-channel.result.now c.settle.new.channel (here g t at.After-deref_mut-channel)
    did.settles did.same did.elsewhere did.part c.requires.have

pub give_back-requires-clause-tables : goal.give_back-requires-clause-tables
give_back-requires-clause-tables g t c =
    let called = c.lose_from-lent.ensures in
    let lent = c.lose_from-lent.result.lent in
    let L = g.K.ChannelPort in let M = g.D.SaveDevice in let N = g.E.Energy in let O = g.B.BoardName in let P = g.B.PartsName in
    tables_first L M N O P c.args.number (loss_course c.lose_from-lent.result.answer) _ (desk_of L M N O P c.lend.new.self) c.lend.new.self.room.items lent.rest (arc_value lent.books.marks) lent.books.seat lent.books.tally.book.total lent.books.logs lent.books.known called
    c.lend.new.seat (ap (λ (s : OneLog). s.table) c.lend.ensures.seat ∙ c.settle.new.channel.kept.table)

pub give_back-requires-clause-table : goal.give_back-requires-clause-table
give_back-requires-clause-table g t c = ap (λ (s : OneLog). s.table) c.lend.ensures.seat ∙ c.settle.new.channel.kept.table

pub give_back-requires-clause-channel : goal.give_back-requires-clause-channel
give_back-requires-clause-channel g t c =
    let at = goal.at.give_back-requires-clause-channel g t c in
    ap (λ (s : OneLog). s.channel) c.lend.ensures.seat ∙ c.settle.new.channel.kept.channel_is ∙ c.settle.ensures.number ∙ here g t at.After-deref_mut-channel

pub give_back-requires-clause-count : goal.give_back-requires-clause-count
give_back-requires-clause-count g t c =
    let count = c.lose_from-lent.ensures.back.count in
    let size = c.lose_from-lent.result.lent.rest.pieces.ports.ok.0 in
    omega (arith, count, size)

pub give_back-requires-clause-stays : goal.give_back-requires-clause-stays
give_back-requires-clause-stays g t c =
    let called = c.lose_from-lent.ensures in
    let lent = c.lose_from-lent.result.lent in
    let L = g.K.ChannelPort in let M = g.D.SaveDevice in let N = g.E.Energy in let O = g.B.BoardName in let P = g.B.PartsName in
    stays_first L M N O P c.args.number (loss_course c.lose_from-lent.result.answer) _ (desk_of L M N O P c.lend.new.self) c.lend.new.self.room.items lent.rest (arc_value lent.books.marks) lent.books.seat lent.books.tally.book.total lent.books.logs lent.books.known called
    c.lend.new.seat.log c.lend.ensures.agreed

pub give_back-requires-clause-due : goal.give_back-requires-clause-due
give_back-requires-clause-due g t c =
    let called = c.lose_from-lent.ensures in
    let lent = c.lose_from-lent.result.lent in
    let L = g.K.ChannelPort in let M = g.D.SaveDevice in let N = g.E.Energy in let O = g.B.BoardName in let P = g.B.PartsName in
    due_first L M N O P c.args.number (loss_course c.lose_from-lent.result.answer) _ (desk_of L M N O P c.lend.new.self) c.lend.new.self.room.items lent.rest (arc_value lent.books.marks) lent.books.seat lent.books.tally.book.total lent.books.logs lent.books.known called
    c.lend.new.seat.log c.lend.ensures.agreed

pub invariant_of-channel : goal.invariant_of-channel
invariant_of-channel g t c =
    let at = goal.at.invariant_of-channel g t c in
    record { kept = subst (λ k. IsSlotKept g.K.ChannelPort g.B.PartsName c.give_back.new.part c.give_back.new.seat k) (sym (c.settle.ensures.number ∙ here g t at.After-deref_mut-channel)) c.give_back.ensures.kept }

pub returns : goal.returns
returns g t c =
    let at = goal.at.returns g t c in
    let did = c.settle.ensures in
    let called = c.lose_from-lent.ensures in
    let lent = c.lose_from-lent.result.lent in
    let L = g.K.ChannelPort in let M = g.D.SaveDevice in let N = g.E.Energy in let O = g.B.BoardName in let P = g.B.PartsName in
    let course = loss_course c.lose_from-lent.result.answer in
    let Tells = LossTells L M N O P g.G.Gate c.args.gate.now c.lose_from-lent.result.answer in
    let mid = desk_of L M N O P c.lend.new.self in
    let words = arc_value lent.books.marks in
    let written = lent.books.tally.book.total in
    let now = c.give_back.new.self in
    let of = of_first L M N O P c.args.number course Tells mid c.lend.new.self.room.items lent.rest words lent.books.seat written lent.books.logs lent.books.known called c.lend.new.seat.log c.lend.ensures.agreed in
    let same = c.give_back.ensures in
    called_same L M N O P c.args.number course Tells (desk_of L M N O P c.args.desk) c.args.desk.room.items now.rest words (arc_value now.books.marks) lent.books.seat now.books.seat written now.books.tally.book.total lent.books.logs now.books.logs now.books.known
    same.marks same.seat same.total same.logs
    (called_here L M N O P c.args.number c.args.desk c.settle.new.self c.lend.new.self c.deref_mut-channel.result.now c.settle.new.channel (here g t at.After-deref_mut-channel) did.settles did.same did.elsewhere did.part c.lend.ensures.same c.lend.ensures.port
    course Tells lent.rest words lent.books.seat written lent.books.logs lent.books.known called c.give_back.new.part now.rest now.books.known (c.give_back.ensures.back called.done called.first of called.back) c.give_back.ensures.port)
