-- A read that has to wait is served.
use Rattle.std.proofs.Common.{ℕ, subst, sym}
use Rattle.board_desk.specs.Answering.{IsTicketOf}
use Rattle.channel_locks.proofs.ServedLines.{served_line}
use Rattle.channel_locks.specs.Slots.{IsPartWhereDue}
use Rattle.channel_port.specs.declared.answers.Got.{Got}
use Rattle.split_board.specs.Turns.{ServesFirst, ServesOnce}
use Rattle.split_board.proofs.reading.served.Goals as goal

pub returns-in-Later-clause-serves : goal.returns-in-Later-clause-serves
returns-in-Later-clause-serves g c =
    let L = g.K.ChannelPort in
    let P = g.B.PartsName in
    let channel = c.args.channel.now in
    let here = subst (λ (got : Got). IsTicketOf c.args.channel.now.number got) c.in-Later.is c.requires in
    subst (λ (got : Got). ServesFirst L P c.args.line c.args.at got c.told_for.result) (sym c.in-Later.is) (
      c.serve.result,
      record {
        before = channel.part;
        after = c.serve.new.self.part;
        lent = (channel.seat.log, subst (λ (number : ℕ). ∥ IsPartWhereDue L P channel.part number channel.seat.log ∥₁) (sym here) channel.kept.part_is);
        serves = c.serve.ensures.serves;
        has = served_line L P c.args.channel.now.number channel.seat.log c.in-Later.ticket c.serve.result channel.part c.serve.new.self.part channel.kept.part_is c.serve.ensures.serves;
      },
      c.told_for.ensures,
    )

pub returns-in-Later-clause-once : goal.returns-in-Later-clause-once
returns-in-Later-clause-once g c =
    subst (λ (got : Got). ServesOnce g.K.ChannelPort c.args.line c.args.at got c.told_for.result c.args.channel.now.part c.serve.new.self.part) (sym c.in-Later.is)
    (c.serve.result, c.serve.ensures.serves, c.told_for.ensures)
