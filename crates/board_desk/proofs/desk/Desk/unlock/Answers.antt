-- What lay behind the channels' locks.
use Rattle.std.proofs.Common.{refl, subst, sym}
use Rattle.std.specs.Arc.{arc_value}
use Rattle.channel_log.specs.Seats.{AllLogs}
use Rattle.board_desk.specs.Desk.{desk_view}
use Rattle.board_desk.specs.Kept.{IsDeskKept}
use Rattle.board_desk.proofs.KeptWhole.{eight_logs}
use Rattle.board_desk.proofs.desk.Desk.unlock.Goals as goal

pub into_inner-requires-clause-logs : goal.into_inner-requires-clause-logs
into_inner-requires-clause-logs g c = c.args.self.now.kept.logs_is

pub into_inner-requires-clause-known : goal.into_inner-requires-clause-known
into_inner-requires-clause-known g c = c.args.self.now.kept.known_is

pub into_inner-requires-clause-eight : goal.into_inner-requires-clause-eight
into_inner-requires-clause-eight g c = eight_logs g.K.ChannelPort g.B.BoardName g.B.PartsName _ _ _ _ _ _ c.args.self.now.kept

pub invariant_of-self-clause-kept : goal.invariant_of-self-clause-kept
invariant_of-self-clause-kept g c =
    let desk = c.args.self.now in
    subst (λ (known : AllLogs). IsDeskKept g.B.BoardName g.B.PartsName (desk_view desk.split desk.terms (g.D.SaveDevice.state desk.device) (g.E.Energy.gauge desk.energy) desk.history known.logs) (arc_value desk.marks) desk.seat desk.tally.book.total desk.logs known.table)
    (sym c.into_inner.ensures.known) desk.kept

pub returns-clause-same : goal.returns-clause-same
returns-clause-same g c = record {
  front = refl;
  costs = refl;
  terms = refl;
  room = refl;
  device = refl;
  energy = refl;
  history = refl;
  marks = refl;
  seat = refl;
  tally = refl;
  logs = refl;
}
