-- A channel is settled.
use Rattle.std.proofs.Common.{List, Some, [], ap, refl, subst, sym, ◌++◌, ◌∙◌, ◌∷◌, ◌≡◌}
use Rattle.std.proofs.Math.Logic.{∥∥₁_elim, ∥∥₁_map, ∥∥₁_prop}
use Rattle.channel_locks.specs.Slots.{IsSlotKept}
use Rattle.channel_locks.specs.PortMakes.{make_of}
use Rattle.channel_log.specs.Log.{IsLogOf, LogNote, log_tells, note_of}
use Rattle.channel_log.specs.ReadLines.{ReadsHaveLines}
use Rattle.channel_log.specs.Seats.{AllLogs, OneLog}
use Rattle.channel_log.specs.declared.entry.LogEntry.TheVariants.{Looked}
use Rattle.board_desk.specs.Answering.{Settles, SettlesPart}
use Rattle.board_desk.specs.Views.{desk_of}
use Rattle.board_desk.proofs.Keeping.{kept_settled}
use Rattle.board_desk.proofs.Lending.{channel_due, due_noted, due_part, goes_on, returned_out, told_reads}
use Rattle.board_desk.proofs.Noted.{front_noted, logs_noted, seat_noted, still_of, waits_told}
use Rattle.board_desk.proofs.Settled.{comes_of_none}
use Rattle.board_desk.proofs.desk.Desk.settle.Given.{Over}
use Rattle.board_desk.proofs.desk.Desk.settle.Goals.{After-look_at}
use Rattle.board_desk.proofs.desk.Desk.settle.Goals as goal

pub returns-in_default-clause-settles : goal.returns-in_default-clause-settles
returns-in_default-clause-settles g c = λ m s. ∣ record { seen = m; comes = comes_of_none _ c.args.channel.now.number _; stands = s } ∣₁

pub take_back-requires : goal.take_back-requires
take_back-requires g c =
    let slot = c.args.channel.now in
    let desk = c.args.self.now in
    record {
      out = returned_out g.B.PartsName g.K.ChannelPort (desk_of g.K.ChannelPort g.D.SaveDevice g.E.Energy g.B.BoardName g.B.PartsName desk) c.in-Some.part c.args.channel.now.number slot.seat.log desk.kept.stands
          (due_part g.B.PartsName g.K.ChannelPort slot.part c.in-Some.part c.args.channel.now.number slot.seat.log c.in-Some.is slot.kept.part_is) c.compare.ensures.few;
    }

module _ (g : Over) (c : After-look_at g) where
  abbrev note : LogNote
  note = note_of Looked (g.K.ChannelPort.view c.take_back.new.part.port).waits

  of : IsLogOf c.args.self.now.known.logs c.args.channel.now.number c.args.channel.now.seat.log
  of = subst (λ k. IsLogOf c.args.self.now.known.logs k c.args.channel.now.seat.log) c.args.channel.now.kept.channel_is c.compare.ensures.agreed

  settles : Settles g.B.PartsName c.args.channel.now.number (desk_of g.K.ChannelPort g.D.SaveDevice g.E.Energy g.B.BoardName g.B.PartsName c.args.self.now)
      (record (desk_of g.K.ChannelPort g.D.SaveDevice g.E.Energy g.B.BoardName g.B.PartsName c.args.self.now) { split = c.take_back.new.front; logs = c.look_at.new.known.logs })
  settles =
      let slot = c.args.channel.now in
      goes_on g.B.PartsName g.K.ChannelPort (desk_of g.K.ChannelPort g.D.SaveDevice g.E.Energy g.B.BoardName g.B.PartsName c.args.self.now) c.take_back.new.front c.in-Some.part c.take_back.new.part c.args.channel.now.number slot.seat.log
      c.take_back.ensures.looks c.take_back.ensures.front c.take_back.ensures.costs c.take_back.ensures.port c.look_at.ensures.most of
      (due_part g.B.PartsName g.K.ChannelPort slot.part c.in-Some.part c.args.channel.now.number slot.seat.log c.in-Some.is slot.kept.part_is) c.look_at.new.known.logs
      (logs_noted note c.compare.new.self c.args.self.now.known c.look_at.new.known c.compare.new.seat slot.seat c.look_at.new.seat c.look_at.ensures.noted c.compare.ensures.front c.compare.ensures.seat c.args.channel.now.number slot.kept.channel_is)

  -- both seats know the log with the note
  still : IsLogOf c.look_at.new.known.logs c.args.channel.now.number c.look_at.new.seat.log
  still = still_of note c.compare.new.self c.args.self.now.known c.look_at.new.known c.compare.new.seat c.args.channel.now.seat c.look_at.new.seat c.look_at.ensures.noted c.compare.ensures.front c.compare.ensures.seat c.args.channel.now.number c.args.channel.now.kept.channel_is of

  reads : ∥ ReadsHaveLines g.B.PartsName.base (log_tells (c.args.channel.now.seat.log ++ note ∷ [])) ∥₁
  reads =
      let desk = c.args.self.now in
      subst (λ (l : List LogNote). ∥ ReadsHaveLines g.B.PartsName.base (log_tells l) ∥₁)
      (ap (λ (s : OneLog). s.log) (seat_noted note c.compare.new.self desk.known c.look_at.new.known c.compare.new.seat c.args.channel.now.seat c.look_at.new.seat c.look_at.ensures.noted c.compare.ensures.front c.compare.ensures.seat))
      (told_reads g.B.PartsName (record (desk_of g.K.ChannelPort g.D.SaveDevice g.E.Energy g.B.BoardName g.B.PartsName desk) { split = c.take_back.new.front; logs = c.look_at.new.known.logs }) c.args.channel.now.number c.look_at.new.seat.log
      (∥∥₁_elim desk.kept.stands ∥∥₁_prop (λ s. ∥∥₁_map (settles s.0 s.1) (λ on. (on.seen, on.stands)))) still)

pub invariant_of-channel-2 : goal.invariant_of-channel-2
invariant_of-channel-2 g c =
    let L = g.K.ChannelPort in
    let slot = c.args.channel.now in
    let later = c.take_back.new.part in
    let at = goal.at.invariant_of-channel-2 g c in
    record {
      kept = subst (λ (s : OneLog). IsSlotKept L g.B.PartsName (Some later) s c.args.channel.now.number)
          (sym (seat_noted (note g at.After-look_at) c.compare.new.self c.args.self.now.known c.look_at.new.known c.compare.new.seat slot.seat c.look_at.new.seat c.look_at.ensures.noted c.compare.ensures.front c.compare.ensures.seat))
          (record {
            table = slot.kept.table;
            channel_is = slot.kept.channel_is;
            part_is = due_noted g.B.PartsName L Looked c.in-Some.part later c.args.channel.now.number slot.seat.log c.take_back.ensures.stands (record { rise = c.always.ensures }) tt (ap (λ p. make_of (L.view p)) c.take_back.ensures.port)
                (reads g at.After-look_at) (due_part g.B.PartsName L slot.part c.in-Some.part c.args.channel.now.number slot.seat.log c.in-Some.is slot.kept.part_is);
          });
    }

pub invariant_of-self-clause-kept : goal.invariant_of-self-clause-kept
invariant_of-self-clause-kept g c =
    let desk = c.args.self.now in
    let slot = c.args.channel.now in
    let at = goal.at.invariant_of-self-clause-kept g c in
    kept_settled g.B.BoardName g.B.PartsName (desk_of g.K.ChannelPort g.D.SaveDevice g.E.Energy g.B.BoardName g.B.PartsName desk) _ desk.seat _ desk.logs desk.known.table desk.kept c.take_back.new.front c.look_at.new.known.logs
    c.look_at.new.known.table c.take_back.ensures.front c.take_back.ensures.costs
    (ap (λ (f : AllLogs). f.table) (front_noted (note g at.After-look_at) c.compare.new.self desk.known c.look_at.new.known c.compare.new.seat slot.seat c.look_at.new.seat c.look_at.ensures.noted c.compare.ensures.front c.compare.ensures.seat))
    c.args.channel.now.number (settles g at.After-look_at)

pub returns-clause-settles : goal.returns-clause-settles
returns-clause-settles g c = let at = goal.at.returns-clause-settles g c in settles g at.After-look_at

pub returns-clause-settled : goal.returns-clause-settled
returns-clause-settled g c =
    let slot = c.args.channel.now in
    let part = c.in-Some.part in
    let later = c.take_back.new.part in
    let at = goal.at.returns-clause-settled g c in
    let here : later.channel ≡ c.args.channel.now.number = c.take_back.ensures.channel ∙ channel_due g.B.PartsName g.K.ChannelPort part c.args.channel.now.number slot.seat.log (due_part g.B.PartsName g.K.ChannelPort slot.part part c.args.channel.now.number slot.seat.log c.in-Some.is slot.kept.part_is) in
    record {
      taken = c.take_back.ensures.none;
      waits = waits_told (note g at.After-look_at) c.compare.new.self c.args.self.now.known c.look_at.new.known c.compare.new.seat slot.seat c.look_at.new.seat c.look_at.ensures.noted c.compare.ensures.front c.compare.ensures.seat;
      agreed = subst (λ k. IsLogOf c.look_at.new.known.logs k c.look_at.new.seat.log) (sym here) (still g at.After-look_at);
    }

pub returns-clause-part : goal.returns-clause-part
returns-clause-part g c =
    let did = c.take_back.ensures in
    subst (λ before. SettlesPart g.K.ChannelPort before (Some c.take_back.new.part)) (sym c.in-Some.is) (c.take_back.new.part, refl, record { channel = did.channel; port = did.port; ended = did.ended })
