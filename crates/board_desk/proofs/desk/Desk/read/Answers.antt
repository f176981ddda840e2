-- A host reads.
use Rattle.std.proofs.Common.{Err, List, Ok, Some, [], ap, arith, refl, subst, sym, ◌++◌, ◌<◌, ◌∙◌, ◌∷◌, ◌≡◌}
use Rattle.std.proofs.Math.Logic.{∥∥₁_elim, ∥∥₁_map, ∥∥₁_prop}
use Rattle.std.specs.Arc.{arc_value}
use Rattle.atomic_table.specs.Seated.{TableId}
use Rattle.channel_locks.specs.declared.parts_name.PartsName.{Ghosts as PartsGhosts}
use Rattle.channel_locks.specs.PortMakes.{make_of}
use Rattle.channel_locks.specs.Slots.{IsPartWhereDue, IsSlotKept}
use Rattle.channel_log.specs.Log.{IsLogOf, LogNote, log_tells, note_of}
use Rattle.channel_log.specs.ReadLines.{ReadsHaveLines}
use Rattle.channel_log.specs.Seats.{AllLogs, OneLog}
use Rattle.channel_log.specs.declared.entry.LogEntry.TheVariants.{Looked}
use Rattle.channel_locks.specs.Stands.{PartStands}
use Rattle.channel_port.specs.View.{PortView}
use Rattle.board_hosts.specs.SeenMarks.{seen_marks}
use Rattle.nv_machine.specs.State.{Machine, base_of_life}
use Rattle.nv_machine.specs.declared.events.Event.{Event}
use Rattle.nv_machine.specs.declared.events.Reply.{Reply}
use Rattle.board_desk.specs.Answering.{HasSettled, IsSettledPart}
use Rattle.board_desk.specs.Desk.{DeskStands, DeskView, setup_at, shape_at}
use Rattle.board_desk.specs.Views.{desk_of}
use Rattle.board_desk.proofs.Asked.{asked_has, has_channel, lines_are, part_ended, part_lines, part_place, part_seen}
use Rattle.board_desk.proofs.Followed.{Follows, behind, read_answered, read_refused}
use Rattle.board_desk.proofs.Keeping.{kept_after}
use Rattle.board_desk.proofs.Lending.{IsDue, channel_due, due_noted, due_part, none_due, told_reads}
use Rattle.board_desk.proofs.Noted.{elsewhere_noted, front_noted, logs_noted, seat_noted, still_of}
use Rattle.board_desk.proofs.Ticketed.{ticket_of, ticket_stepped}
use Rattle.board_desk.proofs.desk.Desk.read.Given.{Over}
use Rattle.board_desk.proofs.desk.Desk.read.Goals.{After-inform, After-look_at}
use Rattle.channel_port.specs.Answers.{IsGot}
use Rattle.line_memory.specs.Memory.{after, line_of}
use Rattle.line_memory.specs.Parts.{writes_of}
use Rattle.board_desk.proofs.Quiet.{keeps_port, reads_line}
use Rattle.board_desk.proofs.desk.Desk.read.Goals as goal

pub unreachable-requires : goal.unreachable-requires
unreachable-requires g c =
    let slot = c.settle.new.channel in
    let beyond = none_due g.B.PartsName g.K.ChannelPort slot.part c.args.channel.now.number slot.seat.log c.in_default.is (subst (λ n. ∥ IsPartWhereDue g.K.ChannelPort g.B.PartsName slot.part n slot.seat.log ∥₁) c.settle.ensures.number slot.kept.part_is) in
    let has = asked_has g.B.PartsName c.settle.new.self.split.costs c.args.line c.args.channel.now.number c.settle.new.self.kept.shape c.requires.asked in
    absurd (omega (arith, beyond, has))

module _ (g : Over) (c : After-inform g) where
  abbrev P : PartsGhosts g.row.B.Denot
  P = g.B.PartsName

  abbrev mid : DeskView
  mid = desk_of g.K.ChannelPort g.D.SaveDevice g.E.Energy g.B.BoardName g.B.PartsName c.settle.new.self

  due : IsDue P g.K.ChannelPort c.in-Some.part c.args.channel.now.number c.settle.new.channel.seat.log
  due = let slot = c.settle.new.channel in due_part P g.K.ChannelPort slot.part c.in-Some.part c.args.channel.now.number slot.seat.log c.in-Some.is (subst (λ n. ∥ IsPartWhereDue g.K.ChannelPort g.B.PartsName slot.part n slot.seat.log ∥₁) c.settle.ensures.number slot.kept.part_is)

  settled : IsSettledPart g.K.ChannelPort c.settle.new.self.known.logs c.in-Some.part c.settle.new.channel.seat.log
  settled = subst (λ p. HasSettled g.K.ChannelPort c.settle.new.self.known.logs p c.settle.new.channel.seat.log) c.in-Some.is c.settle.ensures.settled

  own : c.in-Some.part.channel ≡ c.args.channel.now.number
  own = channel_due P g.K.ChannelPort c.in-Some.part c.args.channel.now.number c.settle.new.channel.seat.log due

  of : IsLogOf c.settle.new.self.known.logs c.args.channel.now.number c.settle.new.channel.seat.log
  of = subst (λ k. IsLogOf c.settle.new.self.known.logs k c.settle.new.channel.seat.log) own settled.agreed

pub read_on-requires-clause-lines : goal.read_on-requires-clause-lines
read_on-requires-clause-lines g c =
    let at = goal.at.read_on-requires-clause-lines g c in
    let it = at.After-inform in
    part_lines g.B.PartsName (mid g it) c.settle.new.self.kept.stands g.K.ChannelPort c.in-Some.part c.args.channel.now.number c.settle.new.channel.seat.log (due g it) (of g it)

pub read_on-requires-clause-here : goal.read_on-requires-clause-here
read_on-requires-clause-here g c = λ less.
    let at = goal.at.read_on-requires-clause-here g c in
    let it = at.After-inform in
    let stands = c.settle.new.self.kept.stands in
    part_place g.B.PartsName (mid g it) stands g.K.ChannelPort c.in-Some.part c.args.channel.now.number c.settle.new.channel.seat.log (due g it) (of g it) c.args.line
    (c.requires.asked.here (subst (λ n. c.args.line < n) (lines_are g.B.PartsName (mid g it) stands) less))

pub read_on-requires-clause-ended : goal.read_on-requires-clause-ended
read_on-requires-clause-ended g c =
    let at = goal.at.read_on-requires-clause-ended g c in
    let it = at.After-inform in
    part_ended g.B.PartsName (mid g it) c.settle.new.self.kept.stands g.K.ChannelPort c.in-Some.part c.args.channel.now.number c.settle.new.channel.seat.log (due g it) (of g it)

-- The read was answered, and what waits then was noted.
module _ (g : Over) (c : After-look_at g) where
  abbrev before : DeskView
  before = desk_of g.K.ChannelPort g.D.SaveDevice g.E.Energy g.B.BoardName g.B.PartsName c.settle.new.self

  abbrev now : DeskView
  now = record before { logs = c.look_at.new.known.logs }

  abbrev note : LogNote
  note = note_of Looked (g.K.ChannelPort.view c.read_on.new.part.port).waits

  part_due : IsDue g.B.PartsName g.K.ChannelPort c.in-Some.part c.args.channel.now.number c.settle.new.channel.seat.log
  part_due = let slot = c.settle.new.channel in due_part g.B.PartsName g.K.ChannelPort slot.part c.in-Some.part c.args.channel.now.number slot.seat.log c.in-Some.is (subst (λ n. ∥ IsPartWhereDue g.K.ChannelPort g.B.PartsName slot.part n slot.seat.log ∥₁) c.settle.ensures.number slot.kept.part_is)

  part_settled : IsSettledPart g.K.ChannelPort c.settle.new.self.known.logs c.in-Some.part c.settle.new.channel.seat.log
  part_settled = subst (λ p. HasSettled g.K.ChannelPort c.settle.new.self.known.logs p c.settle.new.channel.seat.log) c.in-Some.is c.settle.ensures.settled

  part_own : c.in-Some.part.channel ≡ c.args.channel.now.number
  part_own = channel_due g.B.PartsName g.K.ChannelPort c.in-Some.part c.args.channel.now.number c.settle.new.channel.seat.log part_due

  part_of : IsLogOf c.settle.new.self.known.logs c.args.channel.now.number c.settle.new.channel.seat.log
  part_of = subst (λ k. IsLogOf c.settle.new.self.known.logs k c.settle.new.channel.seat.log) part_own part_settled.agreed

  -- it is one event of whichever machine the desk stood for
  followed : (m : Machine) → DeskStands g.B.PartsName before m → ∥ Follows g.B.PartsName (Event.Read c.args.line) (Reply.Read (Ok c.in-Ok.got)) before now m ∥₁
  followed m s =
      let desk = c.settle.new.self in
      let slot = c.settle.new.channel in
      let log = slot.seat.log in
      let part = c.in-Some.part in
      let seen = part_seen g.B.PartsName before desk.kept.stands g.K.ChannelPort part c.args.channel.now.number log part_due part_of part_settled.waits in
      let logs = logs_noted note desk.known desk.known c.look_at.new.known slot.seat slot.seat c.look_at.new.seat c.look_at.ensures.noted refl refl part.channel ((slot.kept.channel_is ∙ c.settle.ensures.number) ∙ sym part_own) in
      ∥∥₁_map part_due
      (λ h.
      let here : PartStands g.K.ChannelPort part part.channel (base_of_life m.life) log =
      subst (λ b. PartStands g.K.ChannelPort part part.channel b log) (sym s.base) (subst (λ k. PartStands g.K.ChannelPort part k g.B.PartsName.base log) (sym part_own) h.1.stands) in
      let read = c.in-Ok.ensures.reads (shape_at g.B.PartsName before) m before.logs log s.stands part_settled.agreed seen here (λ less. c.requires.asked.here less ∙ sym part_own) in
      read_answered g.B.PartsName before m s desk.kept.shape now refl refl refl refl refl refl refl g.K.ChannelPort part c.read_on.new.part log
      (has_channel g.B.PartsName before desk.kept.stands g.K.ChannelPort part c.args.channel.now.number log part_due part_of) c.args.line c.in-Ok.got read refl logs c.look_at.ensures.most refl)

  stands_now : ∥ ((m : Machine) × DeskStands g.B.PartsName now m) ∥₁
  stands_now = ∥∥₁_elim c.settle.new.self.kept.stands ∥∥₁_prop (λ s. ∥∥₁_map (followed s.0 s.1) (λ f. (f.later, f.stands)))

  reads : ∥ ReadsHaveLines g.B.PartsName.base (log_tells (c.settle.new.channel.seat.log ++ note ∷ [])) ∥₁
  reads =
      let desk = c.settle.new.self in
      let seat = c.settle.new.channel.seat in
      let own = (c.settle.new.channel.kept.channel_is ∙ c.settle.ensures.number) in
      subst (λ (l : List LogNote). ∥ ReadsHaveLines g.B.PartsName.base (log_tells l) ∥₁) (ap (λ (s : OneLog). s.log) (seat_noted note desk.known desk.known c.look_at.new.known seat seat c.look_at.new.seat c.look_at.ensures.noted refl refl))
      (told_reads g.B.PartsName now c.args.channel.now.number c.look_at.new.seat.log stands_now (still_of note desk.known desk.known c.look_at.new.known seat seat c.look_at.new.seat c.look_at.ensures.noted refl refl c.args.channel.now.number own part_of))

pub invariant_of-channel : goal.invariant_of-channel
invariant_of-channel g c =
    let at = goal.at.invariant_of-channel g c in
    let it = at.After-look_at in
    let L = g.K.ChannelPort in
    let slot = c.settle.new.channel in
    let later = c.read_on.new.part in
    record {
      kept = subst (λ n. IsSlotKept L g.B.PartsName (Some later) c.look_at.new.seat n) (sym c.settle.ensures.number) (subst (λ (s : OneLog). IsSlotKept L g.B.PartsName (Some later) s c.args.channel.now.number)
          (sym (seat_noted (note g it) c.settle.new.self.known c.settle.new.self.known c.look_at.new.known slot.seat slot.seat c.look_at.new.seat c.look_at.ensures.noted refl refl))
          (record {
            table = slot.kept.table;
            channel_is = (slot.kept.channel_is ∙ c.settle.ensures.number);
            part_is = due_noted g.B.PartsName L Looked c.in-Some.part later c.args.channel.now.number slot.seat.log c.in-Ok.ensures.stands (record { rise = c.always.ensures }) tt (ap (λ (v : PortView). make_of v) c.in-Ok.ensures.rest) (reads g it) (part_due g it);
          }));
    }

pub invariant_of-self-clause-kept : goal.invariant_of-self-clause-kept
invariant_of-self-clause-kept g c =
    let at = goal.at.invariant_of-self-clause-kept g c in
    let it = at.After-look_at in
    let desk = c.settle.new.self in
    let front = desk.split.front in
    let words = arc_value desk.marks in
    let slot = c.settle.new.channel in
    kept_after g.B.BoardName g.B.PartsName (before g it) words desk.seat desk.tally.book.total desk.logs desk.known.table desk.kept (now g it) _ 0 c.look_at.new.known.table refl refl refl refl (omega arith)
    (c.inform.ensures.same ∙ desk.kept.shown ∙ ap (λ (b : TableId). seen_marks b front.accepted front.persisted) (sym desk.kept.board))
    (ap (λ (f : AllLogs). f.table) (front_noted (note g it) desk.known desk.known c.look_at.new.known slot.seat slot.seat c.look_at.new.seat c.look_at.ensures.noted refl refl))
    (stands_now g it) _ (omega arith)

pub returns-in-Ok-clause-ok : goal.returns-in-Ok-clause-ok
returns-in-Ok-clause-ok g c = λ m s.
    let at = goal.at.returns-in-Ok-clause-ok g c in
    let it = at.After-look_at in
    let same = c.settle.ensures.same in
    let old = desk_of g.K.ChannelPort g.D.SaveDevice g.E.Energy g.B.BoardName g.B.PartsName c.args.self.now in
    ∥∥₁_elim (c.settle.ensures.settles m s) ∥∥₁_prop
    (λ on.
    ∥∥₁_map (followed g it on.seen on.stands)
    (λ f.
    behind g.B.PartsName c.args.channel.now.number (Event.Read c.args.line) (Reply.Read (Ok c.in-Ok.got)) old (before g it) (now g it) m same.front same.costs (ap g.D.SaveDevice.state same.device) (ap g.E.Energy.gauge same.energy) on f))

pub returns-in-Ok-clause-ticket : goal.returns-in-Ok-clause-ticket
returns-in-Ok-clause-ticket g c =
    let at = goal.at.returns-in-Ok-clause-ticket g c in
    let it = at.After-look_at in
    ticket_of c.in-Ok.got c.args.channel.now.number
    (∥∥₁_elim c.settle.new.self.kept.stands ∥∥₁_prop
    (λ s. ∥∥₁_map (followed g it s.0 s.1) (λ f. ticket_stepped (setup_at g.B.PartsName (before g it)) s.0 f.later c.args.line c.in-Ok.got c.args.channel.now.number f.happens.step.1 c.requires.asked.here)))

pub returns-in-Ok-clause-elsewhere : goal.returns-in-Ok-clause-elsewhere
returns-in-Ok-clause-elsewhere g c = λ other apart.
    let at = goal.at.returns-in-Ok-clause-elsewhere g c in
    let it = at.After-look_at in
    let desk = c.settle.new.self in
    let slot = c.settle.new.channel in
    elsewhere_noted (note g it) desk.known desk.known c.look_at.new.known slot.seat slot.seat c.look_at.new.seat c.look_at.ensures.noted refl refl c.args.channel.now.number (slot.kept.channel_is ∙ c.settle.ensures.number) other apart ∙ c.settle.ensures.elsewhere other apart

pub invariant_of-channel-in-Err-1 : goal.invariant_of-channel-in-Err-1
invariant_of-channel-in-Err-1 g c =
    let slot = c.settle.new.channel in
    record { kept = subst (λ part. IsSlotKept g.K.ChannelPort g.B.PartsName part slot.seat slot.number) (c.in-Some.is ∙ sym (ap Some c.in-Err.ensures.same)) slot.kept }

pub returns-in-Err-clause-err : goal.returns-in-Err-clause-err
returns-in-Err-clause-err g c = λ m s.
    let at = goal.at.returns-in-Err-clause-err g c in
    let it = at.After-inform in
    let P = g.B.PartsName in
    let same = c.settle.ensures.same in
    let desk = c.settle.new.self in
    let log = c.settle.new.channel.seat.log in
    let part = c.in-Some.part in
    let old = desk_of g.K.ChannelPort g.D.SaveDevice g.E.Energy g.B.BoardName P c.args.self.now in
    ∥∥₁_elim (c.settle.ensures.settles m s) ∥∥₁_prop
    (λ on.
    ∥∥₁_map (due g it)
    (λ h.
    let seen = part_seen P (mid g it) desk.kept.stands g.K.ChannelPort part c.args.channel.now.number log (due g it) (of g it) (settled g it).waits in
    let here : PartStands g.K.ChannelPort part part.channel (base_of_life on.seen.life) log =
    subst (λ b. PartStands g.K.ChannelPort part part.channel b log) (sym on.stands.base) (subst (λ k. PartStands g.K.ChannelPort part k P.base log) (sym (own g it)) h.1.stands) in
    let read = c.in-Err.ensures.reads (shape_at P (mid g it)) on.seen desk.known.logs log on.stands.stands (settled g it).agreed seen here (λ less. c.requires.asked.here less ∙ sym (own g it)) in
    behind P c.args.channel.now.number (Event.Read c.args.line) (Reply.Read (Err c.in-Err.refusal)) old (mid g it) (mid g it) m same.front same.costs (ap g.D.SaveDevice.state same.device) (ap g.E.Energy.gauge same.energy) on
    (read_refused P (mid g it) on.seen on.stands desk.kept.shape (mid g it) refl refl refl refl refl refl refl g.K.ChannelPort part c.read_on.new.part log
    (has_channel P (mid g it) desk.kept.stands g.K.ChannelPort part c.args.channel.now.number log (due g it) (of g it)) c.args.line c.in-Err.refusal read refl refl refl)))

pub returns-in-Ok-clause-reads : goal.returns-in-Ok-clause-reads
returns-in-Ok-clause-reads g c =
    let at = goal.at.returns-in-Ok-clause-reads g c in
    let it = at.After-look_at in
    let L = g.K.ChannelPort in
    let part = c.in-Some.part in
    let later = c.read_on.new.part in
    let log = c.settle.new.channel.seat.log in
    reads_line L c.args.channel.now.part c.settle.new.channel.part part later c.settle.ensures.part c.in-Some.is c.args.line c.args.channel.now.number _ g.B.PartsName.base log c.in-Ok.ensures.rest c.in-Ok.ensures.issued (part_own g it)
    (λ base log stands.
    subst (λ n. IsGot (line_of (after base (writes_of (log_tells log).written)) c.args.line) c.args.line n part.channel c.in-Ok.got (L.view part.port).waits (L.view later.port).waits) (sym c.accepted_by-at.ensures)
    (c.in-Ok.ensures.got base log stands))
    (∥∥₁_map (part_due g it) (λ h. h.1.stands))

pub returns-in-Err-clause-keeps : goal.returns-in-Err-clause-keeps
returns-in-Err-clause-keeps g c =
    keeps_port g.K.ChannelPort c.args.channel.now.part c.settle.new.channel.part c.in-Some.part c.read_on.new.part c.settle.ensures.part c.in-Some.is c.in-Err.ensures.same
