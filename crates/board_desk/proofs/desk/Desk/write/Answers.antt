-- A host writes.
use Rattle.std.proofs.Common.{Err, IfOk, Ok, Result, Some, ap, arith, length, refl, subst, sym, ℕ, ◌<◌, ◌∙◌, ◌≡◌}
use Rattle.std.proofs.Math.Logic.{∥∥₁_map}
use Rattle.std.specs.Arc.{arc_value}
use Rattle.atomic_table.specs.Seated.{TableId}
use Rattle.channel_locks.specs.declared.parts_name.PartsName.{Ghosts as PartsGhosts}
use Rattle.channel_locks.specs.Slots.{IsPartWhereDue, IsSlotKept}
use Rattle.board_hosts.specs.SeenMarks.{seen_marks}
use Rattle.nv_machine.specs.Rising.{added}
use Rattle.nv_machine.specs.State.{Machine}
use Rattle.arm_state.specs.declared.refusal.WriteRefusal.{WriteRefusal}
use Rattle.channel_log.specs.Log.{IsLogOf, log_tells}
use Rattle.line_memory.specs.History.{Recorded}
use Rattle.line_memory.specs.Parts.{AreBefore}
use Rattle.module_core.specs.Fronts.{AcceptsOne}
use Rattle.module_core.specs.declared.front.Front.{Front}
use Rattle.nv_machine.specs.declared.events.Accepted.{Accepted}
use Rattle.nv_machine.specs.declared.events.Event.{Event}
use Rattle.nv_machine.specs.declared.events.Reply.{Reply}
use Rattle.split_module.specs.Lending.{WroteOn}
use Rattle.board_desk.specs.Answering.{HasSettled, IsSettledPart}
use Rattle.board_desk.specs.Desk.{DeskStands, DeskView, shape_at}
use Rattle.board_desk.specs.Views.{desk_of}
use Rattle.board_desk.proofs.Asked.{accepted_before, asked_has, few_out, has_channel, in_order, lines_are, many_recorded, part_ended, part_lines, part_place, part_seen, waiting_below}
use Rattle.board_desk.proofs.Followed.{Follows, behind}
use Rattle.board_desk.proofs.Keeping.{kept_after}
use Rattle.board_desk.proofs.Lending.{IsDue, channel_due, due_part, none_due}
use Rattle.board_desk.proofs.Wrote.{IsNotedWrite, Written, elsewhere_noted, follows, has_room, more_accepted, same_terms, shows_no_more, slot_noted, table_noted}
use Rattle.board_desk.proofs.desk.Desk.write.Given.{Over}
use Rattle.board_desk.proofs.desk.Desk.write.Goals.{After-always, After-note, After-note_write}
use Rattle.board_desk.proofs.Quiet.{puts_write, refused_write}
use Rattle.board_desk.proofs.desk.Desk.write.Goals as goal

pub unreachable-requires : goal.unreachable-requires
unreachable-requires g c =
    let slot = c.settle.new.channel in
    let beyond = none_due g.B.PartsName g.K.ChannelPort slot.part c.args.channel.now.number slot.seat.log c.in_default.is (subst (λ n. ∥ IsPartWhereDue g.K.ChannelPort g.B.PartsName slot.part n slot.seat.log ∥₁) c.settle.ensures.number slot.kept.part_is) in
    let has = asked_has g.B.PartsName c.settle.new.self.split.costs c.args.write.line c.args.channel.now.number c.settle.new.self.kept.shape c.requires.asked in
    absurd (omega (arith, beyond, has))

module _ (g : Over) (c : After-always g) where
  abbrev mid : DeskView
  mid = desk_of g.K.ChannelPort g.D.SaveDevice g.E.Energy g.B.BoardName g.B.PartsName c.settle.new.self

  due : IsDue g.B.PartsName g.K.ChannelPort c.in-Some.part c.args.channel.now.number c.settle.new.channel.seat.log
  due = let slot = c.settle.new.channel in due_part g.B.PartsName g.K.ChannelPort slot.part c.in-Some.part c.args.channel.now.number slot.seat.log c.in-Some.is (subst (λ n. ∥ IsPartWhereDue g.K.ChannelPort g.B.PartsName slot.part n slot.seat.log ∥₁) c.settle.ensures.number slot.kept.part_is)

  settled : IsSettledPart g.K.ChannelPort c.settle.new.self.known.logs c.in-Some.part c.settle.new.channel.seat.log
  settled = subst (λ p. HasSettled g.K.ChannelPort c.settle.new.self.known.logs p c.settle.new.channel.seat.log) c.in-Some.is c.settle.ensures.settled

  own : c.in-Some.part.channel ≡ c.args.channel.now.number
  own = channel_due g.B.PartsName g.K.ChannelPort c.in-Some.part c.args.channel.now.number c.settle.new.channel.seat.log due

  of : IsLogOf c.settle.new.self.known.logs c.args.channel.now.number c.settle.new.channel.seat.log
  of = subst (λ k. IsLogOf c.settle.new.self.known.logs k c.settle.new.channel.seat.log) own settled.agreed

pub write_on-reply-requires-clause-few : goal.write_on-reply-requires-clause-few
write_on-reply-requires-clause-few g c = let at = goal.at.write_on-reply-requires-clause-few g c in few_out g.B.PartsName (mid g at.After-always) c.settle.new.self.kept.stands

pub write_on-reply-requires-clause-lines : goal.write_on-reply-requires-clause-lines
write_on-reply-requires-clause-lines g c =
    let at = goal.at.write_on-reply-requires-clause-lines g c in
    part_lines g.B.PartsName (mid g at.After-always) c.settle.new.self.kept.stands g.K.ChannelPort c.in-Some.part c.args.channel.now.number c.settle.new.channel.seat.log (due g at.After-always) (of g at.After-always)

pub write_on-reply-requires-clause-here : goal.write_on-reply-requires-clause-here
write_on-reply-requires-clause-here g c = λ less.
    let at = goal.at.write_on-reply-requires-clause-here g c in
    let stands = c.settle.new.self.kept.stands in
    part_place g.B.PartsName (mid g at.After-always) stands g.K.ChannelPort c.in-Some.part c.args.channel.now.number c.settle.new.channel.seat.log (due g at.After-always) (of g at.After-always) c.args.write.line
    (c.requires.asked.here (subst (λ n. c.args.write.line < n) (lines_are g.B.PartsName (mid g at.After-always) stands) less))

pub write_on-reply-requires-clause-ended : goal.write_on-reply-requires-clause-ended
write_on-reply-requires-clause-ended g c =
    let at = goal.at.write_on-reply-requires-clause-ended g c in
    part_ended g.B.PartsName (mid g at.After-always) c.settle.new.self.kept.stands g.K.ChannelPort c.in-Some.part c.args.channel.now.number c.settle.new.channel.seat.log (due g at.After-always) (of g at.After-always)

pub write_on-reply-requires-clause-below : goal.write_on-reply-requires-clause-below
write_on-reply-requires-clause-below g c =
    let at = goal.at.write_on-reply-requires-clause-below g c in
    waiting_below g.B.PartsName (mid g at.After-always) c.settle.new.self.kept.stands g.K.ChannelPort c.in-Some.part c.args.channel.now.number c.settle.new.channel.seat.log (due g at.After-always) (of g at.After-always)

-- an accepted write has the number of all before it
numbers : (result : Result Accepted WriteRefusal) (accepted : ℕ) (before : ℕ → Type 0) → IfOk result (λ a. a.number ≡ accepted) → before accepted → IfOk result (λ a. before a.number)
numbers (Ok a) accepted before is at = subst before (sym is) at
numbers (Err refusal) accepted before is at = tt

number_of : (result : Result Accepted WriteRefusal) (old new : Front) → IfOk result (λ a. AcceptsOne old a new) → IfOk result (λ a. a.number ≡ old.accepted)
number_of (Ok a) old new accepts = accepts.number
number_of (Err refusal) old new accepts = tt

pub note_write-requires-clause-number : goal.note_write-requires-clause-number
note_write-requires-clause-number g c =
    let at = goal.at.note_write-requires-clause-number g c in
    let front = c.settle.new.self.split.front in
    let log = c.settle.new.channel.seat.log in
    numbers c.write_on-reply.result front.accepted (λ n. AreBefore n (log_tells log).written) (number_of c.write_on-reply.result front c.write_on-reply.new.front.front c.write_on-reply.ensures.accepts)
    (accepted_before g.B.PartsName (mid g at.After-always) c.settle.new.self.kept.stands g.K.ChannelPort c.in-Some.part c.args.channel.now.number log (due g at.After-always) (of g at.After-always))

-- The write was made and noted.
module _ (g : Over) (c : After-note g) where
  abbrev P : PartsGhosts g.row.B.Denot
  P = g.B.PartsName

  abbrev before : DeskView
  before = desk_of g.K.ChannelPort g.D.SaveDevice g.E.Energy g.B.BoardName g.B.PartsName c.settle.new.self

  abbrev now : DeskView
  now = record before { split = c.write_on-reply.new.front; history = c.note.new.history; logs = c.note_write.new.known.logs }

  part_due : IsDue P g.K.ChannelPort c.in-Some.part c.args.channel.now.number c.settle.new.channel.seat.log
  part_due = let slot = c.settle.new.channel in due_part P g.K.ChannelPort slot.part c.in-Some.part c.args.channel.now.number slot.seat.log c.in-Some.is (subst (λ n. ∥ IsPartWhereDue g.K.ChannelPort g.B.PartsName slot.part n slot.seat.log ∥₁) c.settle.ensures.number slot.kept.part_is)

  part_settled : IsSettledPart g.K.ChannelPort c.settle.new.self.known.logs c.in-Some.part c.settle.new.channel.seat.log
  part_settled = subst (λ p. HasSettled g.K.ChannelPort c.settle.new.self.known.logs p c.settle.new.channel.seat.log) c.in-Some.is c.settle.ensures.settled

  part_own : c.in-Some.part.channel ≡ c.args.channel.now.number
  part_own = channel_due P g.K.ChannelPort c.in-Some.part c.args.channel.now.number c.settle.new.channel.seat.log part_due

  part_of : IsLogOf c.settle.new.self.known.logs c.args.channel.now.number c.settle.new.channel.seat.log
  part_of = subst (λ k. IsLogOf c.settle.new.self.known.logs k c.settle.new.channel.seat.log) part_own part_settled.agreed

  written : Written c.write_on-reply.result c.settle.new.self.split c.write_on-reply.new.front
  written = (c.write_on-reply.ensures.accepts, c.write_on-reply.ensures.same_front)

  is_noted : IsNotedWrite g.K.ChannelPort P c.args.channel.now.number c.in-Some.part c.write_on-reply.new.part c.args.write c.settle.new.self.known c.note_write.new.known c.settle.new.channel.seat c.note_write.new.seat (c.settle.new.channel.kept.channel_is ∙ c.settle.ensures.number)
      c.write_on-reply.result
  is_noted = record { noted = c.note_write.ensures.noted; front_is = c.note_write.ensures.known; seat_is = c.note_write.ensures.seat }

  -- it is one event of whichever machine the desk stood for
  followed : (m : Machine) → DeskStands P before m → Follows P (Event.Write c.args.write) (Reply.Write c.write_on-reply.result) before now m
  followed m s =
      let desk = c.settle.new.self in
      let log = c.settle.new.channel.seat.log in
      let part = c.in-Some.part in
      let seen = part_seen P before desk.kept.stands g.K.ChannelPort part c.args.channel.now.number log part_due part_of part_settled.waits in
      let wrote = c.write_on-reply.ensures.writes (shape_at P before) m before.logs log s.stands part_settled.agreed seen (λ less. c.requires.asked.here less ∙ sym part_own) in
      follows g.K.ChannelPort P c.args.channel.now.number part c.write_on-reply.new.part c.args.write desk.known c.note_write.new.known c.settle.new.channel.seat c.note_write.new.seat (c.settle.new.channel.kept.channel_is ∙ c.settle.ensures.number)
      before m s desk.kept.shape now c.write_on-reply.ensures.costs refl refl refl (has_channel P before desk.kept.stands g.K.ChannelPort part c.args.channel.now.number log part_due part_of) (sym part_own) refl refl
      c.write_on-reply.result written is_noted wrote c.note_write.ensures.most c.note.ensures.history

pub invariant_of-channel : goal.invariant_of-channel
invariant_of-channel g c =
    let at = goal.at.invariant_of-channel g c in
    let slot = c.settle.new.channel in
    let front = c.settle.new.self.split.front in
    let before = numbers c.write_on-reply.result front.accepted (λ n. AreBefore n (log_tells slot.seat.log).written) (number_of c.write_on-reply.result front c.write_on-reply.new.front.front c.write_on-reply.ensures.accepts)
    (accepted_before g.B.PartsName (mid g at.After-always) c.settle.new.self.kept.stands g.K.ChannelPort c.in-Some.part c.args.channel.now.number slot.seat.log (due g at.After-always) (of g at.After-always)) in
    let stands = c.settle.new.self.kept.stands in
    let desk = mid g at.After-always in
    let seen = part_seen g.B.PartsName desk stands g.K.ChannelPort c.in-Some.part c.args.channel.now.number slot.seat.log (due g at.After-always) (of g at.After-always) (settled g at.After-always).waits in
    let wrote : ∥ ((m : Machine) × DeskStands g.B.PartsName desk m × WroteOn g.K.ChannelPort (shape_at g.B.PartsName desk) desk.split c.in-Some.part c.args.write c.write_on-reply.result c.write_on-reply.new.front c.write_on-reply.new.part m desk.logs slot.seat.log) ∥₁ =
    ∥∥₁_map stands (λ s. (s.0, s.1, c.write_on-reply.ensures.writes (shape_at g.B.PartsName desk) s.0 desk.logs slot.seat.log s.1.stands (settled g at.After-always).agreed seen (λ less. c.requires.asked.here less ∙ sym (own g at.After-always)))) in
    record {
      kept = subst (λ n. IsSlotKept g.K.ChannelPort g.B.PartsName (Some c.write_on-reply.new.part) c.note_write.new.seat n) (sym c.settle.ensures.number) (slot_noted g.K.ChannelPort g.B.PartsName c.args.channel.now.number c.in-Some.part c.write_on-reply.new.part c.args.write c.settle.new.self.known c.note_write.new.known slot.seat c.note_write.new.seat (slot.kept.channel_is ∙ c.settle.ensures.number) c.write_on-reply.result
          (record { noted = c.note_write.ensures.noted; front_is = c.note_write.ensures.known; seat_is = c.note_write.ensures.seat })
          c.write_on-reply.ensures.stands c.write_on-reply.ensures.same_part c.write_on-reply.ensures.puts before (record { rise = c.always.ensures }) (due g at.After-always) slot.kept.table
          (mid g at.After-always) c.write_on-reply.new.front wrote (own g at.After-always) (of g at.After-always));
    }

pub note-requires-clause-room : goal.note-requires-clause-room
note-requires-clause-room g c =
    let at = goal.at.note-requires-clause-room g c in
    let desk = c.settle.new.self in
    has_room c.args.write desk.split c.write_on-reply.new.front c.write_on-reply.result (c.write_on-reply.ensures.accepts, c.write_on-reply.ensures.same_front) desk.history desk.kept.room
    (many_recorded g.B.PartsName (mid g at.After-always) desk.kept.stands)

pub show-requires-clause-shown : goal.show-requires-clause-shown
show-requires-clause-shown g c =
    let at = goal.at.show-requires-clause-shown g c in
    let desk = c.settle.new.self in
    shows_no_more c.args.write desk.split c.write_on-reply.new.front c.write_on-reply.result (c.write_on-reply.ensures.accepts, c.write_on-reply.ensures.same_front) g.B.BoardName.board desk.seat desk.kept.shown
    (in_order g.B.PartsName (mid g at.After-always) desk.kept.stands)

pub invariant_of-self-clause-kept : goal.invariant_of-self-clause-kept
invariant_of-self-clause-kept g c =
    let at = goal.at.invariant_of-self-clause-kept g c in
    let desk = c.settle.new.self in
    let front = c.write_on-reply.new.front.front in
    let it = at.After-note in
    let words = arc_value desk.marks in
    kept_after g.B.BoardName g.B.PartsName (before g it) words desk.seat desk.tally.book.total desk.logs desk.known.table desk.kept (now g it) _ (length (added (Event.Write c.args.write) (Reply.Write c.write_on-reply.result))) c.note_write.new.known.table
    (same_terms c.args.write desk.split c.write_on-reply.new.front c.write_on-reply.result (written g it)) c.write_on-reply.ensures.costs refl (ap (λ (h : Recorded). h.room) c.note.ensures.history)
    (more_accepted c.args.write desk.split c.write_on-reply.new.front c.write_on-reply.result (written g it))
    (c.inform.ensures.same ∙ c.show.ensures ∙ ap (λ (b : TableId). seen_marks b front.accepted front.persisted) c.deref.ensures)
    (table_noted g.K.ChannelPort g.B.PartsName c.args.channel.now.number c.in-Some.part c.write_on-reply.new.part c.args.write desk.known c.note_write.new.known c.settle.new.channel.seat c.note_write.new.seat (c.settle.new.channel.kept.channel_is ∙ c.settle.ensures.number) c.write_on-reply.result (is_noted g it))
    (∥∥₁_map desk.kept.stands (λ s. let f = followed g it s.0 s.1 in (f.later, f.stands))) _ c.note.ensures.total

pub returns-clause-answers : goal.returns-clause-answers
returns-clause-answers g c = λ m s.
    let at = goal.at.returns-clause-answers g c in
    let it = at.After-note in
    let same = c.settle.ensures.same in
    let old = desk_of g.K.ChannelPort g.D.SaveDevice g.E.Energy g.B.BoardName g.B.PartsName c.args.self.now in
    ∥∥₁_map (c.settle.ensures.settles m s)
    (λ on.
    behind g.B.PartsName c.args.channel.now.number (Event.Write c.args.write) (Reply.Write c.write_on-reply.result) old (before g it) (now g it) m same.front same.costs (ap g.D.SaveDevice.state same.device) (ap g.E.Energy.gauge same.energy) on
    (followed g it on.seen on.stands))

pub returns-clause-rest : goal.returns-clause-rest
returns-clause-rest g c =
    let at = goal.at.returns-clause-rest g c in
    let same = c.settle.ensures.same in
    record {
      life = same_terms c.args.write c.settle.new.self.split c.write_on-reply.new.front c.write_on-reply.result (written g at.After-note) ∙ ap (λ (f : Front). f.terms) same.front;
      costs = c.write_on-reply.ensures.costs ∙ same.costs;
      terms = same.terms;
      device = same.device;
      energy = same.energy;
      marks = same.marks;
      logs = same.logs;
    }

pub returns-clause-elsewhere : goal.returns-clause-elsewhere
returns-clause-elsewhere g c = λ other apart.
    let at = goal.at.returns-clause-elsewhere g c in
    elsewhere_noted g.K.ChannelPort g.B.PartsName c.args.channel.now.number c.in-Some.part c.write_on-reply.new.part c.args.write c.settle.new.self.known c.note_write.new.known c.settle.new.channel.seat c.note_write.new.seat (c.settle.new.channel.kept.channel_is ∙ c.settle.ensures.number) c.write_on-reply.result
    (is_noted g at.After-note) other apart
    ∙ c.settle.ensures.elsewhere other apart

pub returns-clause-puts : goal.returns-clause-puts
returns-clause-puts g c =
    let reply = c.write_on-reply in
    puts_write g.K.ChannelPort c.args.channel.now.part c.settle.new.channel.part c.in-Some.part reply.new.part c.settle.ensures.part c.in-Some.is reply.ensures.issued reply.result reply.ensures.puts

pub returns-clause-keeps : goal.returns-clause-keeps
returns-clause-keeps g c =
    let reply = c.write_on-reply in
    refused_write g.K.ChannelPort c.args.channel.now.part c.settle.new.channel.part c.in-Some.part reply.new.part c.settle.ensures.part c.in-Some.is reply.result reply.ensures.same_part
