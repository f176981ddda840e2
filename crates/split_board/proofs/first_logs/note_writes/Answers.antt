use Rattle.std.proofs.Common.{[], ◌∷◌, ◌++◌, ◌≡◌, ◌∙◌, ◌+◌, ◌-◌, ◌<◌, ℕ, List, slice_get, Some, ap, arith, subst, sym}
use Rattle.std.proofs.lemmas.Option.{slice_get_read}
use Rattle.line_memory.specs.Parts.{AreBefore, numbered}
use Rattle.channel_log.specs.Log.{LogNote, log_tells}
use Rattle.channel_log.specs.Seats.{AllLogs, OneLog}
use Rattle.split_board.specs.FirstLogs.{TellWrites, channel_by}
use Rattle.split_board.proofs.Wrote.{number_above, seats_noted, stands_at, told_noted}
use Rattle.split_board.proofs.first_logs.note_writes.Goals.{After-index_mut}
use Rattle.split_board.proofs.first_logs.note_writes.Goals as goal

module _ (c : After-index_mut) where
  abbrev count : ℕ
  count = c.loop-number.number - c.args.from

  on : c.channel_of-channel.result ≡ channel_by c.args.lines.now c.in-Some.write.line
  on = c.channel_of-channel.ensures

  less : c.channel_of-channel.result < 8
  less = subst (λ (n : ℕ). n < 8) (sym on) (c.requires.eight c.in-Some.write.line)

  at : slice_get c.loop-number.seats.items c.channel_of-channel.result ≡ Some c.index_mut.result.now
  at = slice_get_read c.loop-number.seats.items 8 c.channel_of-channel.result c.index_mut.result.now (sym c.loop-number.invariant.seats.seats_are) less c.index_mut.ensures.value

  next : slice_get c.args.history.now.writes count ≡ Some c.in-Some.write
  next = ap (λ (n : ℕ). slice_get c.args.history.now.writes (c.loop-number.number - n)) c.requires.from
      ∙ stands_at c.args.history.now.start c.loop-number.number c.args.history.now.writes c.in-Some.write (omega (arith, c.requires.from, c.loop-number.auto.number)) (sym c.accepted_write.ensures ∙ c.in-Some.is)

  number_is : c.loop-number.number ≡ c.args.history.now.start + count
  number_is = omega (arith, c.requires.from, c.loop-number.auto.number)

pub write-requires-clause-number : goal.write-requires-clause-number
write-requires-clause-number c =
    let seen = goal.at.write-requires-clause-number c in let it = seen.After-index_mut in
    subst (λ (n : ℕ). AreBefore n (log_tells c.index_mut.result.now.log).written) (sym (number_is it))
    (number_above c.loop-number.known c.loop-number.seats.items c.loop-number.invariant.seats c.channel_of-channel.result (less it) c.index_mut.result.now (at it) c.args.lines.now c.args.history.now (count it)
    c.args.known.now.logs c.loop-number.invariant.told (omega (arith, c.requires.from, c.requires.to, c.loop-number-test.true)))

pub loop-number-preserved : goal.loop-number-preserved
loop-number-preserved c =
    let seen = goal.at.loop-number-preserved c in let it = seen.After-index_mut in
    let known = c.loop-number.known in let seats = c.loop-number.seats.items in let have = c.loop-number.invariant.seats in
    let channel = c.channel_of-channel.result in let seat = c.index_mut.result.now in let new = c.write.new.self in let new_seat = c.write.new.seat in
    let same : new_seat ≡ record seat { log = new_seat.log } =
    c.write.ensures.noted.seat_is ∙ ap (λ (log : List LogNote). record seat { log = log }) (sym (ap (λ (s : OneLog). s.log) c.write.ensures.noted.seat_is)) in
    let more : count it + 1 ≡ c.loop-number.number + 1 - c.args.from = omega (arith, c.loop-number.auto.number) in
    record {
      table = ap (λ (f : AllLogs). f.table) c.write.ensures.noted.front_is ∙ c.loop-number.invariant.table;
      seats = seats_noted known seats have channel (less it) seat (at it) new new_seat new_seat.log same c.write.ensures.noted.front_is;
      told = subst (λ (n : ℕ). TellWrites c.args.lines.now c.args.history.now n c.args.known.now.logs new.logs) more
          (told_noted known seats have channel (less it) seat (at it) new new_seat new_seat.log same c.write.ensures.noted.front_is c.args.lines.now c.args.history.now (count it) c.args.known.now.logs
          c.loop-number.invariant.told c.in-Some.write (next it) (on it)
          (subst (λ (n : ℕ). log_tells new_seat.log ≡ record (log_tells seat.log) { written = (log_tells seat.log).written ++ numbered n c.in-Some.write ∷ []; waits = (log_tells seat.log).waits }) (number_is it) c.write.ensures.told));
    }
