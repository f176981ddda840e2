use Rattle.std.proofs.Common.{◌≡◌, ◌-◌}
use Rattle.channel_log.specs.Log.{log_tells}
use Rattle.split_board.specs.FirstLogs.{HaveSeats, TellWrites}
use Rattle.split_board.proofs.first_logs.note_writes.Given as goal

abbrev pub ghosts-write : goal.ghosts-write
ghosts-write a = record { waits = (log_tells a.seat.now.log).waits }

-- the writes so far are noted
abbrev pub invariant-loop-number : goal.invariant-loop-number
invariant-loop-number l = record {
  table : l.known.table ≡ l.logs;
  seats : HaveSeats 8 l.known l.seats.items;
  told : TellWrites l.lines l.history (l.number - l.from) l.fn.known.logs l.known.logs;
}
