use Rattle.std.proofs.Common.{◌≡◌, ◌∙◌, Bool, ap, subst, sym}
use Rattle.arm_state.specs.Modes.{has_ended}
use Rattle.split_board.specs.FirstLogs.{AreFirstLogs, AreFirstPorts}
use Rattle.split_board.proofs.Noted.{first_logs, first_slots}
use Rattle.split_board.proofs.dealing.begin_channels.Goals as goal

pub channels_of-requires-clause-first : goal.channels_of-requires-clause-first
channels_of-requires-clause-first g c =
    let L = g.K.ChannelPort in let P = g.B.PartsName in let hold = c.args.terms.now.hold in let ended = c.has_ended-ended.result in let ports = c.args.ports.items in
    let table = c.args.lines.now in let history = c.args.history.now in let known = c.note_writes.new.known in
    let ended_is : ended ≡ has_ended c.args.split.now.front.mode = c.has_ended-ended.ensures ∙ ap has_ended c.mode.ensures in
    first_slots L hold ended ports P table history known c.note_writes.new.seats.items c.note_writes.ensures.seats (c.note_writes.ensures.table ∙ c.requires.logs)
    (first_logs L hold ended ports c.deal_seats.new.known.logs c.deal_seats.ensures.told table history known.logs c.note_writes.ensures.seats.logs_are c.note_writes.ensures.told)
    (subst (λ (b : Bool). AreFirstPorts L P b table history hold ports) (sym ended_is) c.requires.ports)

pub returns-clause-first : goal.returns-clause-first
returns-clause-first g c =
    let L = g.K.ChannelPort in let hold = c.args.terms.now.hold in let ended = c.has_ended-ended.result in let ports = c.args.ports.items in
    let table = c.args.lines.now in let history = c.args.history.now in let known = c.note_writes.new.known in
    subst (λ (b : Bool). AreFirstLogs L table history hold b ports known.logs) (c.has_ended-ended.ensures ∙ ap has_ended c.mode.ensures)
    (first_logs L hold ended ports c.deal_seats.new.known.logs c.deal_seats.ensures.told table history known.logs c.note_writes.ensures.seats.logs_are c.note_writes.ensures.told)
