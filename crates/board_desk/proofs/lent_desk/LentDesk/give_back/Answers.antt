-- A channel has its port back behind a call.
use Rattle.std.proofs.Common.{ap, arith, subst, sym, ◌∙◌, ◌≡◌}
use Rattle.arm_state.specs.Modes.{has_ended}
use Rattle.channel_log.specs.Log.{log_tells}
use Rattle.channel_log.specs.Seats.{AllLogs}
use Rattle.split_module.specs.declared.front.SplitFront.{SplitFront}
use Rattle.channel_set.specs.declared.terms.PortTerms.{PortTerms}
use Rattle.std.specs.Prelude.{slice_get}
use Rattle.board_desk.specs.Loans.{ComesBack, restated, waits_of_port}
use Rattle.board_desk.proofs.Returned.{one_back}
use Rattle.board_desk.proofs.lent_desk.LentDesk.give_back.Goals as goal

pub restore-requires-clause-stays : goal.restore-requires-clause-stays
restore-requires-clause-stays g c = λ ended. c.has_ended-ended.ensures ∙ ap has_ended c.mode.ensures ∙ c.requires.stays ended

pub restore-requires-clause-due : goal.restore-requires-clause-due
restore-requires-clause-due g c =
    let rest = c.args.self.now.rest in
    subst (λ b. ∥ ComesBack g.K.ChannelPort g.B.PartsName rest.pieces.terms.hold b c.args.number (log_tells c.args.seat.now.log) rest.pieces.ports.items ∥₁) (sym (c.has_ended-ended.ensures ∙ ap has_ended c.mode.ensures)) c.requires.due

pub returns-clause-back : goal.returns-clause-back
returns-clause-back g c = λ done first of come.
    let L = g.K.ChannelPort in
    let before = c.args.self.now in
    let ports = before.rest.pieces.ports.items in
    let told = log_tells c.args.seat.now.log in
    let ended = c.has_ended-ended.ensures ∙ ap has_ended c.mode.ensures ∙ ap (λ (f : SplitFront). has_ended f.front.mode) come.front in
    let now : log_tells c.restore.new.seat.log ≡ restated done.pieces.terms.hold (has_ended done.pieces.front.front.mode) (waits_of_port L (slice_get ports c.args.number)) told =
    c.restore.ensures.told ∙ ap (λ (t : PortTerms). restated t.hold c.has_ended-ended.result (waits_of_port L (slice_get ports c.args.number)) told) come.terms
    ∙ ap (λ b. restated done.pieces.terms.hold b (waits_of_port L (slice_get ports c.args.number)) told) ended in
    record {
      front = come.front;
      terms = come.terms;
      device = come.device;
      energy = come.energy;
      history = come.history;
      table = ap (λ (f : AllLogs). f.table) c.restore.ensures.known ∙ come.table;
      count = (let count = c.restore.ensures.count in let size = c.restore.new.ports.ok.0 in omega (arith, count, size));
      room = (let room = come.room in let same = c.restore.ensures.capacity in omega (arith, room, same));
      back = one_back L done.pieces.terms.hold (has_ended done.pieces.front.front.mode) done.pieces.ports.items first.logs c.args.number ports c.restore.new.ports.items before.books.known.logs c.restore.new.known.logs c.args.seat.now.log c.restore.new.seat.log
          come.back c.restore.ensures.ports (ap (λ (f : AllLogs). f.logs) c.restore.ensures.known) of now c.restore.ensures.few;
    }
