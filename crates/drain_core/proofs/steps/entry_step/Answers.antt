use Rattle.std.proofs.Common.{Option, refl, sym, subst, ◌∙◌}
use Rattle.drain_core.proofs.Common.{EntersOldest, StepEnd, placed_writes}
use Rattle.drain_core.proofs.EnteringChannel.{may_open, opening_early, may_write, writing_early, fits_write, may_shut, shutting_early, entered_awake, entered_closed, entered_start, entered_rests, entered_enter, entered_clock}
use Rattle.drain_core.proofs.PendingPlaces.{pending_lies, none_pending, first_and_rest}
use Rattle.drain_core.proofs.steps.entry_step.Goals as goal

pub returns-in_err-_number-clause-enters : goal.returns-in_err-_number-clause-enters
returns-in_err-_number-clause-enters c =
    let s = c.args.channel.now in
    subst (λ (end : Option StepEnd). EntersOldest c.args.numbers.now s c.args.clock end s) (sym c.from_residual.ensures) (none_pending s c.always.ensures.contents (sym c.oldest.ensures ∙ c.in_err-_number.was), refl)

pub issue_next-opened-requires-clause-may : goal.issue_next-opened-requires-clause-may
issue_next-opened-requires-clause-may c =
    let s = c.args.channel.now in
    let place = c.in_ok-_number.place in
    let lies = pending_lies s 0 (c.in_ok-_number._number, place) c.always.ensures.contents (sym c.oldest.ensures ∙ c.in_ok-_number.was) in
    may_open c.args.numbers.now s c.args.clock place c.bank_address-at.ensures c.requires.enter lies c.refresh-refreshed.ensures.goes

pub issue_next-opened-requires-clause-early : goal.issue_next-opened-requires-clause-early
issue_next-opened-requires-clause-early c =
    let s = c.args.channel.now in
    let place = c.in_ok-_number.place in
    let lies = pending_lies s 0 (c.in_ok-_number._number, place) c.always.ensures.contents (sym c.oldest.ensures ∙ c.in_ok-_number.was) in
    opening_early c.args.numbers.now s c.args.clock place c.bank_address-at.ensures c.requires.enter lies c.refresh-refreshed.ensures.goes c.requires.early

pub issue_next-written-requires-clause-may : goal.issue_next-written-requires-clause-may
issue_next-written-requires-clause-may c =
    let s = c.args.channel.now in
    let place = c.in_ok-_number.place in
    let lies = pending_lies s 0 (c.in_ok-_number._number, place) c.always.ensures.contents (sym c.oldest.ensures ∙ c.in_ok-_number.was) in
    may_write c.args.numbers.now s c.args.clock place c.bank_address-at.ensures c.requires.enter lies c.refresh-refreshed.ensures.goes c.issue_next-opened.ensures.on

pub issue_next-written-requires-clause-early : goal.issue_next-written-requires-clause-early
issue_next-written-requires-clause-early c =
    let s = c.args.channel.now in
    let place = c.in_ok-_number.place in
    let lies = pending_lies s 0 (c.in_ok-_number._number, place) c.always.ensures.contents (sym c.oldest.ensures ∙ c.in_ok-_number.was) in
    writing_early c.args.numbers.now s c.args.clock place c.bank_address-at.ensures c.requires.enter lies c.refresh-refreshed.ensures.goes c.issue_next-opened.ensures.on c.requires.early

pub issue_next-written-requires-clause-oldest : goal.issue_next-written-requires-clause-oldest
issue_next-written-requires-clause-oldest c =
    let s = c.args.channel.now in
    let place = c.in_ok-_number.place in
    let first = sym c.oldest.ensures ∙ c.in_ok-_number.was in
    let lies = pending_lies s 0 (c.in_ok-_number._number, place) c.always.ensures.contents first in
    fits_write c.args.numbers.now s c.args.clock place c.bank_address-at.ensures c.requires.enter lies c.refresh-refreshed.ensures.goes c.issue_next-opened.ensures.on c.in_ok-_number._number first

pub issue_next-closed-requires-clause-may : goal.issue_next-closed-requires-clause-may
issue_next-closed-requires-clause-may c =
    let s = c.args.channel.now in
    let place = c.in_ok-_number.place in
    let lies = pending_lies s 0 (c.in_ok-_number._number, place) c.always.ensures.contents (sym c.oldest.ensures ∙ c.in_ok-_number.was) in
    may_shut c.args.numbers.now s c.args.clock place c.bank_address-at.ensures c.requires.enter lies c.refresh-refreshed.ensures.goes c.issue_next-opened.ensures.on c.issue_next-written.ensures.on

pub issue_next-closed-requires-clause-early : goal.issue_next-closed-requires-clause-early
issue_next-closed-requires-clause-early c =
    let s = c.args.channel.now in
    let place = c.in_ok-_number.place in
    let lies = pending_lies s 0 (c.in_ok-_number._number, place) c.always.ensures.contents (sym c.oldest.ensures ∙ c.in_ok-_number.was) in
    shutting_early c.args.numbers.now s c.args.clock place c.bank_address-at.ensures c.requires.enter lies c.refresh-refreshed.ensures.goes c.issue_next-opened.ensures.on c.issue_next-written.ensures.on c.requires.early

pub rested_clock-requires-clause-awake : goal.rested_clock-requires-clause-awake
rested_clock-requires-clause-awake c =
    let s = c.args.channel.now in
    let place = c.in_ok-_number.place in
    let lies = pending_lies s 0 (c.in_ok-_number._number, place) c.always.ensures.contents (sym c.oldest.ensures ∙ c.in_ok-_number.was) in
    entered_awake c.args.numbers.now s c.args.clock place c.bank_address-at.ensures c.requires.enter lies c.refresh-refreshed.ensures.goes c.issue_next-opened.ensures.on c.issue_next-written.ensures.on c.issue_next-closed.ensures.on

pub rested_clock-requires-clause-closed : goal.rested_clock-requires-clause-closed
rested_clock-requires-clause-closed c =
    let s = c.args.channel.now in
    let place = c.in_ok-_number.place in
    let lies = pending_lies s 0 (c.in_ok-_number._number, place) c.always.ensures.contents (sym c.oldest.ensures ∙ c.in_ok-_number.was) in
    entered_closed c.args.numbers.now s c.args.clock place c.bank_address-at.ensures c.requires.enter lies c.refresh-refreshed.ensures.goes c.issue_next-opened.ensures.on c.issue_next-written.ensures.on c.issue_next-closed.ensures.on

pub rested_clock-requires-clause-from : goal.rested_clock-requires-clause-from
rested_clock-requires-clause-from c =
    let s = c.args.channel.now in
    let place = c.in_ok-_number.place in
    let lies = pending_lies s 0 (c.in_ok-_number._number, place) c.always.ensures.contents (sym c.oldest.ensures ∙ c.in_ok-_number.was) in
    entered_start c.args.numbers.now s c.args.clock place c.bank_address-at.ensures c.requires.enter lies c.refresh-refreshed.ensures.goes c.issue_next-opened.ensures.on c.issue_next-written.ensures.on c.issue_next-closed.ensures.on

pub returns-clause-enters : goal.returns-clause-enters
returns-clause-enters c =
    let s = c.args.channel.now in
    let place = c.in_ok-_number.place in
    let first = sym c.oldest.ensures ∙ c.in_ok-_number.was in
    let lies = pending_lies s 0 (c.in_ok-_number._number, place) c.always.ensures.contents first in
    let list = first_and_rest (placed_writes s) (c.in_ok-_number._number, place) first in
    (c.in_ok-_number._number, place, list.0, list.1, entered_rests c.args.numbers.now s c.args.clock place c.bank_address-at.ensures c.requires.enter lies c.refresh-refreshed.ensures.goes c.issue_next-opened.ensures.on c.issue_next-written.ensures.on c.issue_next-closed.ensures.on c.rested_clock.result c.rested_clock.ensures)

pub returns-clause-between : goal.returns-clause-between
returns-clause-between c =
    let s = c.args.channel.now in
    let place = c.in_ok-_number.place in
    let lies = pending_lies s 0 (c.in_ok-_number._number, place) c.always.ensures.contents (sym c.oldest.ensures ∙ c.in_ok-_number.was) in
    entered_enter c.args.numbers.now s c.issue_next-closed.new.channel c.args.clock place (record { clock = c.rested_clock.result; cost = c.issue_next-closed.result.cost }) c.requires.enter lies (entered_rests c.args.numbers.now s c.args.clock place c.bank_address-at.ensures c.requires.enter lies c.refresh-refreshed.ensures.goes c.issue_next-opened.ensures.on c.issue_next-written.ensures.on c.issue_next-closed.ensures.on c.rested_clock.result c.rested_clock.ensures)

pub returns-clause-clocks : goal.returns-clause-clocks
returns-clause-clocks c =
    let s = c.args.channel.now in
    let place = c.in_ok-_number.place in
    let lies = pending_lies s 0 (c.in_ok-_number._number, place) c.always.ensures.contents (sym c.oldest.ensures ∙ c.in_ok-_number.was) in
    entered_clock c.args.numbers.now s c.issue_next-closed.new.channel c.args.clock place (record { clock = c.rested_clock.result; cost = c.issue_next-closed.result.cost }) c.requires.enter lies (entered_rests c.args.numbers.now s c.args.clock place c.bank_address-at.ensures c.requires.enter lies c.refresh-refreshed.ensures.goes c.issue_next-opened.ensures.on c.issue_next-written.ensures.on c.issue_next-closed.ensures.on c.rested_clock.result c.rested_clock.ensures)
