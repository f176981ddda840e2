use Rattle.std.proofs.Common.{◌≡◌, rules, sym}
use Rattle.std.specs.Prelude.{IsNone}
use Rattle.tests_channel.proofs.tests.last_start.drain_behind.Goals as goal

pub drain_opened-requires-clause-lawful : goal.drain_opened-requires-clause-lawful
drain_opened-requires-clause-lawful g c =
    let none : IsNone c.first_fault.result = search rules in
    let same : c.args.channel.now.checked ≡ c.args.checked.now = search rules in
    let timing : c.args.checked.now.timing ≡ c.rules.result.timing = sym c.rules.ensures.timing in
    let geometry : c.args.checked.now.geometry ≡ c.rules.result.geometry = sym c.rules.ensures.geometry in
    rw same (rw timing (rw geometry (c.first_fault.ensures.lawful.0 none)))
