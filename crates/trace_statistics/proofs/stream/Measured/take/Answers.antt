use Rattle.std.proofs.Common.{refl, subst, sym}
use Rattle.ddr4_timing.specs.Lawful.{IsInGeometry}
use Rattle.ddr4_timing.specs.declared.timing.CommandRules.{CommandRules}
use Rattle.trace_statistics.proofs.Channels.{counted_next, in_geometry_next, left_next}
use Rattle.trace_statistics.proofs.stream.Measured.take.Goals as goal

pub take-requires-then-take-clause-place : goal.take-requires-then-take-clause-place
take-requires-then-take-clause-place c =
    subst (λ (r : CommandRules). IsInGeometry r.geometry c.args.next.now.entry.command.cmd) (sym c.requires.rules)
    (in_geometry_next c.args.rules.now c.args.self.now.check.given.items c.take.new.self.given.items c.args.next.now c.if-take.ensures.adds
    ((c.if-take.ensures.lawful c.requires.follows).0 refl))

pub returns-then-take-clause-lawful : goal.returns-then-take-clause-lawful
returns-then-take-clause-lawful c of =
    counted_next c.args.rules.now c.args.self.now.check.given.items c.take.new.self.given.items c.args.self.now.statistics.given.items c.take-then-take.new.self.given.items c.args.next.now
    c.if-take.ensures.adds c.take-then-take.ensures.adds of

pub returns-else-take-clause-lawful : goal.returns-else-take-clause-lawful
returns-else-take-clause-lawful c of =
    left_next c.args.rules.now c.args.self.now.check.given.items c.take.new.self.given.items c.args.self.now.statistics.given.items c.args.self.now.statistics.given.items c.args.next.now
    c.if-take.ensures.adds refl (λ l. absurd (let t = (c.if-take.ensures.lawful c.requires.follows).1 l in cc)) of
