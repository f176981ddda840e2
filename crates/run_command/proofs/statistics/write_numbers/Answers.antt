use Rattle.std.proofs.Common.{◌≡◌, List, subst}
use Rattle.std.proofs.lemmas.Result.{on_ok_weaker}
use Rattle.ddr4_timing.specs.declared.command.Stamped.{Stamped}
use Rattle.trace_statistics.specs.Lists.{AreEarly, located_from}
use Rattle.trace_statistics.specs.Telling.{IsMeasured}
use Rattle.run_command.proofs.Written.{lines_told, objects_told}
use Rattle.run_command.proofs.statistics.write_numbers.Goals as goal

pub returns-then-is_json : goal.returns-then-is_json
returns-then-is_json g c =
    let measured = c.measure_lists-measured.result in
    let known = c.measure_lists-measured.ensures in
    let is : IsMeasured c.args.rules.now measured = record { follows = known.follows; lawful = known.lawful; rules = known.rules } in
    let given = subst (λ (lists : List (List Stamped)). AreEarly lists → measured.check.given.items ≡ located_from 0 lists) c.channels.ensures known.given in
    on_ok_weaker c.write_statistics.result
    (λ told. (told.0, objects_told c.args.rules.now c.args.life.now measured.check.given.items told.0 given c.args.is_json c.if-is_json.true told.1, told.2))
    (c.write_statistics.ensures is)

pub returns-else-is_json : goal.returns-else-is_json
returns-else-is_json g c =
    let measured = c.measure_lists-measured.result in
    let known = c.measure_lists-measured.ensures in
    let is : IsMeasured c.args.rules.now measured = record { follows = known.follows; lawful = known.lawful; rules = known.rules } in
    let given = subst (λ (lists : List (List Stamped)). AreEarly lists → measured.check.given.items ≡ located_from 0 lists) c.channels.ensures known.given in
    on_ok_weaker c.write_statistics-else-is_json.result
    (λ told. (told.0, lines_told c.args.rules.now c.args.life.now measured.check.given.items told.0 given c.args.is_json c.if-is_json.false told.1, told.2))
    (c.write_statistics-else-is_json.ensures is)
