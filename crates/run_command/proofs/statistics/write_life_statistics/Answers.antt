use Rattle.std.proofs.Common.{ℕ, List, ◌++◌, codes, refl}
use Rattle.std.specs.Io.KnownBytes.{Appends}
use Rattle.std.proofs.lemmas.Result.{on_ok_weaker}
use Rattle.report_fields.specs.Fields.{fields_in}
use Rattle.statistics_report.specs.Waits.{life_fields, waits_fields}
use Rattle.run_command.specs.Lives.{TellsNumbers}
use Rattle.run_command.proofs.Written.{wrote_four}
use Rattle.run_command.proofs.statistics.write_life_statistics.Goals as goal

pub returns : goal.returns
returns g c =
    let contents = g.W.Write.contents in
    let is_json = c.args.is_json in
    let life = fields_in is_json (codes "life") (life_fields c.args.number) in
    let reads = fields_in is_json (codes "waits") (waits_fields (codes "reads") c.args.waits.now.reads) in
    let writes = fields_in is_json (codes "waits") (waits_fields (codes "writes") c.args.waits.now.writes) in
    let numbers : (text : List ℕ) × TellsNumbers c.args.rules.now is_json c.args.life.now text
    × Appends (contents c.write_life.new.writer) (contents c.write_numbers.new.writer) text = c.in_ok-write_numbers.ensures in
    on_ok_weaker c.write_waits-2.result (λ last. (
      life ++ (numbers.0 ++ (reads ++ writes)),
      record { numbers = numbers.0; numbers_are = numbers.1; is = refl },
      wrote_four (contents c.args.writer.now) (contents c.write_life.new.writer) (contents c.write_numbers.new.writer) (contents c.write_waits.new.writer) (contents c.write_waits-2.new.writer)
          life numbers.0 reads writes c.in_ok-write_life.ensures numbers.2 c.in_ok-write_waits.ensures last,
    )) c.write_waits-2.ensures
