use Rattle.std.proofs.Common.{codes}
use Rattle.report_fields.specs.Fields.{fields_in}
use Rattle.report_json.specs.Crashes.{stop_fields}
use Rattle.command_line.proofs.Stops.{one_more_stop}
use Rattle.command_line.proofs.crash.write_stops.Goals as goal

pub loop-at_stop-preserved-in-Some-2 : goal.loop-at_stop-preserved-in-Some-2
loop-at_stop-preserved-in-Some-2 g c =
    one_more_stop (g.W.Write.contents c.args.writer.now) (g.W.Write.contents c.loop-at_stop.writer) (g.W.Write.contents c.write_stop.new.writer)
    (fields_in c.args.is_json (codes "stop") (stop_fields c.in-Some-2.told)) c.loop-at_stop.invariant c.in_ok-write_stop.ensures
