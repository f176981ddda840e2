use Rattle.std.proofs.Common.{List, IfOk, codes, subst}
use Rattle.report_fields.specs.Fields.{Field}
use Rattle.report_fields.specs.Parts.{IsTold}
use Rattle.report_json.proofs.Tables.{row_is}
use Rattle.report_json.proofs.crashes.tell_row.Goals as goal

pub returns : goal.returns
returns c = subst (λ (fields : List Field). IfOk c.tell.result (IsTold (codes "outcome") fields))
    (row_is c.args.row.now c.in_ok-restore.restore c.held-held.result c.in_ok-restore.ensures c.held-held.ensures) c.tell.ensures
