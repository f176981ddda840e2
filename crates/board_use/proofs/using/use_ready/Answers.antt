use Rattle.std.proofs.Common.{◌∙◌, List, ap, refl, sym, subst}
use Rattle.board_desk.specs.Desk.{shape_named}
use Rattle.board_use.specs.Ends.{EndsLife, answers_of, receipts_of, shape_beside}
use Rattle.board_use.specs.declared.hosting.HostEnd.{HostEnd}
use Rattle.board_use.proofs.Ends.{ends_by}
use Rattle.board_use.proofs.Named.{named_shape}
use Rattle.board_use.proofs.Used.{leaves_all}
use Rattle.board_use.proofs.using.use_ready.Goals as goal

pub returns-in_default-clause-unused : goal.returns-in_default-clause-unused
returns-in_default-clause-unused g c =
    leaves_all g.D.SaveDevice g.E.Energy _ _ _ _ c.no_memory.result c.no_memory.ensures.why c.no_memory.ensures.device c.no_memory.ensures.energy

pub returns-in-Err-clause-unused : goal.returns-in-Err-clause-unused
returns-in-Err-clause-unused g c =
    leaves_all g.D.SaveDevice g.E.Energy _ _ _ _ c.no_memory-in-Err.result c.no_memory-in-Err.ensures.why
    (c.no_memory-in-Err.ensures.device ∙ ap (λ r. r.device) c.in-Err.ensures.recorded) (c.no_memory-in-Err.ensures.energy ∙ ap (λ r. r.energy) c.in-Err.ensures.recorded)

pub returns-then-refused-clause-unused : goal.returns-then-refused-clause-unused
returns-then-refused-clause-unused g c =
    let P = g.B.PartsName in let it = c.args.ready.recorded in let hosts = c.as_slice.result.now in
    record {
      life = c.close_checked-life.result;
      device_is = refl;
      energy_is = refl;
      receipts = receipts_of hosts;
      answers = answers_of hosts;
      ends = ends_by g.D.SaveDevice g.E.Energy (shape_named P) (shape_beside _ it) P.base it.history.base (receipts_of hosts) (answers_of hosts) c.close_checked-life.result
          (named_shape _ g.B.Ledger g.B.BoardName P c.args.ready.tables it c.requires.named) (sym c.requires.named.base) c.close_checked-life.ensures;
    }

pub returns-else-len-hosts-clause-used : goal.returns-else-len-hosts-clause-used
returns-else-len-hosts-clause-used g c =
    let P = g.B.PartsName in let it = c.args.ready.recorded in
    subst (λ (hosts : List (HostEnd _)). ∥ (EndsLife g.D.SaveDevice g.E.Energy (shape_beside _ it) it.history.base (receipts_of hosts) (answers_of hosts) c.close_checked-life.result) ∥₁)
    c.as_slice.ensures.value
    (ends_by g.D.SaveDevice g.E.Energy (shape_named P) (shape_beside _ it) P.base it.history.base (receipts_of c.as_slice.result.now) (answers_of c.as_slice.result.now) c.close_checked-life.result
    (named_shape _ g.B.Ledger g.B.BoardName P c.args.ready.tables it c.requires.named) (sym c.requires.named.base) c.close_checked-life.ensures)
