use Rattle.save_device.proofs.ReadRuns.{one_read}
use Rattle.slot_store.proofs.Common.{Bool, OnlyReads, on_err}
use Rattle.slot_store.proofs.headers.read_page.Goals as goal

pub returns-in_err-read-clause-reads : goal.returns-in_err-read-clause-reads
returns-in_err-read-clause-reads g c =
    let S = g.D.SaveDevice in let old = S.state c.args.device.now in let new = S.state c.read.new.self in
    on_err c.from_residual.result (λ (good : Bool). OnlyReads 1 good old new) c.from_residual.ensures.0 (one_read _ old new c.in_err-read.ensures.call c.in_err-read.ensures.same)

pub returns-clause-reads : goal.returns-clause-reads
returns-clause-reads g c =
    let S = g.D.SaveDevice in one_read _ (S.state c.args.device.now) (S.state c.read.new.self) c.in_ok-read.ensures.call c.in_ok-read.ensures.same
