use Rattle.std.proofs.Common.{◌+◌, ◌≤◌, Bool, length, subst}
use Rattle.file_device.specs.Kept.{Kept}
use Rattle.sector_device.specs.Sectors.{PutsSectors}
use Rattle.sector_device.proofs.Steps.{both_on, both_so, put_failed, put_flushed}
use Rattle.sector_device.proofs.device.SectorDevice.put_durably.Goals as goal

pub returns-then-not-put-clause-puts : goal.returns-then-not-put-clause-puts
returns-then-not-put-clause-puts g c =
    let m = c.args.self.now in let K = g.F.SectorFile in let at = c.args.at in let bytes = c.args.bytes.now in
    both_so {A = λ (kept : Kept). at + length bytes ≤ length kept.bytes} (K.kept m.file) (K.kept c.put.new.self.file) c.put.ensures.puts
    (λ kept next fits puts. put_failed at bytes kept next (subst (λ (b : Bool). PutsSectors at bytes b kept next) c.if-not-put.true puts)) c.requires.fits

pub returns-clause-puts : goal.returns-clause-puts
returns-clause-puts g c =
    let m = c.args.self.now in let K = g.F.SectorFile in let at = c.args.at in let bytes = c.args.bytes.now in
    both_on {A = λ (kept : Kept). at + length bytes ≤ length kept.bytes} (K.kept m.file) (K.kept c.put.new.self.file) (K.kept c.flush.new.self.file) c.put.ensures.puts c.flush.ensures.flushes
    (λ kept mid next fits puts flushes. put_flushed at bytes c.flush.result kept mid next fits (subst (λ (b : Bool). PutsSectors at bytes b kept mid) c.if-not-put.false puts) flushes) c.requires.fits
