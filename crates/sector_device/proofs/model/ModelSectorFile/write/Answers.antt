use Rattle.std.specs.Prelude.{is_ok}
use Rattle.file_device.specs.Model.{kept_of}
use Rattle.sector_device.proofs.Touching.{puts_touched}
use Rattle.sector_device.proofs.model.ModelSectorFile.write.Goals as goal

pub returns : goal.returns
returns c =
    let old = kept_of c.args.self.now.file in let mid = kept_of c.unsettle.new.self.file in
    puts_touched c.args.at c.args.bytes.now (is_ok c.put.result) old mid (kept_of c.put.new.self) c.unsettle.ensures.bytes c.unsettle.ensures.stale c.unsettle.ensures.unsettled c.put.ensures
