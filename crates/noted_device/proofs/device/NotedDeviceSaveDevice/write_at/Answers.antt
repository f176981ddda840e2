use Rattle.std.proofs.Common.{◌∙◌, ap, sym}
use Rattle.save_device.specs.Changes.{Put, changed}
use Rattle.save_device.specs.Memory.{state_of}
use Rattle.noted_device.proofs.Making.{if_good, made_more, on_ok}
use Rattle.noted_device.proofs.device.NotedDeviceSaveDevice.write_at.Goals as goal

pub invariant_of-self-2 : goal.invariant_of-self-2
invariant_of-self-2 c =
    let old = c.args.self.now in let change = (Put c.args.at c.args.bytes.now) in let made = c.write_at.ensures.makes in
    record {
      one = old.one;
      tells = λ first is.
          made_more old.handed.items old.notes.items c.note_write.new.notes.items change (state_of first).bytes (if_good c.note_write.result _ (sym c.is_err.ensures.value ∙ c.if-is_err.false) c.note_write.ensures.noted)
          ∙ ap (changed change) (old.tells first is) ∙ sym (on_ok c.write_at.result c.write_at.ensures.ok made.done);
    }
