use Rattle.std.proofs.Common.{◌∙◌, ap, sym}
use Rattle.save_device.specs.Changes.{Settle, changed}
use Rattle.save_device.specs.Memory.{state_of}
use Rattle.noted_device.proofs.Making.{if_good, made_more, on_ok}
use Rattle.noted_device.proofs.device.NotedDeviceSaveDevice.sync.Goals as goal

pub invariant_of-self-2 : goal.invariant_of-self-2
invariant_of-self-2 c =
    let old = c.args.self.now in let change = Settle in let made = c.sync.ensures.makes in
    record {
      one = old.one;
      tells = λ first is.
          made_more old.handed.items old.notes.items c.note_sync.new.notes.items change (state_of first).bytes (if_good c.note_sync.result _ (sym c.is_err.ensures.value ∙ c.if-is_err.false) c.note_sync.ensures.noted)
          ∙ ap (changed change) (old.tells first is) ∙ sym (on_ok c.sync.result c.sync.ensures.ok made.done);
    }
