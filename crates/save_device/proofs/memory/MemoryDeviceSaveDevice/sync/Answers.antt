use Rattle.std.proofs.Common.{ℕ, List, subst, refl}
use Rattle.save_device.specs.Flags.{CopiedWithin}
use Rattle.save_device.specs.Memory.{state_of}
use Rattle.save_device.proofs.Noted.{noted, elapses_noted}
use Rattle.save_device.proofs.Rows.{all_copied, none_up}
use Rattle.save_device.proofs.memory.MemoryDeviceSaveDevice.sync.Goals as goal

pub returns-clause-makes : goal.returns-clause-makes
returns-clause-makes c =
    let old = state_of c.args.self.now in let m = c.args.self.now in
    record {
      call = record { counted = c.note-2.ensures; time = elapses_noted old _ (noted m.earlier.items c.note.new.self.items m.content c.note.ensures) };
      done = refl;
      settled = none_up m.span.low m.span.high m.content.unsettled.items c.clear.new.flags.items m.spanned c.clear.ensures;
      outside = record { size = refl; outside = λ place out. refl };
      unsettled = λ place up. absurd (none_up m.span.low m.span.high m.content.unsettled.items c.clear.new.flags.items m.spanned c.clear.ensures place up);
    }

pub returns-clause-settled_row : goal.returns-clause-settled_row
returns-clause-settled_row c =
    let m = c.args.self.now in
    all_copied m.span.low m.span.high m.content.bytes.items m.settled.items c.copy.new.to.items m.content.unsettled.items m.whole m.spanned m.agrees
    (subst (λ (row : List ℕ). CopiedWithin m.span.low m.span.high row m.settled.items c.copy.new.to.items) c.deref.ensures.value c.copy.ensures)
