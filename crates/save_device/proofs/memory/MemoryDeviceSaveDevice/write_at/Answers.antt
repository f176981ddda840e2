use Rattle.std.proofs.Common.{length, true, replicate, refl, sym, ◌∙◌, arith}
use Rattle.std.proofs.lemmas.List.{length-replicate}
use Rattle.save_device.specs.Memory.{state_of}
use Rattle.save_device.proofs.Noted.{noted, elapses_noted}
use Rattle.save_device.proofs.Rows.{holds-length, still_agrees, still_spanned, differs_within, raised_flags}
use Rattle.save_device.proofs.memory.MemoryDeviceSaveDevice.write_at.Goals as goal

pub invariant_of-self : goal.invariant_of-self
invariant_of-self c =
    let m = c.args.self.now in
    let n = length c.args.bytes.now in
    let one = holds-length m.content.bytes.items c.overwrite.new.row.items c.args.bytes.now c.args.at n refl c.requires c.overwrite.ensures in
    let two = holds-length m.content.unsettled.items c.raise.new.flags.items (replicate n true) c.args.at n (sym (length-replicate n true)) (omega (arith, m.flags, c.requires)) c.raise.ensures in
    record {
      small = omega (arith, m.small, one);
      flags = two ∙ m.flags ∙ sym one;
      whole = m.whole ∙ sym one;
      agrees = still_agrees m.settled.items m.content.bytes.items c.overwrite.new.row.items c.args.bytes.now m.content.unsettled.items c.raise.new.flags.items c.args.at m.flags c.requires c.overwrite.ensures c.raise.ensures m.agrees;
      spanned = still_spanned m.content.unsettled.items c.raise.new.flags.items c.args.at n m.span.low m.span.high c.with-self.result.low c.with-self.result.high (omega (arith, m.flags, c.requires)) c.raise.ensures c.with-self.ensures.low c.with-self.ensures.high m.spanned;
      inside = omega (arith, one, c.with-self.ensures.high, m.inside, c.requires);
    }

pub returns-clause-makes : goal.returns-clause-makes
returns-clause-makes c =
    let old = state_of c.args.self.now in let m = c.args.self.now in let n = length c.args.bytes.now in
    record {
      call = record { counted = c.note-2.ensures; time = elapses_noted old _ (noted m.earlier.items c.note.new.self.items m.content c.note.ensures) };
      done = c.overwrite.ensures;
      settled = tt;
      outside = differs_within m.content.bytes.items c.overwrite.new.row.items c.args.bytes.now c.args.at c.requires c.overwrite.ensures;
      unsettled = λ place. (raised_flags m.content.unsettled.items c.raise.new.flags.items c.args.at n (omega (arith, m.flags, c.requires)) c.raise.ensures place).0;
    }

pub returns-clause-unsettled : goal.returns-clause-unsettled
returns-clause-unsettled c =
    raised_flags c.args.self.now.content.unsettled.items c.raise.new.flags.items c.args.at (length c.args.bytes.now) (omega (arith, c.args.self.now.flags, c.requires)) c.raise.ensures
