use Rattle.std.proofs.Common.{arith}
use Rattle.save_device.proofs.Rows.{still_spanned}
use Rattle.file_device.proofs.FlagRows.{adds}
use Rattle.file_device.proofs.places.Places.add.Goals as goal

pub invariant_of-self : goal.invariant_of-self
invariant_of-self c =
    let m = c.args.self.now in
    record {
      spanned = still_spanned m.flags.items c.put_flags.new.flags.items c.args.at c.args.n m.low m.high _ _ c.requires c.put_flags.ensures c.min-self.ensures c.max-self.ensures m.spanned;
      inside = omega (arith, c.max-self.ensures, m.inside, c.requires, (adds m.flags.items c.put_flags.new.flags.items c.args.at c.args.n c.requires c.put_flags.ensures).size);
    }

pub returns : goal.returns
returns c = adds c.args.self.now.flags.items c.put_flags.new.flags.items c.args.at c.args.n c.requires c.put_flags.ensures
