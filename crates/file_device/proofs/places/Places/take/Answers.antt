use Rattle.std.proofs.Common.{arith}
use Rattle.file_device.proofs.FlagRows.{takes, still_within}
use Rattle.file_device.proofs.places.Places.take.Goals as goal

pub invariant_of-self : goal.invariant_of-self
invariant_of-self c =
    let m = c.args.self.now in
    record {
      spanned = still_within m.flags.items c.put_flags.new.flags.items c.args.at c.args.n c.requires c.put_flags.ensures m.low m.high m.spanned;
      inside = omega (arith, m.inside, (takes m.flags.items c.put_flags.new.flags.items c.args.at c.args.n c.requires c.put_flags.ensures).size);
    }

pub returns : goal.returns
returns c = takes c.args.self.now.flags.items c.put_flags.new.flags.items c.args.at c.args.n c.requires c.put_flags.ensures
