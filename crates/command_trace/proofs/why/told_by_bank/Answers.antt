use Rattle.std.proofs.Common.{◌≡◌, List, length, refl, ap, inr, arith}
use Rattle.ddr4_timing.specs.declared.command.Stamped.{Stamped}
use Rattle.command_trace.proofs.why.told_by_bank.Goals as goal

pub returns : goal.returns
returns c u listed next late =
    let size : length c.args.commands.now ≡ length u.list = ap (λ (l : List Stamped). length l) listed in
    record {
      broken = inr (next, late, refl);
      second = size;
      command = refl;
      line = refl;
      first = λ within. absurd (omega (arith, within, size));
      first_line = λ within. absurd (omega (arith, within, size));
      reason = (refl, refl);
    }
