use Rattle.std.proofs.Common.{rules}
use Rattle.nv_script.proofs.Words.{no_filled_line}
use Rattle.nv_script.proofs.reading.line_with_two.Goals as goal

pub returns-in_err-byte-in-write-clause-none : goal.returns-in_err-byte-in-write-clause-none
returns-in_err-byte-in-write-clause-none c =
    let none = no_filled_line c.args.geometry.now c.args.verb.now c.args.first.now c.args.second.now c.in-write.is c.in_err-byte-in-write.ensures.none in
    search (rules, none)
