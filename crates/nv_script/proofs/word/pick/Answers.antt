use Rattle.std.proofs.Common.{◌≡◌, ◌++◌, codes, rules}
use Rattle.nv_script.proofs.Words.{no_pick}
use Rattle.nv_script.proofs.word.pick.Goals as goal

pub returns-in_err-byte-in_default-clause-none : goal.returns-in_err-byte-in_default-clause-none
returns-in_err-byte-in_default-clause-none c =
    let begins : c.args.word.now ≡ codes "torn" ++ c.in_ok-torn-in_default.torn.now = search rules in
    let none = no_pick c.args.word.now c.in_ok-torn-in_default.torn.now c.in_default.not-old c.in_default.not-new begins c.in_err-byte-in_default.ensures.none in
    search (rules, none)
