use Rattle.std.proofs.Common.{◌≡◌, ap, false, is_none, true}
use Rattle.run_command.proofs.Growing.{if_ok_so, told_behind}
use Rattle.run_command.proofs.script.run_read.Goals as goal

pub returns-in-Some-commands : goal.returns-in-Some-commands
returns-in-Some-commands g c =
    let unless : c.args.words.stats ≡ false → is_none c.in_ok-answers.answers ≡ true = λ none. ap is_none (c.in_ok-answers.ensures.alone none) in
    if_ok_so c.write_lives.result (told_behind _ _ _ _ _ _ _ _ unless c.in_ok-answers.ensures.told c.in_ok-write_behind.ensures)
