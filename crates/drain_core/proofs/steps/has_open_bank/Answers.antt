use Rattle.std.proofs.Common.{◌∙◌}
use Rattle.drain_core.proofs.OpenBanks.{tells_open_bank}
use Rattle.drain_core.proofs.steps.has_open_bank.Goals as goal

pub returns : goal.returns
returns c =
    let s = c.args.channel.now in
    c.is_some.ensures ∙ tells_open_bank s.checked s.commands c.args.rank c.earliest.result c.requires.rank c.requires.awake c.earliest.ensures
