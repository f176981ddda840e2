use Rattle.ddr4_timing.proofs.command.Command.rank.Goals as goal

pub returns : goal.returns
returns c = search
